-- What is left of the operands of a block, told by tests.
use Rattle.std.proofs.Common.{Bool, false, List, Option, Some, None, IsTrue, refl, sym, subst}
use Rattle.w_types.specs.declared.types.RecGroup.{RecGroup}
use Rattle.w_types.specs.declared.types.ValType.{ValType}
use Rattle.lists.specs.Rows.{Row, ε, ◌▹◌}
use Rattle.lists.proofs.Rows.{unit_left}
use Rattle.w_canon.specs.declared.entry.Entry.{Entry}
use Rattle.w_rules.specs.View.{AreClasses}
use Rattle.w_rules.specs.Operands.{Operand}
use Rattle.w_rules.specs.Conditions.{Holds}
use Rattle.w_rules.specs.Context.{Context, Arrow}
use Rattle.w_rules.specs.Matching.{RowMatches, none, more, known}
use Rattle.w_flow.specs.Flow.{Covers, pops, none_left, ends}
use Rattle.w_vplain.specs.Frames.{end_test}
use Rattle.w_steps.specs.declared.frame_kind.FrameKind.{FrameKind}
use Rattle.w_steps.specs.declared.frame_kind.FrameKind.TheVariants as kind
use Rattle.w_flow.proofs.Covers.{pops_in, pops_out}

-- where no more may lie beneath, what is covered is what the operands match
pub covers_matches : (gs : List RecGroup) (ts us : Row Operand) → Covers gs false ts us → RowMatches gs ts us
covers_matches gs ε ε h = none
covers_matches gs ε (us ▹ u) h = absurd (cc)
covers_matches gs (ts ▹ t) ε h = absurd h
covers_matches gs (ts ▹ t) (us ▹ u) h = more (covers_matches gs ts us h.0) h.1

-- the same, by the cases of matching
rows_cover : (gs : List RecGroup) {ts us : Row Operand} → RowMatches gs ts us → Covers gs false ts us
rows_cover gs none = tt
rows_cover gs (more r h) = (rows_cover gs r, h)

-- and the other way
pub matches_covers : (gs : List RecGroup) (ts us : Row Operand) → RowMatches gs ts us → Covers gs false ts us
matches_covers gs ts us h = rows_cover gs h

-- the empty row is covered by what is left only where nothing is left
none_left_in : (gs : List RecGroup) (p : Bool) (o : Option (Row Operand)) → Holds o (λ (w : Row Operand). Covers gs p w ε) → IsTrue (none_left o)
none_left_in gs p None h = absurd h
none_left_in gs p (Some ε) h = refl
none_left_in gs p (Some (ts ▹ t)) h = absurd h

-- and the other way
none_left_out : (gs : List RecGroup) (p : Bool) (o : Option (Row Operand)) → IsTrue (none_left o) → Holds o (λ (w : Row Operand). Covers gs p w ε)
none_left_out gs p None h = absurd (cc)
none_left_out gs p (Some ε) h = tt
none_left_out gs p (Some (ts ▹ t)) h = absurd (cc)

-- the operands are these exactly where these are covered
pub ends_in : (gs : List RecGroup) (es : List Entry) → AreClasses gs es → (p : Bool) (ts : Row Operand) (us : Row ValType) → Covers gs p ts (known us) → IsTrue (ends es p ts us)
ends_in gs es st p ts us h =
    none_left_in gs p (pops es p ts us) (pops_in gs es st p ts us ε (subst (λ (vs : Row Operand). Covers gs p ts vs) (sym (unit_left (known us))) h))

-- and the other way
pub ends_out : (gs : List RecGroup) (es : List Entry) → AreClasses gs es → (p : Bool) (ts : Row Operand) (us : Row ValType) → IsTrue (ends es p ts us) → Covers gs p ts (known us)
ends_out gs es st p ts us h =
    subst (λ (vs : Row Operand). Covers gs p ts vs) (unit_left (known us)) (pops_out gs es st p ts us ε (none_left_out gs p (pops es p ts us) h))

-- what else is asked at the end of a block
abbrev pub EndTest : Context → FrameKind → Arrow → Type 0
EndTest c kind.Body a = Unit {0}
EndTest c (kind.Block b x) a = Unit {0}
EndTest c (kind.Then x) a = RowMatches c.types (known a.from) (known a.to)
EndTest c (kind.Else x) a = Unit {0}

-- its test is true
pub end_test_in : (es : List Entry) (c : Context) → AreClasses c.types es → (k : FrameKind) (a : Arrow) → EndTest c k a → IsTrue (end_test es k a)
end_test_in es c st kind.Body a h = refl
end_test_in es c st (kind.Block b x) a h = refl
end_test_in es c st (kind.Then x) a h = ends_in c.types es st false (known a.from) a.to (matches_covers c.types (known a.from) (known a.to) h)
end_test_in es c st (kind.Else x) a h = refl

-- and only then
pub end_test_out : (es : List Entry) (c : Context) → AreClasses c.types es → (k : FrameKind) (a : Arrow) → IsTrue (end_test es k a) → EndTest c k a
end_test_out es c st kind.Body a h = tt
end_test_out es c st (kind.Block b x) a h = tt
end_test_out es c st (kind.Then x) a h = covers_matches c.types (known a.from) (known a.to) (ends_out c.types es st false (known a.from) a.to h)
end_test_out es c st (kind.Else x) a h = tt
