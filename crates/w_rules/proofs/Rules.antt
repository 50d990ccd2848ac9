-- The rules of the standard derive what the definition of typing says.
use Rattle.std.proofs.Common.{◌≡◌, Bool, true, false, List, Option, Some, None, refl, sym, subst}
use Rattle.w_types.specs.declared.types.RecGroup.{RecGroup}
use Rattle.w_types.specs.declared.types.ValType.TheVariants.{I32}
use Rattle.lists.specs.Rows.{Row, ε, ◌▹◌, ◌⧺◌}
use Rattle.lists.proofs.Rows.{unit_left}
use Rattle.w_syntax.specs.Code.{Code, Done, Plain, Block, If, IfElse, after}
use Rattle.w_canon.specs.Supertypes.{KeepsKinds}
use Rattle.w_rules.specs.Operands.{Operand}
use Rattle.w_rules.specs.Operands.{Known}
use Rattle.w_rules.specs.Conditions.{Holds}
use Rattle.w_rules.specs.Context.{Context, Arrow, arrow_of, label_of, labelled}
use Rattle.w_rules.specs.InstructionTypes.{InstrType, fixed, polymorphic, table_polymorphic, drops, selects, tests_null, as_non_null, on_null, untyped, instr_type, sets}
use Rattle.w_rules.specs.Matching.{RowMatches, none, known}
use Rattle.w_rules.specs.Typing.{HasType, HasInstrType, ref_to, set_by, Derives}
use Rattle.w_rules.specs.Family.{Has, has_fixed, has_polymorphic, has_table_polymorphic, has_drops, has_selects, has_tests_null, has_as_non_null, has_on_null, Typed, empty, instruction, block, if_then, if_else, composition, subsumption, OneTyping}
use Rattle.w_rules.proofs.Preorder.{row_refl}
use Rattle.w_rules.proofs.Derive.{derives_left, derives_right, derives_frame, after_in}

-- ## By the rules, and so by the definition

-- a row matches itself with nothing beneath it
under_none : (gs : List RecGroup) (ts : Row Operand) → RowMatches gs ts (ε ⧺ ts)
under_none gs ts = let P : Row Operand → Type 0 = λ us. RowMatches gs ts us in subst P (sym (unit_left ts)) (row_refl gs ts)

-- the same, the other way round
over_none : (gs : List RecGroup) (ts : Row Operand) → RowMatches gs (ε ⧺ ts) ts
over_none gs ts = let P : Row Operand → Type 0 = λ us. RowMatches gs us ts in subst P (sym (unit_left ts)) (row_refl gs ts)

-- a rule itself, with nothing beneath
exactly : (gs : List RecGroup) (ins outs : Row Operand) → HasType gs ins outs ins outs
exactly gs ins outs = record { beneath = ε; takes = under_none gs ins; gives = over_none gs outs }

-- an instruction takes what its rule says
has_takes : (gs : List RecGroup) (l : InstrType) (ts us : Row Operand) → Has gs l ts us → HasInstrType gs l ts us
has_takes gs l ts us (has_fixed ins outs) = exactly gs (known ins) (known outs)
has_takes gs l ts us (has_polymorphic ins beneath vs) = record { beneath = beneath; takes = row_refl gs (beneath ⧺ known ins) }
has_takes gs l ts us (has_table_polymorphic one others beneath ins vs each) =
    record { ins = ins; polymorphic = record { beneath = beneath; takes = row_refl gs ((beneath ⧺ ins) ▹ Known I32) }; each = each }
has_takes gs l ts us (has_drops t) = (t, exactly gs (ε ▹ t) ε)
has_takes gs l ts us (has_selects t n) = (t, n, exactly gs (ε ▹ t ▹ t ▹ Known I32) (ε ▹ t))
has_takes gs l ts us (has_tests_null h) = (h, exactly gs (ε ▹ ref_to true h) (ε ▹ Known I32))
has_takes gs l ts us (has_as_non_null h) = (h, exactly gs (ε ▹ ref_to true h) (ε ▹ ref_to false h))
has_takes gs l ts us (has_on_null vs h) = (h, exactly gs (known vs ▹ ref_to true h) (known vs ▹ ref_to false h))

-- what holds of the value that is there
at_arrow : (o : Option Arrow) (a : Arrow) (P : Arrow → Type 0) → o ≡ Some a → P a → Holds o P
at_arrow o a P e h = let Q : Option Arrow → Type 0 = λ q. Holds q P in subst Q (sym e) h

-- what the rules derive, the definition derives
typed_derives : (c : Context) → KeepsKinds c.types → (s : List Bool) (k : Code) (ts us : Row Operand) → Typed c s k ts us → Derives c s k ts us
typed_derives c keeps s k ts us (empty c' s') = none
typed_derives c keeps s k ts us (instruction c' s' o ts' us' p h) = (p, (us', has_takes c'.types (instr_type c' s' o) ts' us' h, row_refl c'.types us'))
typed_derives c keeps s k ts us (block c' s' kind x a b e d) = at_arrow (arrow_of c' x) a _ e (
  typed_derives (labelled c' (label_of kind a)) keeps s' b (known a.from) (known a.to) d,
  (known a.to, exactly c'.types (known a.from) (known a.to), row_refl c'.types (known a.to)),
)
typed_derives c keeps s k ts us (if_then c' s' x a b e m d) = at_arrow (arrow_of c' x) a _ e (
  m,
  typed_derives (labelled c' a.to) keeps s' b (known a.from) (known a.to) d,
  (known a.to, exactly c'.types (known a.from ▹ Known I32) (known a.to), row_refl c'.types (known a.to)),
)
typed_derives c keeps s k ts us (if_else c' s' x a b l e d f) = at_arrow (arrow_of c' x) a _ e (
  typed_derives (labelled c' a.to) keeps s' b (known a.from) (known a.to) d,
  typed_derives (labelled c' a.to) keeps s' l (known a.from) (known a.to) f,
  (known a.to, exactly c'.types (known a.from ▹ Known I32) (known a.to), row_refl c'.types (known a.to)),
)
typed_derives c keeps s k ts us (composition c' s' k' l ts' vs us' d f) =
    after_in c' keeps s' k' l ts' vs us' (typed_derives c' keeps s' k' ts' vs d) (typed_derives c' keeps (set_by k' s') l vs us' f)
typed_derives c keeps s k ts us (subsumption c' s' k' beneath ts' us' ts'' us'' d m n) =
    derives_left c' keeps s' k' ts'' (beneath ⧺ ts') us'' m
    (derives_right c' keeps s' k' (beneath ⧺ ts') (beneath ⧺ us') us'' (derives_frame c' s' k' beneath ts' us' (typed_derives c' keeps s' k' ts' us' d)) n)

-- ## By the definition, and so by the rules

-- a rule, the operands beneath it, and subsumption
record Framed (gs : List RecGroup) (l : InstrType) (ts us : Row Operand) : Type 0 where
  pub ins : Row Operand
  pub outs : Row Operand
  pub beneath : Row Operand
  pub has : Has gs l ins outs
  pub takes : RowMatches gs ts (beneath ⧺ ins)
  pub gives : RowMatches gs (beneath ⧺ outs) us

-- a step is its rule with operands beneath
steps_framed : (gs : List RecGroup) (l : InstrType) (ins outs ts us : Row Operand) → Has gs l ins outs → HasType gs ins outs ts us → Framed gs l ts us
steps_framed gs l ins outs ts us r h = record { ins = ins; outs = outs; beneath = h.beneath; has = r; takes = h.takes; gives = h.gives }

-- a rule that takes all operands
whole_framed : (gs : List RecGroup) (l : InstrType) (ins ts us : Row Operand) → Has gs l ins us → RowMatches gs ts ins → Framed gs l ts us
whole_framed gs l ins ts us r m = let P : Row Operand → Type 0 = λ vs. RowMatches gs ts vs in
    record { ins = ins; outs = us; beneath = ε; has = r; takes = subst P (sym (unit_left ins)) m; gives = over_none gs us }

-- an instruction is its rule with operands beneath
takes_framed : (gs : List RecGroup) (l : InstrType) (ts us : Row Operand) → HasInstrType gs l ts us → Framed gs l ts us
takes_framed gs (fixed ins outs) ts us h = steps_framed gs (fixed ins outs) (known ins) (known outs) ts us (has_fixed ins outs) h
takes_framed gs (polymorphic ins) ts us h = whole_framed gs (polymorphic ins) (h.beneath ⧺ known ins) ts us (has_polymorphic ins h.beneath us) h.takes
takes_framed gs (table_polymorphic one others) ts us h =
    whole_framed gs (table_polymorphic one others) ((h.polymorphic.beneath ⧺ h.ins) ▹ Known I32) ts us (has_table_polymorphic one others h.polymorphic.beneath h.ins us h.each) h.polymorphic.takes
takes_framed gs drops ts us (t, h) = steps_framed gs drops (ε ▹ t) ε ts us (has_drops t) h
takes_framed gs selects ts us (t, n, h) = steps_framed gs selects (ε ▹ t ▹ t ▹ Known I32) (ε ▹ t) ts us (has_selects t n) h
takes_framed gs tests_null ts us (t, h) = steps_framed gs tests_null (ε ▹ ref_to true t) (ε ▹ Known I32) ts us (has_tests_null t) h
takes_framed gs as_non_null ts us (t, h) = steps_framed gs as_non_null (ε ▹ ref_to true t) (ε ▹ ref_to false t) ts us (has_as_non_null t) h
takes_framed gs (on_null vs) ts us (t, h) =
    steps_framed gs (on_null vs) (known vs ▹ ref_to true t) (known vs ▹ ref_to false t) ts us (has_on_null vs t) h
takes_framed gs untyped ts us h = absurd h

-- what holds of a value that may not be there tells the value
with_arrow : (o : Option Arrow) (P : Arrow → Type 0) (G : Type 0) → Holds o P → ((a : Arrow) → o ≡ Some a → P a → G) → G
with_arrow None P G h f = absurd h
with_arrow (Some a) P G h f = f a refl h

-- a derivation by a rule, with operands beneath and subsumption
steps_typed : (c : Context) (s : List Bool) (k : Code) (ins outs ts us : Row Operand) → Typed c s k ins outs → HasType c.types ins outs ts us → Typed c s k ts us
steps_typed c s k ins outs ts us d h = subsumption c s k h.beneath ins outs ts us d h.takes h.gives

-- what the definition derives, the rules derive
derives_typed : (c : Context) (s : List Bool) (k : Code) (ts us : Row Operand) → Derives c s k ts us → Typed c s k ts us
unfolding after
derives_typed c s Done ts us d = subsumption c s Done ts ε ε ts us (empty c s) (row_refl c.types ts) d
derives_typed c s (Plain o k) ts us (p, (vs, t, d)) =
    let f = takes_framed c.types (instr_type c s o) ts vs t in
    composition c s (Plain o Done) k ts vs us
    (subsumption c s (Plain o Done) f.beneath f.ins f.outs ts vs (instruction c s o f.ins f.outs p f.has) f.takes f.gives)
    (derives_typed c (sets o s) k vs us d)
derives_typed c s (Block kind x b k) ts us d = with_arrow (arrow_of c x) _ _ d (λ a e h.
    composition c s (Block kind x b Done) k ts h.1.0 us
    (steps_typed c s (Block kind x b Done) (known a.from) (known a.to) ts h.1.0
    (block c s kind x a b e (derives_typed (labelled c (label_of kind a)) s b (known a.from) (known a.to) h.0)) h.1.1)
    (derives_typed c s k h.1.0 us h.1.2))
derives_typed c s (If x b k) ts us d = with_arrow (arrow_of c x) _ _ d (λ a e h.
    composition c s (If x b Done) k ts h.2.0 us
    (steps_typed c s (If x b Done) (known a.from ▹ Known I32) (known a.to) ts h.2.0
    (if_then c s x a b e h.0 (derives_typed (labelled c a.to) s b (known a.from) (known a.to) h.1)) h.2.1)
    (derives_typed c s k h.2.0 us h.2.2))
derives_typed c s (IfElse x b l k) ts us d = with_arrow (arrow_of c x) _ _ d (λ a e h.
    composition c s (IfElse x b l Done) k ts h.2.0 us
    (steps_typed c s (IfElse x b l Done) (known a.from ▹ Known I32) (known a.to) ts h.2.0
    (if_else c s x a b l e
    (derives_typed (labelled c a.to) s b (known a.from) (known a.to) h.0)
    (derives_typed (labelled c a.to) s l (known a.from) (known a.to) h.1)) h.2.1)
    (derives_typed c s k h.2.0 us h.2.2))

-- the two derive the same
pub one_typing : OneTyping
one_typing c keeps s k ts us = (typed_derives c keeps s k ts us, derives_typed c s k ts us)
