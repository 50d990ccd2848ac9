-- The labels of a br_table, which take rows of one size.
use Rattle.std.proofs.Common.{◌≡◌, ℕ, zero, suc, Bool, true, false, List, [], ◌∷◌, Option, Some, None, IsTrue, if◌then◌else◌, refl, sym, ◌∙◌, ap, subst, eq-eqb, eqb-true}
use Rattle.w_types.specs.declared.types.RecGroup.{RecGroup}
use Rattle.w_types.specs.declared.types.ValType.{ValType}
use Rattle.lists.specs.Rows.{Row, ε, ◌▹◌, ◌⧺◌, size}
use Rattle.lists.proofs.Tests.{each_of}
use Rattle.w_canon.specs.declared.entry.Entry.{Entry}
use Rattle.w_canon.proofs.TestsOfLists.{and_both}
use Rattle.w_rules.specs.Operands.{Operand}
use Rattle.w_rules.specs.Operands.{Bottom}
use Rattle.w_rules.specs.Conditions.{Holds}
use Rattle.w_rules.specs.Matching.{RowMatches, none, more, bottom, known}
use Rattle.w_rules.specs.Typing.{MatchesEach}
use Rattle.w_rules.specs.View.{AreClasses}
use Rattle.w_rules.proofs.Preorder.{operand_refl, row_refl, row_size, row_beside}
use Rattle.w_flow.specs.Flow.{Covers, operand_test, pops, is_popped, pops_each, all_long}
use Rattle.w_flow.proofs.Covers.{covers_refl, covers_trans, operand_found, pops_in}

-- ## The topmost operands

-- the topmost n operands, bottom where there are no more
abbrev pub top : ℕ → Row Operand → Row Operand
top zero ts = ε
top (suc n) ε = top n ε ▹ Bottom
top (suc n) (ts ▹ t) = top n ts ▹ t

-- those beneath
abbrev pub beneath : ℕ → Row Operand → Row Operand
beneath zero ts = ts
beneath (suc n) ε = ε
beneath (suc n) (ts ▹ t) = beneath n ts

-- rows of value types, and of their operands, have one size
known_size : (v : Row ValType) → size (known v) ≡ size v
known_size ε = refl
known_size (v ▹ t) = ap suc (known_size v)

-- what is taken behind a test
popped_if : (b : Bool) (o : Option (Row Operand)) → IsTrue (is_popped (if b then o else None)) → IsTrue b × IsTrue (is_popped o)
popped_if true o h = (refl, h)
popped_if false o h = absurd (cc)

-- where something is left, the operands could be taken
popped_by : (o : Option (Row Operand)) (P : Row Operand → Type 0) → Holds o P → IsTrue (is_popped o)
popped_by None P h = absurd h
popped_by (Some x) P h = refl

module _ (gs : List RecGroup) (es : List Entry) (s : AreClasses gs es) where
  -- where a row can be taken, the topmost operands match it
  pub top_matches : (p : Bool) (ts : Row Operand) (v : Row ValType) → IsTrue (is_popped (pops es p ts v)) → RowMatches gs (top (size v) ts) (known v)
  top_matches p ts ε h = none
  top_matches true ε (us ▹ u) h = more (top_matches true ε us h) bottom
  top_matches false ε (us ▹ u) h = absurd (cc)
  top_matches p (ts ▹ t) (us ▹ u) h =
      let g = popped_if (operand_test es t u) (pops es p ts us) h in
      more (top_matches p ts us g.1) (operand_found gs es s t u g.0)

  -- and the operands stand for these with those beneath
  pub top_covers : (p : Bool) (ts : Row Operand) (v : Row ValType) → IsTrue (is_popped (pops es p ts v)) →
      Covers gs p ts (beneath (size v) ts ⧺ top (size v) ts)
  top_covers p ts ε h = covers_refl gs p ts
  top_covers true ε (us ▹ u) h = refl
  top_covers false ε (us ▹ u) h = absurd (cc)
  top_covers p (ts ▹ t) (us ▹ u) h =
      let g = popped_if (operand_test es t u) (pops es p ts us) h in
      (top_covers p ts us g.1, operand_refl gs t)

  -- ## Each label

  -- what matches the row of each label can be taken
  pub each_popped : (p : Bool) (ts a rest : Row Operand) (vs : List (Row ValType)) → Covers gs p ts (rest ⧺ a) → MatchesEach gs a vs →
      IsTrue (pops_each es p ts vs)
  each_popped p ts a rest [] c m = refl
  each_popped p ts a rest (v ∷ vs) c m =
      and_both (is_popped (pops es p ts v)) (pops_each es p ts vs)
      (popped_by (pops es p ts v) _ (pops_in gs es s p ts v rest
      (covers_trans gs s.keeps p ts (rest ⧺ a) (rest ⧺ known v) c (row_beside gs rest rest a (known v) (row_refl gs rest) m.0))))
      (each_popped p ts a rest vs c m.1)

  -- and the rows are as long
  pub each_long : (a : Row Operand) (n : ℕ) (vs : List (Row ValType)) → size a ≡ n → MatchesEach gs a vs → IsTrue (all_long n vs)
  each_long a n [] e m = refl
  each_long a n (v ∷ vs) e m =
      and_both _ (all_long n vs) (eq-eqb (size v) n (sym (known_size v) ∙ sym (row_size gs a (known v) m.0) ∙ e)) (each_long a n vs e m.1)

  -- a row is as long as the types that it matches
  pub long_as : (a : Row Operand) (v : Row ValType) → RowMatches gs a (known v) → size a ≡ size v
  long_as a v m = row_size gs a (known v) m ∙ known_size v

  -- where rows of one size can each be taken, the topmost operands match each
  pub each_matched : (p : Bool) (ts : Row Operand) (n : ℕ) (vs : List (Row ValType)) → IsTrue (all_long n vs) → IsTrue (pops_each es p ts vs) →
      MatchesEach gs (top n ts) vs
  each_matched p ts n [] l h = tt
  each_matched p ts n (v ∷ vs) l h =
      let l2 = each_of _ (all_long n vs) l in
      let h2 = each_of (is_popped (pops es p ts v)) (pops_each es p ts vs) h in
      (subst (λ (m : ℕ). RowMatches gs (top m ts) (known v)) (eqb-true (size v) n l2.0) (top_matches p ts v h2.0), each_matched p ts n vs l2.1 h2.1)
