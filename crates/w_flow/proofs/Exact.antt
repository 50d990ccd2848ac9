-- A step of a flow stands for just the rows that the type leads to.
use Rattle.std.proofs.Common.{◌&&◌, Bool, true, false, List, ◌∷◌, Some, refl}
use Rattle.w_types.specs.declared.types.RecGroup.{RecGroup}
use Rattle.w_types.specs.declared.types.ValType.{ValType}
use Rattle.w_types.specs.declared.types.ValType.TheVariants.{I32}
use Rattle.lists.specs.Rows.{Row, ε, ◌▹◌, ◌⧺◌, size}
use Rattle.lists.proofs.Tests.{each_of}
use Rattle.w_canon.specs.declared.entry.Entry.{Entry}
use Rattle.w_canon.specs.Supertypes.{KeepsKinds}
use Rattle.w_canon.proofs.TestsOfLists.{and_both}
use Rattle.w_rules.specs.Operands.{Operand}
use Rattle.w_rules.specs.Operands.{Known}
use Rattle.w_rules.specs.InstructionTypes.{InstrType, fixed, polymorphic, table_polymorphic, drops, selects, tests_null, as_non_null, on_null, untyped}
use Rattle.w_rules.specs.Matching.{OperandMatches, RowMatches, more, known}
use Rattle.w_rules.specs.Typing.{ref_to}
use Rattle.w_rules.specs.View.{AreClasses}
use Rattle.w_rules.proofs.Preorder.{operand_refl, operand_trans, row_refl}
use Rattle.w_flow.specs.Flow.{Flow, Covers, pops, pop, pops_each, all_long, select_of, pop_ref, step, InFlow, Image, IsExact}
use Rattle.w_flow.proofs.Options.{guard_in, guard_out, bind_in, bind_out, holds_map, with_value}
use Rattle.w_flow.proofs.Covers.{any_covers, covers_refl, covers_trans, pops_in, pops_out, pop_in, pop_out, push_in, push_out, steps_in, steps_out}
use Rattle.w_flow.proofs.References.{pop_ref_in, pop_ref_out}
use Rattle.w_flow.proofs.Selects.{select_below, select_is}
use Rattle.w_flow.proofs.Tables.{top, beneath, top_matches, top_covers, each_popped, each_long, each_matched, long_as}

-- what the flow stands for
abbrev In : List RecGroup → Row Operand → Flow → Type 0
In gs us f = Covers gs f.any f.operands us

-- one operand on top
top_in : (gs : List RecGroup) → KeepsKinds gs → (p : Bool) (ts : Row Operand) (x t : Operand) (rest us : Row Operand) → Covers gs p ts rest → OperandMatches gs x t →
    RowMatches gs (rest ▹ t) us → Covers gs p (ts ▹ x) us
top_in gs keeps p ts x t rest _ c l (more {us} {u} r k) = (covers_trans gs keeps p ts rest us c r, operand_trans gs keeps x t u l k)

module _ (gs : List RecGroup) (es : List Entry) (s : AreClasses gs es) where
  -- ## Each type

  -- [a] to [b]: what is left when a is taken, with b at its right
  fixed_in : (p : Bool) (ts : Row Operand) (a b : Row ValType) (us : Row Operand) → Image gs (fixed a b) p ts us → InFlow gs (step es (fixed a b) p ts) us
  fixed_in p ts a b us (vs, c, t) = bind_in (pops es p ts a) _ _ (steps_in gs es s p ts a (known b) vs us c t)

  fixed_out : (p : Bool) (ts : Row Operand) (a b : Row ValType) (us : Row Operand) → InFlow gs (step es (fixed a b) p ts) us → Image gs (fixed a b) p ts us
  fixed_out p ts a b us i = steps_out gs es s p ts a (known b) us (bind_out (pops es p ts a) _ (In gs us) i)

  -- [t* a] to any: each row
  polymorphic_in : (p : Bool) (ts : Row Operand) (a : Row ValType) (us : Row Operand) → Image gs (polymorphic a) p ts us → InFlow gs (step es (polymorphic a) p ts) us
  polymorphic_in p ts a us (vs, c, t) =
      bind_in (pops es p ts a) _ _ (holds_map (pops es p ts a) _ _
      (pops_in gs es s p ts a t.beneath (covers_trans gs s.keeps p ts vs (t.beneath ⧺ known a) c t.takes))
      (λ w k. any_covers gs true refl us))

  polymorphic_out : (p : Bool) (ts : Row Operand) (a : Row ValType) (us : Row Operand) → InFlow gs (step es (polymorphic a) p ts) us → Image gs (polymorphic a) p ts us
  polymorphic_out p ts a us i =
      with_value (pops es p ts a) _ _ (bind_out (pops es p ts a) _ (In gs us) i) (λ w k e. (
        w ⧺ known a,
        pops_out gs es s p ts a w (rw e (covers_refl gs p w)),
        record { beneath = w; takes = row_refl gs (w ⧺ known a) },
      ))

  -- [t* u* i32] to any: the topmost operands are u*, bottom where there are no more
  table_in : (p : Bool) (ts : Row Operand) (v : Row ValType) (vs : List (Row ValType)) (us : Row Operand) → Image gs (table_polymorphic v vs) p ts us →
      InFlow gs (step es (table_polymorphic v vs) p ts) us
  table_in p ts v vs us (ws, c, t) =
      let rest = t.polymorphic.beneath in
      bind_in (pops es p ts (ε ▹ I32)) _ _ (holds_map (pops es p ts (ε ▹ I32)) _ _
      (pops_in gs es s p ts (ε ▹ I32) (rest ⧺ t.ins) (covers_trans gs s.keeps p ts ws _ c t.polymorphic.takes)) (λ w k.
      guard_in (all_long (size v) vs && pops_each es p w (v ∷ vs)) (Some (record { any = true; operands = ε })) _
      (and_both (all_long (size v) vs) (pops_each es p w (v ∷ vs)) (each_long gs es s t.ins (size v) vs (long_as gs es s t.ins v t.each.0) t.each.1)
      (each_popped gs es s p w t.ins rest (v ∷ vs) k t.each))
      (any_covers gs true refl us)))

  table_out : (p : Bool) (ts : Row Operand) (v : Row ValType) (vs : List (Row ValType)) (us : Row Operand) → InFlow gs (step es (table_polymorphic v vs) p ts) us →
      Image gs (table_polymorphic v vs) p ts us
  table_out p ts v vs us i =
      with_value (pops es p ts (ε ▹ I32)) _ _ (bind_out (pops es p ts (ε ▹ I32)) _ (In gs us) i) (λ w k e.
      let g = each_of (all_long (size v) vs) (pops_each es p w (v ∷ vs)) (guard_out (all_long (size v) vs && pops_each es p w (v ∷ vs)) _ (In gs us) k).0 in
      let h = each_of _ (pops_each es p w vs) g.1 in
      let a = top (size v) w in
      let rest = beneath (size v) w in (
        (rest ⧺ a) ▹ Known I32,
        pops_out gs es s p ts (ε ▹ I32) (rest ⧺ a) (rw e (top_covers gs es s p w v h.0)),
        record {
          ins = a;
          polymorphic = record { beneath = rest; takes = row_refl gs ((rest ⧺ a) ▹ Known I32) };
          each = (top_matches gs es s p w v h.0, each_matched gs es s p w (size v) vs g.0 h.1);
        },
      ))

  -- [t] to []: t is the topmost operand
  drops_in : (p : Bool) (ts us : Row Operand) → Image gs drops p ts us → InFlow gs (step es drops p ts) us
  drops_in p ts us (vs, c, (t, r)) =
      bind_in (pop p ts) _ _ (holds_map (pop p ts) _ _ (pop_in gs p ts t r.beneath (covers_trans gs s.keeps p ts vs _ c r.takes)) (λ q l.
      covers_trans gs s.keeps p q.0 r.beneath us l.0 r.gives))

  drops_out : (p : Bool) (ts us : Row Operand) → InFlow gs (step es drops p ts) us → Image gs drops p ts us
  drops_out p ts us i =
      with_value (pop p ts) _ _ (bind_out (pop p ts) _ (In gs us) i) (λ r k e. (
        us ▹ r.1,
        pop_out gs p ts r.1 us (rw e (k, operand_refl gs r.1)),
        (r.1, record { beneath = us; takes = row_refl gs (us ▹ r.1); gives = row_refl gs us }),
      ))

  -- [t t i32] to [t]: t is the one type of both operands
  selects_in : (p : Bool) (ts us : Row Operand) → Image gs selects p ts us → InFlow gs (step es selects p ts) us
  selects_in p ts us (vs, c, (t, num, m)) =
      let rest = m.beneath in
      bind_in (pops es p ts (ε ▹ I32)) _ _ (holds_map (pops es p ts (ε ▹ I32)) _ _
      (pops_in gs es s p ts (ε ▹ I32) (rest ▹ t ▹ t) (covers_trans gs s.keeps p ts vs _ c m.takes)) (λ w k.
      bind_in (pop p w) _ _ (holds_map (pop p w) _ _ (pop_in gs p w t (rest ▹ t) k) (λ r l.
      bind_in (pop p r.0) _ _ (holds_map (pop p r.0) _ _ (pop_in gs p r.0 t rest l.0) (λ q h.
      bind_in (select_of q.1 r.1) _ _ (holds_map (select_of q.1 r.1) _ _ (select_below gs q.1 r.1 t h.1 l.1 num) (λ x b.
      top_in gs s.keeps p q.0 x t rest us h.0 b m.gives))))))))

  selects_out : (p : Bool) (ts us : Row Operand) → InFlow gs (step es selects p ts) us → Image gs selects p ts us
  selects_out p ts us i =
      with_value (pops es p ts (ε ▹ I32)) _ _ (bind_out (pops es p ts (ε ▹ I32)) _ (In gs us) i) (λ w k e.
      with_value (pop p w) _ _ (bind_out (pop p w) _ (In gs us) k) (λ r l f.
      with_value (pop p r.0) _ _ (bind_out (pop p r.0) _ (In gs us) l) (λ q h g.
      let x = select_is gs q.1 r.1 _ (bind_out (select_of q.1 r.1) _ (In gs us) h) in
      let b = push_out gs p q.0 (ε ▹ x.0) us x.1 in
      let c1 : Covers gs p r.0 (b.0 ▹ x.0) = pop_out gs p r.0 x.0 b.0 (rw g (b.1, x.2.0)) in
      let c2 : Covers gs p w (b.0 ▹ x.0 ▹ x.0) = pop_out gs p w x.0 (b.0 ▹ x.0) (rw f (c1, x.2.1)) in (
        b.0 ▹ x.0 ▹ x.0 ▹ Known I32,
        pops_out gs es s p ts (ε ▹ I32) (b.0 ▹ x.0 ▹ x.0) (rw e c2),
        (x.0, x.2.2, record { beneath = b.0; takes = row_refl gs (b.0 ▹ x.0 ▹ x.0 ▹ Known I32); gives = b.2 }),
      ))))

  -- [(ref null ht)] to [i32]: ht is the heap type of the topmost operand
  tests_in : (p : Bool) (ts us : Row Operand) → Image gs tests_null p ts us → InFlow gs (step es tests_null p ts) us
  tests_in p ts us (vs, c, (h, m)) =
      bind_in (pop_ref p ts) _ _ (holds_map (pop_ref p ts) _ _ (pop_ref_in gs p ts h m.beneath (covers_trans gs s.keeps p ts vs _ c m.takes)) (λ r l.
      top_in gs s.keeps p r.0 (Known I32) (Known I32) m.beneath us l.0 (operand_refl gs (Known I32)) m.gives))

  tests_out : (p : Bool) (ts us : Row Operand) → InFlow gs (step es tests_null p ts) us → Image gs tests_null p ts us
  tests_out p ts us i =
      with_value (pop_ref p ts) _ _ (bind_out (pop_ref p ts) _ (In gs us) i) (λ r k e.
      let b = push_out gs p r.0 (ε ▹ Known I32) us k in (
        b.0 ▹ ref_to true r.1,
        pop_ref_out gs p ts r.1 b.0 (rw e (b.1, operand_refl gs (ref_to false r.1))),
        (r.1, record { beneath = b.0; takes = row_refl gs (b.0 ▹ ref_to true r.1); gives = b.2 }),
      ))

  -- [(ref null ht)] to [(ref ht)]: the same
  casts_in : (p : Bool) (ts us : Row Operand) → Image gs as_non_null p ts us → InFlow gs (step es as_non_null p ts) us
  casts_in p ts us (vs, c, (h, m)) =
      bind_in (pop_ref p ts) _ _ (holds_map (pop_ref p ts) _ _ (pop_ref_in gs p ts h m.beneath (covers_trans gs s.keeps p ts vs _ c m.takes)) (λ r l.
      top_in gs s.keeps p r.0 (ref_to false r.1) (ref_to false h) m.beneath us l.0 l.1 m.gives))

  casts_out : (p : Bool) (ts us : Row Operand) → InFlow gs (step es as_non_null p ts) us → Image gs as_non_null p ts us
  casts_out p ts us i =
      with_value (pop_ref p ts) _ _ (bind_out (pop_ref p ts) _ (In gs us) i) (λ r k e.
      let b = push_out gs p r.0 (ε ▹ ref_to false r.1) us k in (
        b.0 ▹ ref_to true r.1,
        pop_ref_out gs p ts r.1 b.0 (rw e (b.1, operand_refl gs (ref_to false r.1))),
        (r.1, record { beneath = b.0; takes = row_refl gs (b.0 ▹ ref_to true r.1); gives = b.2 }),
      ))

  -- [u* (ref null ht)] to [u* (ref ht)]: the same, with u* taken and given
  on_null_in : (p : Bool) (ts : Row Operand) (a : Row ValType) (us : Row Operand) → Image gs (on_null a) p ts us → InFlow gs (step es (on_null a) p ts) us
  on_null_in p ts a us (vs, c, (h, m)) =
      let rest = m.beneath in
      bind_in (pop_ref p ts) _ _ (holds_map (pop_ref p ts) _ _ (pop_ref_in gs p ts h (rest ⧺ known a) (covers_trans gs s.keeps p ts vs _ c m.takes)) (λ r l.
      bind_in (pops es p r.0 a) _ _ (holds_map (pops es p r.0 a) _ _ (pops_in gs es s p r.0 a rest l.0) (λ w k.
      top_in gs s.keeps p (w ⧺ known a) (ref_to false r.1) (ref_to false h) (rest ⧺ known a) us
      (push_in gs s.keeps p w (known a) rest (rest ⧺ known a) k (row_refl gs (rest ⧺ known a))) l.1 m.gives))))

  on_null_out : (p : Bool) (ts : Row Operand) (a : Row ValType) (us : Row Operand) → InFlow gs (step es (on_null a) p ts) us → Image gs (on_null a) p ts us
  on_null_out p ts a us i =
      with_value (pop_ref p ts) _ _ (bind_out (pop_ref p ts) _ (In gs us) i) (λ r k e.
      with_value (pops es p r.0 a) _ _ (bind_out (pops es p r.0 a) _ (In gs us) k) (λ w l f.
      let b = push_out gs p w (known a ▹ ref_to false r.1) us l in (
        (b.0 ⧺ known a) ▹ ref_to true r.1,
        pop_ref_out gs p ts r.1 (b.0 ⧺ known a) (rw e (pops_out gs es s p r.0 a b.0 (rw f b.1), operand_refl gs (ref_to false r.1))),
        (r.1, record { beneath = b.0; takes = row_refl gs ((b.0 ⧺ known a) ▹ ref_to true r.1); gives = b.2 }),
      )))

  -- ## Every type

  -- each row that the type leads to is one that the step stands for
  pub step_in : (l : InstrType) (p : Bool) (ts us : Row Operand) → Image gs l p ts us → InFlow gs (step es l p ts) us
  step_in (fixed a b) p ts us i = fixed_in p ts a b us i
  step_in (polymorphic a) p ts us i = polymorphic_in p ts a us i
  step_in (table_polymorphic v vs) p ts us i = table_in p ts v vs us i
  step_in drops p ts us i = drops_in p ts us i
  step_in selects p ts us i = selects_in p ts us i
  step_in tests_null p ts us i = tests_in p ts us i
  step_in as_non_null p ts us i = casts_in p ts us i
  step_in (on_null a) p ts us i = on_null_in p ts a us i
  step_in untyped p ts us i = i.2

  -- each row that the step stands for is one that the type leads to
  pub step_out : (l : InstrType) (p : Bool) (ts us : Row Operand) → InFlow gs (step es l p ts) us → Image gs l p ts us
  step_out (fixed a b) p ts us i = fixed_out p ts a b us i
  step_out (polymorphic a) p ts us i = polymorphic_out p ts a us i
  step_out (table_polymorphic v vs) p ts us i = table_out p ts v vs us i
  step_out drops p ts us i = drops_out p ts us i
  step_out selects p ts us i = selects_out p ts us i
  step_out tests_null p ts us i = tests_out p ts us i
  step_out as_non_null p ts us i = casts_out p ts us i
  step_out (on_null a) p ts us i = on_null_out p ts a us i
  step_out untyped p ts us i = absurd i

-- a step is exact
pub exact : (gs : List RecGroup) (es : List Entry) → AreClasses gs es → IsExact gs es
exact gs es s = λ l p ts us. (step_in gs es s l p ts us, step_out gs es s l p ts us)
