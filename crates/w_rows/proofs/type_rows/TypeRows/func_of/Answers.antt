use Rattle.std.proofs.Common.{◌≡◌, ℕ, ◌<◌, nat_lt, true, List, get_or, length, sym, ap, ◌∙◌, subst, ltb-true, arith}
use Rattle.w_types.specs.Groups.{types_of}
use Rattle.w_types.specs.declared.types.ValType.{ValType}
use Rattle.w_rows.specs.TypeRows.{FitsIf, IsReadyFor}
use Rattle.w_rows.specs.declared.type_rows.ReadyType.{ReadyType}
use Rattle.w_rows.proofs.ReadyTypes.{ready_types_at}
use Rattle.w_rows.proofs.type_rows.TypeRows.func_of.Goals as goal

-- there is something at the index
there : (x : ℕ) (xs ys : List ReadyType) → xs ≡ ys → nat_lt x (length xs) ≡ true → x < length ys
there x xs ys e t = let h = ltb-true x (length xs) t in let same = ap (λ (rs : List ReadyType). length rs) e in omega (arith, h, same)

pub row_of-requires : goal.row_of-requires
row_of-requires c =
    subst (λ (ts : List ValType). IsReadyFor c.args.cx.now.classes.now ts c.in-Some.ready.now.params) (sym c.as_slice.ensures)
    (ready_types_at c.args.cx.now.classes.now (types_of c.args.cx.now.types.now) c.args.self.now.types.items c.args.index c.in_ok-kind.kind.now c.in-Some.ready.now c.requires
    (sym c.in_ok-kind.ensures) (there c.args.index c.deref.result.now c.args.self.now.types.items c.deref.ensures.value (sym c.in-Some.ensures.lookup.0)) (c.in-Some.ensures.lookup.1 ∙ ap (λ (rs : List ReadyType). get_or rs c.args.index c.in-Some.ready.now) c.deref.ensures.value)).0

pub row_of-requires-in-Some : goal.row_of-requires-in-Some
row_of-requires-in-Some c =
    subst (λ (ts : List ValType). IsReadyFor c.args.cx.now.classes.now ts c.in-Some.ready.now.results) (sym c.as_slice-in-Some.ensures)
    (ready_types_at c.args.cx.now.classes.now (types_of c.args.cx.now.types.now) c.args.self.now.types.items c.args.index c.in_ok-kind.kind.now c.in-Some.ready.now c.requires
    (sym c.in_ok-kind.ensures) (there c.args.index c.deref.result.now c.args.self.now.types.items c.deref.ensures.value (sym c.in-Some.ensures.lookup.0)) (c.in-Some.ensures.lookup.1 ∙ ap (λ (rs : List ReadyType). get_or rs c.args.index c.in-Some.ready.now) c.deref.ensures.value)).1.0

pub returns-in-Some-clause-ready : goal.returns-in-Some-clause-ready
returns-in-Some-clause-ready c = record {
  params = c.row_of.ensures.ready;
  results = c.row_of-in-Some.ensures.ready;
  fits =
      subst (λ (ts : List ValType). FitsIf c.args.cx.now.classes.now c.in-Some.ready.now.fits ts c.row_of-in-Some.result.types.now) (sym (c.row_of.ensures.types ∙ c.as_slice.ensures))
      (subst (FitsIf c.args.cx.now.classes.now c.in-Some.ready.now.fits c.in_ok-kind.kind.now.params) (sym (c.row_of-in-Some.ensures.types ∙ c.as_slice-in-Some.ensures))
      (ready_types_at c.args.cx.now.classes.now (types_of c.args.cx.now.types.now) c.args.self.now.types.items c.args.index c.in_ok-kind.kind.now c.in-Some.ready.now c.requires
      (sym c.in_ok-kind.ensures) (there c.args.index c.deref.result.now c.args.self.now.types.items c.deref.ensures.value (sym c.in-Some.ensures.lookup.0)) (c.in-Some.ensures.lookup.1 ∙ ap (λ (rs : List ReadyType). get_or rs c.args.index c.in-Some.ready.now) c.deref.ensures.value)).1.1);
}
