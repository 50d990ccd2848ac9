use Rattle.std.proofs.Common.{◌≡◌, ◌+◌, List, length, refl, sym, subst, arith}
use Rattle.w_types.specs.declared.value.Value.{Value}
use Rattle.w_reduce.specs.Start.{bare, with_globals}
use Rattle.w_inst.specs.Instances.{StandsFor}
use Rattle.w_inst.proofs.AllocatedStores.{bare_count}
use Rattle.w_inst.proofs.FoundValues.{having}
use Rattle.w_inst.proofs.first_store.allocate.Goals as goal

pub add_all-requires-clause-count : goal.add_all-requires-clause-count
add_all-requires-clause-count c = omega (arith, c.len.ensures, c.in-Some.ensures)

pub add_all-requires-clause-values : goal.add_all-requires-clause-values
add_all-requires-clause-values c = λ p.
    let m = c.args.program.now in
    let n = c.in-Some.functions in
    let count : n ≡ length c.args.printers.now + length m.functions = omega (arith, c.len.ensures, c.in-Some.ensures) in
    let P : List Value → Type 0 = λ vs. with_globals p (bare m c.args.printers.now) m.globals ≡ having (bare m c.args.printers.now) vs in
    subst P (sym c.as_slice.ensures.value) (c.in_ok-globals.ensures.values p (bare m c.args.printers.now) (bare_count m c.args.printers.now n count) refl)

pub returns-clause-stands : goal.returns-clause-stands
returns-clause-stands c =
    let P : List Value → Type 0 = λ vs. StandsFor c.args.program.now vs c.in-Some.functions c.add_all.new.store in
    subst P c.as_slice.ensures.value c.in_ok-add_all.ensures.stands
