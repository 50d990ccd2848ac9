use Rattle.std.proofs.Common.{◌≡◌, sym, subst, arith, List}
use Rattle.std.proofs.lemmas.List.{drop_all}
use Rattle.w_types.specs.declared.value.Value.{Value}
use Rattle.w_reduce.specs.Values.{val}
use Rattle.w_reduce.specs.Store.{Store}
use Rattle.w_reduce.specs.Program.{Program}
use Rattle.w_reduce.specs.Constants.{value_of}
use Rattle.w_inst.specs.Constants.{Sees}
use Rattle.w_inst.proofs.RoomInModules.{global_constant}
use Rattle.w_inst.proofs.FoundValues.{GlobalsFound, globals_first, globals_more, globals_all}
use Rattle.w_inst.proofs.values.global_values.Goals as goal

pub loop-global-init : goal.loop-global-init
loop-global-init c =
    let P : List Value → Type 0 = λ vs. GlobalsFound c.args.functions c.args.program.now.globals vs c.as_slice-global-items.result.now in
    subst P (sym c.new-values.ensures.items) (globals_first c.args.functions c.args.program.now.globals c.as_slice-global-items.result.now c.as_slice-global-items.ensures)

pub constant-requires : goal.constant-requires
constant-requires c = record { constant = global_constant c.args.program.now c.as_slice-global-items.result.now c.loop-global.global-index c.global-item.result c.requires.sound c.as_slice-global-items.ensures c.loop-global-test.true c.global-item.is }

pub loop-global-preserved : goal.loop-global-preserved
loop-global-preserved c =
    let seen = c.as_slice.ensures.value in
    let P : List Value → Type 0 = λ vs. (p : Program) (s : Store) → Sees vs c.args.functions s → value_of p s c.global-item.result.init ≡ val c.in_ok-value.value in
    let found = subst P seen c.in_ok-value.ensures.value in
    globals_more c.args.functions c.args.program.now.globals c.as_slice-global-items.result.now c.loop-global.global-index c.global-item.result c.loop-global.values.items c.push.new.self.items c.in_ok-value.value
    c.loop-global-test.true c.global-item.is c.in_ok-push.ensures.items found c.loop-global.invariant

pub returns : goal.returns
returns c = record {
  values = globals_all c.args.functions c.args.program.now.globals c.loop-global.values.items _ (drop_all c.loop-global.global-index c.as_slice-global-items.result.now (omega arith)) c.loop-global.invariant;
}
