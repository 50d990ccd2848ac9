use Rattle.std.proofs.Common.{subst, arith}
use Rattle.std.proofs.lemmas.List.{drop_all}
use Rattle.std.proofs.lemmas.Option.{get_or_from_slice_get}
use Rattle.w_syntax.specs.Items.{code_of}
use Rattle.w_inst.specs.Constants.{IsConstant}
use Rattle.w_inst.proofs.FoundValues.{items_more, items_all}
use Rattle.w_inst.proofs.values.item_values.Goals as goal

pub item_value-requires : goal.item_value-requires
item_value-requires c =
    let item = code_of c.at.result in
    let place = c.loop-place.place in
    record { constant = subst IsConstant (get_or_from_slice_get c.args.items.now place item item c.at.ensures) (c.requires.constant place item (omega (arith, c.loop-place-test.true, c.len-place-end.ensures))) }

pub loop-place-preserved : goal.loop-place-preserved
loop-place-preserved c =
    items_more c.args.globals.now c.args.functions c.args.items.now c.loop-place.place (code_of c.at.result) c.loop-place.values.items c.push.new.self.items c.in_ok-value.value
    c.at.ensures (omega (arith, c.loop-place-test.true, c.len-place-end.ensures)) c.in_ok-push.ensures.items c.in_ok-value.ensures.value c.loop-place.invariant

pub returns : goal.returns
returns c = record {
  values = items_all c.args.globals.now c.args.functions c.args.items.now c.loop-place.values.items _
      (drop_all c.loop-place.place c.args.items.now (omega (arith, c.loop-place-test.false, c.len-place-end.ensures))) c.loop-place.invariant;
}
