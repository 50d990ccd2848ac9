use Rattle.std.proofs.Common.{[], ◌∷◌, ap, length, length-append, ◌∙◌, sym, arith}
use Rattle.w_types.specs.Groups.{types_of}
use Rattle.w_rows.proofs.ReadyTypes.{ready_types_more, ready_types_all}
use Rattle.w_rows.proofs.type_rows.TypeRows.of_types.Goals as goal

pub loop-index-preserved : goal.loop-index-preserved
loop-index-preserved c = record {
  many = (let more = ap length c.in_ok-push-in-Some.ensures.items ∙ length-append c.loop-index.types.items (c.in_ok-ready_type-in-Some.field-0 ∷ []) in omega (arith, more, c.loop-index.invariant.many));
  ready = ready_types_more c.args.classes.now c.loop-index.index (types_of c.args.groups.now) c.loop-index.types.items c.push.new.self.items c.in_ok-ready_type-in-Some.field-0 c.in-Some.kind.now
      c.in_ok-push-in-Some.ensures.items (sym c.in-Some.ensures) c.in_ok-ready_type-in-Some.ensures c.loop-index.invariant.many c.loop-index.invariant.ready;
}

pub returns : goal.returns
returns c = ready_types_all c.args.classes.now c.loop-index.index (types_of c.args.groups.now) c.loop-index.types.items (omega (arith, c.type_count-index-end.ensures)) c.loop-index.invariant.ready
