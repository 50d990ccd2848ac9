use Rattle.std.proofs.Common.{arith}
use Rattle.w_rows.proofs.ReadyRows.{ready_front, ready_behind, ready_operands, ready_given, ready_wanted, ready_lengths}
use Rattle.w_rows.proofs.type_row.RowWords.split_at.Goals as goal

pub split_at-requires : goal.split_at-requires
split_at-requires c = omega (arith, ready_operands c.args.classes.now c.args.types.now c.args.self.operands.now c.args.self.given.now c.args.self.wanted.now c.args.self.lengths.now c.requires.ready, c.requires.there)

pub split_at-requires-2 : goal.split_at-requires-2
split_at-requires-2 c = omega (arith, ready_given c.args.classes.now c.args.types.now c.args.self.operands.now c.args.self.given.now c.args.self.wanted.now c.args.self.lengths.now c.requires.ready, c.requires.there)

pub split_at-requires-3 : goal.split_at-requires-3
split_at-requires-3 c = omega (arith, ready_wanted c.args.classes.now c.args.types.now c.args.self.operands.now c.args.self.given.now c.args.self.wanted.now c.args.self.lengths.now c.requires.ready, c.requires.there)

pub split_at-requires-4 : goal.split_at-requires-4
split_at-requires-4 c = omega (arith, ready_lengths c.args.classes.now c.args.types.now c.args.self.operands.now c.args.self.given.now c.args.self.wanted.now c.args.self.lengths.now c.requires.ready, c.requires.there)

pub returns : goal.returns
returns c = record {
  front = ready_front c.args.classes.now c.args.count c.args.types.now c.args.self.operands.now _ c.args.self.given.now _ c.args.self.wanted.now _ c.args.self.lengths.now _
      c.split_at.ensures.front c.split_at-2.ensures.front c.split_at-3.ensures.front c.split_at-4.ensures.front c.requires.ready;
  behind = ready_behind c.args.classes.now c.args.count c.args.types.now c.args.self.operands.now _ c.args.self.given.now _ c.args.self.wanted.now _ c.args.self.lengths.now _
      c.split_at.ensures.back c.split_at-2.ensures.back c.split_at-3.ensures.back c.split_at-4.ensures.back c.requires.ready;
}
