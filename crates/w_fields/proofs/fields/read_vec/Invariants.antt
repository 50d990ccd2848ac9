use Rattle.std.proofs.Common.{◌≡◌, ◌-◌, ◌≤◌, drop, length}
use Rattle.w_leb.specs.Format.{many}
use Rattle.w_leb.specs.Formats.{vec}
use Rattle.w_fields.proofs.Loop.{with_front}
use Rattle.w_fields.proofs.fields.read_vec.Given as goal

abbrev pub invariant-loop : goal.invariant-loop
invariant-loop g l = record {
  so_far : with_front l.items (many g.F.Field.format.read (l.count - l.counter) (drop l.place l.bytes)) ≡ (vec g.F.Field.format).read (drop l.at l.bytes);
  after : l.at ≤ l.place;
  within : l.place ≤ length l.bytes;
}
