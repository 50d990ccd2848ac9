use Rattle.std.proofs.Common.{◌≡◌, ◌+◌, drop, length}
use Rattle.s_syntax.specs.declared.name.Name.{Name}
use Rattle.s_index.specs.Numbers.{counted_all, counts_of, entry_behind, entry_of}
use Rattle.s_index.specs.Views.{found, or_else}
use Rattle.s_index.proofs.declarations.number_all.Given as goal

abbrev pub invariant-loop-declaration : goal.invariant-loop-declaration
invariant-loop-declaration l = record {
  found : (x : Name) → or_else (found l.first x) (entry_behind l.counts (drop l.declaration-index l.all) x) ≡ entry_of l.all x;
  counts : counted_all l.counts (drop l.declaration-index l.all) ≡ counts_of l.all;
  few : l.counts.effects + l.counts.functions + l.counts.handlers + l.counts.slots + length (drop l.declaration-index l.all) ≡ length l.all;
}
