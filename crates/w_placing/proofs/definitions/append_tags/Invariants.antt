use Rattle.std.proofs.Common.{◌≡◌, ◌++◌, map, take}
use Rattle.w_link.specs.Items.{tag_shifted}
use Rattle.w_placing.proofs.definitions.append_tags.Given as goal

abbrev pub invariant-loop-tag : goal.invariant-loop-tag
invariant-loop-tag l = l.all.items ≡ l.fn.all.items ++ map (tag_shifted l.n) (take l.tag-index l.tags)
