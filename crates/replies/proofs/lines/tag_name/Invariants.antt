use Rattle.std.proofs.Common.{◌≡◌, drop, slice_get}
use Rattle.s_agrees.specs.Agrees.{tag_names}
use Rattle.replies.proofs.lines.tag_name.Given as goal

-- the name that is sought stands at the place `left` among those of the declarations that are left
abbrev pub invariant-loop-declaration : goal.invariant-loop-declaration
invariant-loop-declaration l =
    slice_get (tag_names (drop l.declaration-index l.declaration-items)) l.left ≡ slice_get (tag_names l.declaration-items) l.number
