use Rattle.std.proofs.Common.{◌≡◌, List, drop}
use Rattle.w_linked.specs.Imports.{Placed, exported}
use Rattle.w_placing.specs.Files.{AreFiles}
use Rattle.w_placing.proofs.exports.exported.Given as goal

-- it is none of the files so far: the search goes on with the others
abbrev pub invariant-loop-file : goal.invariant-loop-file
invariant-loop-file l = (ps : List Placed) → AreFiles 0 l.files ps
    → (qs : List Placed) × AreFiles l.file-index (drop l.file-index l.files) qs × (exported 0 ps l.module_name l.item_name ≡ exported l.file-index qs l.module_name l.item_name)
