use Rattle.std.proofs.Common.{List, map}
use Rattle.w_linked.specs.Imports.{Placed, imports_of}
use Rattle.w_placing.specs.Addresses.{stands}
use Rattle.w_placing.specs.Files.{AreFiles}
use Rattle.w_placing.specs.Tests.{tests_of}
use Rattle.w_placing.proofs.Found.{FoundTo}
use Rattle.w_placing.proofs.imports.find_imports.Given as goal

-- what the imports so far stand for is found
abbrev pub invariant-loop-import : goal.invariant-loop-import
invariant-loop-import l = (ps : List Placed) → AreFiles 0 l.files ps
    → FoundTo (tests_of l.classes) l.definitions ps l.module l.before.types l.import-items
    (imports_of (tests_of l.classes) l.definitions ps l.module l.before.types l.before.printers l.module.imports) l.import-index (map stands l.found.items) l.printers
