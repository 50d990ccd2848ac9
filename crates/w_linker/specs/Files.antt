-- Files whose imports were found.
use Rattle.std.specs.Prelude.{◌≡◌, List, [], All, length}
use Rattle.w_syntax.specs.declared.module.Module.{Module}
use Rattle.w_canon.specs.declared.entry.Entry.{Entry}
use Rattle.w_canon.specs.IsClassesOf.{IsClassesOf}
use Rattle.w_link.specs.Resolved.{Instance}
use Rattle.w_linked.specs.Definitions.{definitions, hosts}
use Rattle.w_linked.specs.Linked.{at_first, placed, placing}
use Rattle.w_placing.specs.Placing.{zipped}
use Rattle.w_placing.specs.Tests.{tests_of}
use Rattle.w_linker.specs.Parts.{IsAccepted}

-- these are the classes of their types and their instances
pub record AreLinked (es : List Entry) (ms : List Module) (is : List Instance) : Type 0 where
  pub as_many : length is ≡ length ms
  pub classes : IsClassesOf (definitions ms).types es
  pub accepted : All IsAccepted ms
  pub placed : placing (tests_of es) (definitions ms) [] (at_first (hosts ms)) ms ≡ placed (zipped ms is)
