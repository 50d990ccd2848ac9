-- The tests on types that classes give.
use Rattle.std.specs.Prelude.{List}
use Rattle.w_canon.specs.declared.entry.Entry.{Entry}
use Rattle.w_canon.specs.Tests.{same_test, index_test}
use Rattle.w_linked.specs.Imports.{TypeTests}

abbrev pub tests_of : List Entry → TypeTests
tests_of es = record { same = same_test es; matches = index_test es }
