use Rattle.std.proofs.Common.{◌≡◌, ◌+◌, ◌++◌, drop}
use Rattle.s_code.specs.Layouts.{numbered}
use Rattle.s_code.specs.Views.{locals_in}
use Rattle.s_lower.specs.Views.{bounds_of}
use Rattle.s_lower.proofs.names.push_numbered.Given as goal

abbrev pub invariant-loop-binding : goal.invariant-loop-binding
invariant-loop-binding l = record {
  adds : locals_in l.locals.items ++ numbered l.next (bounds_of (drop l.binding-index l.names)) ≡ locals_in l.fn.locals.items ++ numbered l.fn.from (bounds_of l.names);
  next : l.next ≡ l.fn.from + l.binding-index;
}
