-- What linking answers.
use Rattle.std.specs.Prelude.{◌≡◌, ◌⊎◌, List, Result, Ok, Err}
use Rattle.w_syntax.specs.declared.module.Module.{Module}
use Rattle.w_reduce.specs.Start.{first_term}
use Rattle.w_stands.specs.Values.{store_of}
use Rattle.w_linked.specs.Definitions.{definitions}
use Rattle.w_linked.specs.Imports.{TypeTests}
use Rattle.w_linked.specs.Laws.{AreTestsOf}
use Rattle.w_linked.specs.Starting.{Ready, NoEntry, NoImport, Exceeds, StartTraps, program_of, StartL}
use Rattle.w_linker.specs.declared.linking.Linked.{Linked}
use Rattle.w_linker.specs.declared.linking.LinkFault.{LinkFault}
use Rattle.w_linker.specs.declared.linking.LinkFault.TheVariants as fault

-- what linking answers, by what is known of the types; nothing is said where memory ran out
abbrev pub LinksAs : TypeTests → List Module → Result Linked LinkFault → Type 0
LinksAs tests ms (Ok l) = StartL tests ms ≡ Ready (program_of tests l.program) (store_of l.store) (first_term l.starts.items l.main)
LinksAs tests ms (Err fault.NoEntry) = StartL tests ms ≡ NoEntry
LinksAs tests ms (Err (fault.Import f j)) = StartL tests ms ≡ NoImport f j
LinksAs tests ms (Err (fault.Limit f l)) = StartL tests ms ≡ Exceeds f l
LinksAs tests ms (Err (fault.Trap f t)) = StartL tests ms ≡ StartTraps f t
LinksAs tests ms (Err fault.OutOfMemory) = Unit {0}

-- memory ran out, or there are tests that tell equivalence and matching of all types, by which it answers
abbrev pub Links : List Module → Result Linked LinkFault → Type 0
Links ms r = (r ≡ Err fault.OutOfMemory) ⊎ ((tests : TypeTests) × AreTestsOf (definitions ms).types tests × LinksAs tests ms r)
