-- Entries with spans.
use Rattle.std.specs.Prelude.{List, get_or}
use Rattle.w_types.specs.declared.types.RecGroup.{RecGroup}
use Rattle.w_canon.specs.declared.entry.Entry.{Entry}
use Rattle.w_canon.specs.declared.forest.Span.{Span}
use Rattle.w_canon.specs.Classed.{Numbers, Classed}
use Rattle.w_canon.specs.IsClassesOf.{first_of}
use Rattle.w_canon.specs.Shares.{none}

-- these are the entries of the types of groups, as far as their classes go
abbrev pub AreEntries : List RecGroup → List Entry → Type 0
AreEntries gs es = (m : Numbers) × Classed m gs es

-- the entry with the span of its class, which is that of the first type of it
abbrev pub spanned : List Span → Entry → Entry
spanned ss e = record e { span = get_or ss (first_of e.class) none }
