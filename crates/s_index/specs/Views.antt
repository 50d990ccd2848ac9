-- What maps of names stand for.
use Rattle.std.specs.Prelude.{◌≡◌, ℕ, List, map, Option, Some, None, if◌then◌else◌}
use Rattle.std.specs.Borrow.{Bor}
use Rattle.std.specs.Option.{option_map}
use Rattle.std.specs.BTreeMap.{BTreeMap}
use Rattle.std.specs.BTreeMap as tree
use Rattle.std.specs.Cmp.Lexicographic.{slice_cmp}
use Rattle.std.specs.Str.{bytes_eq}
use Rattle.std.specs.Ordering.{nat_cmp}
use Rattle.s_syntax.specs.declared.name.Name.{Name}
use Rattle.s_syntax.specs.declared.script.Slots.{Slots}
use Rattle.s_syntax.specs.declared.script.Declaration.{Declaration}
use Rattle.s_index.specs.declared.declarations.Numbered.{Numbered}
use Rattle.s_index.specs.Numbers.{Entry, entry_of}

abbrev pub entry_in : Numbered → Entry
entry_in n = record { definition = n.definition.now; number = n.number }

abbrev pub entry_at : Option Numbered → Option Entry
entry_at o = option_map entry_in o

abbrev pub found : BTreeMap (Bor (List ℕ)) Numbered → Name → Option Entry
found m x = entry_at (tree.get_by (λ (k : Bor (List ℕ)). slice_cmp nat_cmp x k.now) m)

-- slots that may be there
abbrev pub slots_at : Option (Bor Slots) → Option Slots
slots_at o = option_map (λ (s : Bor Slots). s.now) o

-- the first of two that is there
abbrev pub or_else : {A : Type 0} → Option A → Option A → Option A
or_else None o = o
or_else (Some a) o = Some a

-- what a declaration is under its own name
abbrev pub entry_named : Declaration → ℕ → Name → Option Entry
entry_named d n x = if bytes_eq d.name x then Some (record { definition = d.definition; number = n }) else None

-- each name finds its entry
abbrev pub FindsEntries : BTreeMap (Bor (List ℕ)) Numbered → List Declaration → Type 0
FindsEntries m ds = (x : Name) → found m x ≡ entry_of ds x

-- names by their bytes
abbrev pub names_of : List (Bor Name) → List Name
names_of xs = map (λ (x : Bor Name). x.now) xs
