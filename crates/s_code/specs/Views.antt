-- What layouts as they are kept stand for.
use Rattle.std.specs.Prelude.{◌≡◌, ℕ, List, map, Option}
use Rattle.std.specs.Borrow.{Bor}
use Rattle.std.specs.Option.{option_map}
use Rattle.std.specs.BTreeMap.{BTreeMap}
use Rattle.std.specs.BTreeMap as tree
use Rattle.std.specs.Cmp.Lexicographic.{slice_cmp}
use Rattle.std.specs.Ordering.{nat_cmp}
use Rattle.s_syntax.specs.declared.name.Name.{Name}
use Rattle.s_syntax.specs.declared.script.VariableType.{VariableType}
use Rattle.s_syntax.specs.declared.script.VariableType.TheVariants.{Int, Resumption, Coroutine}
use Rattle.s_code.specs.declared.layout.LocalType.{LocalType}
use Rattle.s_code.specs.declared.layout.LocalType.TheVariants as value
use Rattle.s_code.specs.declared.layout.LocalName.{LocalName}
use Rattle.s_code.specs.declared.layout.OwnHandler.{OwnHandler}
use Rattle.s_code.specs.Layouts.{Local, Owner, Layout, local_of}

abbrev pub type_of : LocalType → VariableType
type_of value.Int = Int
type_of (value.Resumption h) = Resumption h.now
type_of value.Coroutine = Coroutine

abbrev pub local_in : LocalName → Local
local_in l = record { name = l.name.now; ty = type_of l.ty; number = l.number }

abbrev pub locals_in : List LocalName → List Local
locals_in ls = map local_in ls

abbrev pub owner_in : OwnHandler → Owner
owner_in o = record { name = o.name.now; parameters = o.parameters }

abbrev pub layout_in : List LocalName → ℕ → Option OwnHandler → Layout
layout_in ls n o = record { names = locals_in ls; temporaries = n; owner = option_map owner_in o }

abbrev pub name_in : Bor Name → Name
name_in x = x.now

abbrev pub found : BTreeMap (Bor (List ℕ)) LocalName → Name → Option Local
found m x = option_map local_in (tree.get_by (λ (k : Bor (List ℕ)). slice_cmp nat_cmp x k.now) m)

-- each name finds its local
abbrev pub FoundLocals : BTreeMap (Bor (List ℕ)) LocalName → List LocalName → Type 0
FoundLocals m ls = (x : Name) → found m x ≡ local_of (locals_in ls) x
