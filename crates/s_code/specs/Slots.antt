-- The code of slots, which are a table of references to continuations: where nothing stands, there is null. So `store` and `take` trap where
-- slots don't have the place, and `take` where nothing stands there.
use Rattle.std.specs.Prelude.{ℕ, pos, negsuc, List, Option, Some, None}
use Rattle.w_syntax.specs.Code.{Code, Plain}
use Rattle.w_syntax.specs.declared.numeric.Relop.TheVariants as relop
use Rattle.s_syntax.specs.declared.name.Name.{Name}
use Rattle.s_syntax.specs.declared.script.Slots.{Slots}
use Rattle.s_syntax.specs.declared.script.Declaration.{Declaration}
use Rattle.s_check.specs.Definitions.{slots_of}
use Rattle.s_index.specs.Numbers.{table_index}
use Rattle.s_index.specs.Types.{resumption_type}
use Rattle.s_code.specs.Instructions.{constant, constant_32, wrap, compare, select, local_get, local_set, table_get, table_set, null, non_null}
use Rattle.s_code.specs.Layouts.{Layout, local_number}

abbrev pub places_in : Option Slots → ℕ
places_in None = 0
places_in (Some s) = s.places.value

-- how many places slots have
abbrev pub places_of : List Declaration → Name → ℕ
places_of ds s = places_in (slots_of ds s)

-- The place, of n, that the number on the stack stands for; the local x keeps the number. Where it is none of them, the greatest i32 comes
-- instead, which is past the end of each table: the lower half of a number from 2^32 on may well be the number of a place.
abbrev pub to_place : (x n : ℕ) → Code → Code
to_place x n c =
    Plain (local_set x)
    (Plain (local_get x) (Plain wrap (Plain (constant_32 (negsuc 0)) (Plain (local_get x) (Plain (constant (pos n)) (Plain (compare relop.LtU) (Plain select c)))))))

-- `store s[e] = k;` behind e: nothing else is evaluated in its statement, so the first temporary keeps its number
abbrev pub store_code : List Declaration → Layout → Name → Name → Code → Code
store_code ds Γ s k c = to_place Γ.temporaries (places_of ds s) (Plain (local_get (local_number Γ k)) (Plain (table_set (table_index ds s)) c))

-- `take k = s[e];` behind e: the place is empty then
abbrev pub take_code : List Declaration → Layout → Name → Name → Code → Code
take_code ds Γ k s c =
    to_place Γ.temporaries (places_of ds s)
    (Plain (table_get (table_index ds s))
    (Plain non_null
    (Plain (local_set (local_number Γ k))
    (Plain (local_get Γ.temporaries) (Plain wrap (Plain (null resumption_type) (Plain (table_set (table_index ds s)) c)))))))
