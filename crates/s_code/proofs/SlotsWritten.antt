-- What is written of a store and of a take, part by part.
use Rattle.std.proofs.Common.{◌≡◌, ℕ, List, ◌++◌, sym, ap, ◌∙◌}
use Rattle.w_syntax.specs.declared.instructions.Token.{Token}
use Rattle.w_syntax.specs.Code.{Code, Plain}
use Rattle.w_syntax.specs.Expr.{tokens}
use Rattle.s_syntax.specs.declared.name.Name.{Name}
use Rattle.s_syntax.specs.declared.script.Declaration.{Declaration}
use Rattle.s_index.specs.Numbers.{table_index}
use Rattle.s_index.specs.Types.{resumption_type}
use Rattle.s_code.specs.Instructions.{wrap, local_get, local_set, table_get, table_set, null, non_null}
use Rattle.s_code.specs.Layouts.{Layout, local_number}
use Rattle.s_code.specs.Slots.{places_of, to_place, store_code, take_code}
use Rattle.s_code.proofs.HandlesWritten.{Written}

-- a place, by the local and by how many places there are
placed : (t t' n n' : ℕ) (o0 o1 : List Token) → t ≡ t' → n ≡ n' → Written o0 (to_place t n) o1 → Written o0 (to_place t' n') o1
placed t t' n n' o0 o1 is many s k = ap (λ (i : ℕ). o0 ++ tokens (to_place i n' k)) (sym is) ∙ ap (λ (i : ℕ). o0 ++ tokens (to_place t i k)) (sym many) ∙ s k

pub store_written : (ds : List Declaration) (Γ : Layout) (s x : Name) (t n y table : ℕ) (o0 o1 o2 o3 : List Token)
    → t ≡ Γ.temporaries → n ≡ places_of ds s → y ≡ local_number Γ x → table ≡ table_index ds s
    → Written o0 (to_place t n) o1
    → Written o1 (Plain (local_get y)) o2
    → Written o2 (Plain (table_set table)) o3
    → Written o0 (store_code ds Γ s x) o3
store_written ds Γ s x t n y table o0 o1 o2 o3 is many at of s1 s2 s3 k =
    let stored : Code = Plain (table_set (table_index ds s)) k in
    placed t Γ.temporaries n (places_of ds s) o0 o1 is many s1 (Plain (local_get (local_number Γ x)) stored)
    ∙ ap (λ (i : ℕ). o1 ++ tokens (Plain (local_get i) stored)) (sym at)
    ∙ s2 stored
    ∙ ap (λ (i : ℕ). o2 ++ tokens (Plain (table_set i) k)) (sym of)
    ∙ s3 k

pub take_written : (ds : List Declaration) (Γ : Layout) (x s : Name) (t n y table : ℕ) (o0 o1 o2 o3 o4 o5 o6 o7 o8 : List Token)
    → t ≡ Γ.temporaries → n ≡ places_of ds s → y ≡ local_number Γ x → table ≡ table_index ds s
    → Written o0 (to_place t n) o1
    → Written o1 (Plain (table_get table)) o2
    → Written o2 (Plain non_null) o3
    → Written o3 (Plain (local_set y)) o4
    → Written o4 (Plain (local_get t)) o5
    → Written o5 (Plain wrap) o6
    → Written o6 (Plain (null resumption_type)) o7
    → Written o7 (Plain (table_set table)) o8
    → Written o0 (take_code ds Γ x s) o8
take_written ds Γ x s t n y table o0 o1 o2 o3 o4 o5 o6 o7 o8 is many at of s1 s2 s3 s4 s5 s6 s7 s8 k =
    let emptied : Code = Plain (table_set (table_index ds s)) k in
    let cleared : Code = Plain wrap (Plain (null resumption_type) emptied) in
    let again : Code = Plain (local_get Γ.temporaries) cleared in
    let had : Code = Plain non_null (Plain (local_set (local_number Γ x)) again) in
    placed t Γ.temporaries n (places_of ds s) o0 o1 is many s1 (Plain (table_get (table_index ds s)) had)
    ∙ ap (λ (i : ℕ). o1 ++ tokens (Plain (table_get i) had)) (sym of)
    ∙ s2 had ∙ s3 (Plain (local_set (local_number Γ x)) again)
    ∙ ap (λ (i : ℕ). o3 ++ tokens (Plain (local_set i) again)) (sym at)
    ∙ s4 again
    ∙ ap (λ (i : ℕ). o4 ++ tokens (Plain (local_get i) cleared)) (sym is)
    ∙ s5 cleared ∙ s6 (Plain (null resumption_type) emptied) ∙ s7 emptied
    ∙ ap (λ (i : ℕ). o7 ++ tokens (Plain (table_set i) k)) (sym of)
    ∙ s8 k
