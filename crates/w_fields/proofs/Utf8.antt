-- Names, and what is UTF-8.
use Rattle.std.proofs.Common.{◌≡◌, ℕ, List, Option, Some, None, refl, ap, Bool, true, false, cond}
use Rattle.std.proofs.lemmas.Str.{IsUtf8-from_is_utf8, is_utf8-from_IsUtf8}
use Rattle.std.specs.Str.{is_utf8, IsUtf8}
use Rattle.w_leb.specs.Formats.{bytes}
use Rattle.w_syntax.specs.Fields.{name}

pub no_bytes : (l : List ℕ) → bytes.read l ≡ None → name.read l ≡ None
unfolding name
no_bytes l h = rw h refl

pub utf8_name : (l e rest : List ℕ) → bytes.read l ≡ Some (e, rest) → IsUtf8 e → name.read l ≡ Some (e, rest)
unfolding name
utf8_name l e rest h u = let t = is_utf8-from_IsUtf8 e u in rw h (ap (λ (v : Bool). cond v (Some (e, rest)) None) t)

untrue : (e rest : List ℕ) (v : Bool) → is_utf8 e ≡ v → (IsUtf8 e → ⊥) → ◌≡◌ {A = Option (List ℕ × List ℕ)} (cond v (Some (e, rest)) None) None
untrue e rest true h u = absurd (u (IsUtf8-from_is_utf8 e h))
untrue e rest false h u = refl

pub no_utf8_name : (l e rest : List ℕ) → bytes.read l ≡ Some (e, rest) → (IsUtf8 e → ⊥) → name.read l ≡ None
unfolding name
no_utf8_name l e rest h u = rw h (untrue e rest (is_utf8 e) refl u)
