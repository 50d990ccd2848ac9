-- A configuration passes no limit exactly where it is within each.
use Rattle.std.proofs.Common.{◌≡◌, ◌≤◌, ℕ, nat_le, Bool, true, false, None, refl, arith}
use Rattle.w_reduce.specs.Store.{Store, live}
use Rattle.w_reduce.specs.Terms.{Context, frames, handles}
use Rattle.w_reduce.specs.Limits.{most_frames, most_handles, most_conts, first_passed, passed, IsWithin}

le_true : (n most : ℕ) → n ≤ most → nat_le n most ≡ true
le_true n most h = grind (arith, h)

true_le : (n most : ℕ) → nat_le n most ≡ true → n ≤ most
true_le n most h = grind (arith, h)

none_by : (a b c : Bool) → first_passed a b c ≡ None → (a ≡ true) × (b ≡ true) × (c ≡ true)
none_by true true true h = (refl, refl, refl)
none_by true true false h = absurd (cc)
none_by true false c h = absurd (cc)
none_by false b c h = absurd (cc)

-- where none is passed it is within each
pub none_within : (s : Store) (e : Context) → passed s e ≡ None → IsWithin s e
none_within s e h =
    let k = none_by (nat_le (frames e) most_frames) (nat_le (handles e) most_handles) (nat_le (live s) most_conts) h in
    record { few_frames = true_le (frames e) most_frames k.0; few_handles = true_le (handles e) most_handles k.1; few_conts = true_le (live s) most_conts k.2 }

-- and where it is, none is passed
pub within_none : (s : Store) (e : Context) → IsWithin s e → passed s e ≡ None
within_none s e h = rw (le_true (frames e) most_frames h.few_frames, le_true (handles e) most_handles h.few_handles, le_true (live s) most_conts h.few_conts) refl
