-- From what reading gives to where spellings begin: what a reader answers is some exactly where a spelling begins.
use Rattle.std.proofs.Common.{◌≡◌, ℕ, ◌-◌, ◌≤◌, List, ◌++◌, length, take, drop, Option, Some, None, Result, Ok, Err, IfOk, sym, ap, subst, ◌∙◌, arith}
use Rattle.std.specs.Prelude.{slice_range}
use Rattle.std.proofs.lemmas.List.{take_at, take-append-drop, length-append, length-drop}
use Rattle.w_leb.specs.Format.{Grammar, Reading, Format, IsExact, ReadsAt, BeginsAt}

pub begins_some : {A : Type 0} (g : Grammar A) (r : Reading A) → IsExact g r → (bytes : List ℕ) (at next : ℕ) (x : A) → r (drop at bytes) ≡ Some (x, drop next bytes) → at ≤ next → next ≤ length bytes → g (slice_range bytes at next) x
begins_some g r p bytes at next x e le within =
    let s = p.sound (drop at bytes) x (drop next bytes) e in
    let len : length s.0 ≡ next - at = omega (arith, ap length s.1, length-append s.0 (drop next bytes), length-drop at bytes, length-drop next bytes) in
    let same : take (next - at) (drop at bytes) ≡ s.0 = ap (take (next - at)) s.1 ∙ take_at s.0 (drop next bytes) (next - at) len in
    subst (λ (b : List ℕ). g b x) (sym same) s.2

pub begins_none : {A : Type 0} (g : Grammar A) (r : Reading A) → IsExact g r → (bytes : List ℕ) (at : ℕ) → r (drop at bytes) ≡ None → (next : ℕ) (x : A) → g (slice_range bytes at next) x → ⊥
begins_none {A = A} g r p bytes at e next x h =
    let again = p.complete (slice_range bytes at next) x (drop (next - at) (drop at bytes)) h in
    let whole : slice_range bytes at next ++ drop (next - at) (drop at bytes) ≡ drop at bytes = take-append-drop (next - at) (drop at bytes) in
    let e2 : ◌≡◌ {A = Option (A × List ℕ)} None (Some (x, drop (next - at) (drop at bytes))) = sym e ∙ ap r (sym whole) ∙ again in
    absurd cc

-- the same for what a reader answers
pub begins : {A : Type 0} (g : Grammar A) (r : Reading A) → IsExact g r → (bytes : List ℕ) (at : ℕ) (o : Option (A × ℕ)) → ReadsAt r bytes at o → BeginsAt g bytes at o
begins g r p bytes at None h = begins_none g r p bytes at h
begins g r p bytes at (Some x) h = (h.1, h.2, begins_some g r p bytes at x.1 x.0 h.0 h.1 h.2)

-- and by a format
pub begins_at : {A : Type 0} (f : Format A) (bytes : List ℕ) (at : ℕ) (o : Option (A × ℕ)) → ReadsAt f.read bytes at o → BeginsAt f.Spells bytes at o
begins_at f bytes at o h = begins f.Spells f.read f.exact bytes at o h

-- and where the reader may want memory
pub begins_ok : {A E : Type 0} (f : Format A) (bytes : List ℕ) (at : ℕ) (r : Result (Option (A × ℕ)) E) → IfOk r (ReadsAt f.read bytes at) → IfOk r (BeginsAt f.Spells bytes at)
begins_ok f bytes at (Ok o) h = begins_at f bytes at o h
begins_ok f bytes at (Err e) h = tt
