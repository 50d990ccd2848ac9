-- The stores that handle and resume leave: what they make is consumed at once, and a resumption that is resumed is consumed.
use Rattle.std.proofs.Common.{◌≡◌, ℕ, List, [], ◌∷◌, ◌++◌, length, Option, Some, None, refl, sym, ap, ◌∙◌, arith}
use Rattle.std.specs.Prelude.{slice_get, slice_set}
use native.Mathlib.Decide.{ℕ_discrete}
use Rattle.w_reduce.specs.Store.{Store, Table, live, live_in}
use Rattle.w_reduce.specs.Terms.{Continuation}
use Rattle.s_syntax.specs.declared.script.Slots.{Slots}
use Rattle.s_syntax.specs.declared.script.Declaration.{Declaration}
use Rattle.s_index.specs.Numbers.{table_index}
use Rattle.s_meaning.specs.Terms as script
use Rattle.s_meaning.specs.Terms.{Contents}
use Rattle.s_meaning.specs.Steps.{emptied}
use Rattle.s_meaning.proofs.Lists.{get_before, length_set}
use Rattle.s_agrees.proofs.StandsFor.{Entry, consumed, SlotsKept, Stores}
use Rattle.s_agrees.proofs.MoreResumptions.{get_set_same, get_set_other}
use Rattle.s_agrees.proofs.CountedContexts.{live_less, full_less}
use Rattle.s_agrees.proofs.StoresGrow.{sides, entry_at}
use Rattle.s_agrees.proofs.BoundValues.{some_is}

-- the last item is set
pub set_last : {A : Type 0} (xs : List A) (x y : A) → slice_set (xs ++ x ∷ []) (length xs) y ≡ xs ++ y ∷ []
set_last [] x y = refl
set_last {A} (z ∷ xs) x y = ap (λ (l : List A). z ∷ l) (set_last xs x y)

-- slots whose table is found at another place
slots_at : {ρ : List ℕ} {d : Slots} {o : Option Contents} {q q' : Option Table} → q' ≡ q → SlotsKept ρ d o q → SlotsKept ρ d o q'
slots_at e k = record { contents = k.contents; table = k.table; found = k.found; there = e ∙ k.there; many = k.many; of_handler = k.of_handler; elements = k.elements }

-- more entries, to which nothing refers
pub stores_spent : {ds : List Declaration} {ρ : List ℕ} {σ : script.Store} {s s' : Store} → Stores ds ρ σ s → (ks : List (Option Continuation)) → s'.conts ≡ s.conts ++ ks
    → s'.functions ≡ s.functions → s'.tables ≡ s.tables → live s' ≡ live s → Stores ds ρ σ s'
stores_spent {ds} {ρ} {σ} {s} {s'} h ks more same tables lives = record {
  as_many = h.as_many;
  each = λ a b q. let x = sides (h.each a b q) in
      entry_at x.left_is (ap (λ (z : List (Option Continuation)). slice_get z b) more ∙ get_before s.conts ks b x.right x.right_is) x.entry;
  apart = h.apart;
  lives = lives ∙ h.lives;
  slots = λ x d e. slots_at (ap (λ (ts : List Table). slice_get ts (table_index ds x)) tables) (h.slots x d e);
  functions = same ∙ h.functions;
}

-- the resumption a, whose continuation is b, is consumed
module _ {ds : List Declaration} {ρ : List ℕ} {σ : script.Store} {s : Store} (h : Stores ds ρ σ s) (a b : ℕ) (r : script.Kept) (k : Continuation) (there : slice_get ρ a ≡ Some b)
    (left_is : slice_get σ.contexts a ≡ Some (Some r)) (right_is : slice_get s.conts b ≡ Some (Some k)) where
  entry_less : (a' b' : ℕ) → slice_get ρ a' ≡ Some b' → Entry ds ρ (slice_get (emptied σ a).contexts a') (slice_get (slice_set s.conts b None) b')
  entry_less a' b' q = elim (ℕ_discrete a' a) [
    | yes e ↦
        let same : b' ≡ b = some_is (sym q ∙ ap (λ (z : ℕ). slice_get ρ z) e ∙ there) in
        entry_at (ap (λ (z : ℕ). slice_get (slice_set σ.contexts a None) z) e ∙ get_set_same σ.contexts a None (Some r) left_is)
        (ap (λ (z : ℕ). slice_get (slice_set s.conts b None) z) same ∙ get_set_same s.conts b None (Some k) right_is) consumed
    | no n ↦
        entry_at (get_set_other σ.contexts a a' None (λ (e : a ≡ a'). n (sym e)))
        (get_set_other s.conts b b' None (λ (e : b ≡ b'). n (h.apart a' a b' q (there ∙ ap (λ (z : ℕ). Some z) e)))) (h.each a' b' q)
  ]

  pub stores_less : {s' : Store} (ks : List (Option Continuation)) → s'.conts ≡ slice_set s.conts b None ++ ks → s'.functions ≡ s.functions → s'.tables ≡ s.tables → live s' ≡ live_in (slice_set s.conts b None)
      → Stores ds ρ (emptied σ a) s'
  stores_less {s'} ks more same tables lives =
      let x = live_less s.conts b k right_is in let y = full_less σ.contexts a r left_is in let z = h.lives in record {
        as_many = h.as_many ∙ sym (length_set σ.contexts a None);
        each = λ a' b' q. let x = sides (entry_less a' b' q) in
            entry_at x.left_is (ap (λ (z : List (Option Continuation)). slice_get z b') more ∙ get_before (slice_set s.conts b None) ks b' x.right x.right_is) x.entry;
        apart = h.apart;
        lives = omega (arith, lives, x, y, z);
        slots = λ x d e. slots_at (ap (λ (ts : List Table). slice_get ts (table_index ds x)) tables) (h.slots x d e);
        functions = same ∙ h.functions;
      }
