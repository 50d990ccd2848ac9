-- One context more that is kept, and the continuation that keeps it: stores stand for one another as before.
use Rattle.std.proofs.Common.{◌≡◌, ℕ, zero, suc, ◌+◌, ◌<◌, List, [], ◌∷◌, ◌++◌, length, ◌⊎◌, inl, inr, Option, Some, None, refl, sym, ap, ◌∙◌, subst, arith, length-append}
use Rattle.std.specs.Prelude.{slice_get}
use Rattle.std.proofs.lemmas.Option.{slice_get_within}
use Rattle.w_reduce.specs.Values.{Val}
use Rattle.w_reduce.specs.Store.{Store, Table, next_cont, with_cont}
use Rattle.w_reduce.specs.Terms.{Continuation}
use Rattle.s_syntax.specs.declared.script.Slots.{Slots}
use Rattle.s_syntax.specs.declared.script.Declaration.{Declaration}
use Rattle.s_meaning.specs.Terms as script
use Rattle.s_meaning.specs.Terms.{Contents}
use Rattle.s_meaning.specs.Steps.{with_kept}
use Rattle.s_meaning.proofs.Lists.{get_before, get_last}
use Rattle.s_agrees.proofs.StandsFor.{switched_as, KeptAs, number_alone, number_and_coroutine, not_begun, Entry, consumed, keeps, Element, is_empty, is_kept, Elements, no_elements, element, SlotsKept, Stores}
use Rattle.s_agrees.proofs.MoreResumptions.{Grows, grows_more, active_grows}
use Rattle.s_agrees.proofs.Contexts.{waits_grow}
use Rattle.s_agrees.proofs.CountedContexts.{live_more, full_more}

-- ## Entries

pub kept_grows : {ds : List Declaration} {ρ ρ' : List ℕ} {r : script.Kept} {k : Continuation} → Grows ρ ρ' → KeptAs ds ρ r k → KeptAs ds ρ' r k
kept_grows g (number_alone h) = number_alone (record { takes = h.takes; ahead = h.ahead; waits = waits_grow g h.waits })
kept_grows g (number_and_coroutine (switched_as hx hu a r b w takes is)) = number_and_coroutine (switched_as hx hu (active_grows g a) r b (waits_grow g w) takes is)
kept_grows g (not_begun i) = not_begun i

pub entry_grows : {ds : List Declaration} {ρ ρ' : List ℕ} {o : Option (Option script.Kept)} {q : Option (Option Continuation)} → Grows ρ ρ' → Entry ds ρ o q → Entry ds ρ' o q
entry_grows g consumed = consumed
entry_grows g (keeps h) = keeps (kept_grows g h)

-- both sides are there
pub record Sides (ds : List Declaration) (ρ : List ℕ) (o : Option (Option script.Kept)) (q : Option (Option Continuation)) : Type 0 where
  pub left : Option script.Kept
  pub right : Option Continuation
  pub left_is : o ≡ Some left
  pub right_is : q ≡ Some right
  pub entry : Entry ds ρ (Some left) (Some right)

pub sides : {ds : List Declaration} {ρ : List ℕ} {o : Option (Option script.Kept)} {q : Option (Option Continuation)} → Entry ds ρ o q → Sides ds ρ o q
sides consumed = record { left = None; right = None; left_is = refl; right_is = refl; entry = consumed }
sides (keeps {r = r} {k = k} h) = record { left = Some r; right = Some k; left_is = refl; right_is = refl; entry = keeps h }

-- an entry whose sides are found at other places
pub entry_at : {ds : List Declaration} {ρ : List ℕ} {o o' : Option (Option script.Kept)} {q q' : Option (Option Continuation)} → o' ≡ o → q' ≡ q → Entry ds ρ o q → Entry ds ρ o' q'
entry_at {ds} {ρ} {o} {o'} {q} {q'} x y h = subst (λ (z : Option (Option script.Kept)). Entry ds ρ z q') (sym x) (subst (λ (z : Option (Option Continuation)). Entry ds ρ o z) (sym y) h)

-- ## Slots

element_grows : {ρ ρ' : List ℕ} {q : Option ℕ} {w : Val} → Grows ρ ρ' → Element ρ q w → Element ρ' q w
element_grows g is_empty = is_empty
element_grows g (is_kept {a = a} {b = b} e) = is_kept (g.keeps a b e)

elements_grow : {ρ ρ' : List ℕ} {ps : List (Option ℕ)} {vs : List Val} → Grows ρ ρ' → Elements ρ ps vs → Elements ρ' ps vs
elements_grow g no_elements = no_elements
elements_grow g (element h t) = element (element_grows g h) (elements_grow g t)

slots_grow : {ρ ρ' : List ℕ} {d : Slots} {o : Option Contents} {q : Option Table} → Grows ρ ρ' → SlotsKept ρ d o q → SlotsKept ρ' d o q
slots_grow g k = record { contents = k.contents; table = k.table; found = k.found; there = k.there; many = k.many; of_handler = k.of_handler; elements = elements_grow g k.elements }

-- ## A list with one item more

pub old_or_new : {A : Type 0} (xs : List A) (x : A) (a : ℕ) (e : A) → slice_get (xs ++ x ∷ []) a ≡ Some e → (slice_get xs a ≡ Some e) ⊎ ((a ≡ length xs) × (e ≡ x))
old_or_new [] x zero e q = inr (refl, cc)
old_or_new [] x (suc a) e q = absurd (cc)
old_or_new (y ∷ xs) x zero e q = inl q
old_or_new (y ∷ xs) x (suc a) e q = further (old_or_new xs x a e q)
  where
    further : (slice_get xs a ≡ Some e) ⊎ ((a ≡ length xs) × (e ≡ x)) → (slice_get xs a ≡ Some e) ⊎ ((suc a ≡ suc (length xs)) × (e ≡ x))
    further (inl h) = inl h
    further (inr h) = inr (ap suc h.0, h.1)

-- ## Stores

module _ {ds : List Declaration} {ρ : List ℕ} {σ : script.Store} {s : Store} (h : Stores ds ρ σ s) {r : script.Kept} {k : Continuation} (kept : KeptAs ds ρ r k) where
  -- an address of the store, so not the next one
  earlier : (a b : ℕ) → slice_get ρ a ≡ Some b → b < next_cont s
  earlier a b e = let z = sides (h.each a b e) in slice_get_within s.conts b z.right z.right_is

  each_more : (a b : ℕ) → (slice_get ρ a ≡ Some b) ⊎ ((a ≡ length ρ) × (b ≡ next_cont s))
      → Entry ds (ρ ++ next_cont s ∷ []) (slice_get (with_kept σ r).contexts a) (slice_get (with_cont k s).conts b)
  each_more a b (inl e) =
      let x = sides (h.each a b e) in
      entry_at (get_before σ.contexts (Some r ∷ []) a x.left x.left_is) (get_before s.conts (Some k ∷ []) b x.right x.right_is) (entry_grows (grows_more ρ (next_cont s)) x.entry)
  each_more a b (inr e) =
      entry_at (ap (λ (z : ℕ). slice_get (σ.contexts ++ Some r ∷ []) z) (e.0 ∙ h.as_many) ∙ get_last σ.contexts (Some r))
      (ap (λ (z : ℕ). slice_get (s.conts ++ Some k ∷ []) z) e.1 ∙ get_last s.conts (Some k)) (keeps (kept_grows (grows_more ρ (next_cont s)) kept))

  apart_more : (a a' b : ℕ) → (slice_get ρ a ≡ Some b) ⊎ ((a ≡ length ρ) × (b ≡ next_cont s)) → (slice_get ρ a' ≡ Some b) ⊎ ((a' ≡ length ρ) × (b ≡ next_cont s)) → a ≡ a'
  apart_more a a' b (inl e) (inl q) = h.apart a a' b e q
  apart_more a a' b (inl e) (inr q) = let lt = earlier a b e in let same = q.1 in absurd (omega (arith, lt, same))
  apart_more a a' b (inr e) (inl q) = let lt = earlier a' b q in let same = e.1 in absurd (omega (arith, lt, same))
  apart_more a a' b (inr e) (inr q) = e.0 ∙ sym q.0

  pub stores_more : Stores ds (ρ ++ next_cont s ∷ []) (with_kept σ r) (with_cont k s)
  stores_more = record {
    as_many = length-append ρ (next_cont s ∷ []) ∙ ap (λ (z : ℕ). z + 1) h.as_many ∙ sym (length-append σ.contexts (Some r ∷ []));
    each = λ a b e. each_more a b (old_or_new ρ (next_cont s) a b e);
    apart = λ a a' b e q. apart_more a a' b (old_or_new ρ (next_cont s) a b e) (old_or_new ρ (next_cont s) a' b q);
    lives = live_more s.conts k ∙ ap suc h.lives ∙ sym (full_more σ.contexts r);
    slots = λ x d e. slots_grow (grows_more ρ (next_cont s)) (h.slots x d e);
    functions = h.functions;
  }
