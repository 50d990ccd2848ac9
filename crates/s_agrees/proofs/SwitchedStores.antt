-- The store that a switch leaves: the coroutine that is switched to is consumed, and what is switched from is kept.
use Rattle.std.proofs.Common.{◌≡◌, ℕ, ◌+◌, List, [], ◌∷◌, ◌++◌, Some, None, refl, sym, ap, ◌∙◌, subst, arith, append-nil}
use Rattle.std.specs.Prelude.{slice_get, slice_set}
use Rattle.w_reduce.specs.Store.{Store, live, next_cont, with_cont, without_cont}
use Rattle.w_reduce.specs.Terms.{Continuation}
use Rattle.s_syntax.specs.declared.script.Declaration.{Declaration}
use Rattle.s_meaning.specs.Terms as script
use Rattle.s_meaning.specs.Steps.{emptied, with_kept, next_address}
use Rattle.s_meaning.proofs.Lists.{get_last, length_set}
use Rattle.s_agrees.proofs.StandsFor.{KeptAs, Stores}
use Rattle.s_agrees.proofs.CountedContexts.{labels, stored, live_more, live_less, stored_more, stored_less}
use Rattle.s_agrees.proofs.StoresGrow.{stores_more}
use Rattle.s_agrees.proofs.StoresLeft.{stores_less}

-- the store without the continuation b, and with the continuation l
abbrev pub switched_store : Store → ℕ → Continuation → Store
switched_store s b l = with_cont l (without_cont b s)

-- where the addresses are then
abbrev pub switched_addresses : List ℕ → Store → List ℕ
switched_addresses ρ s = ρ ++ next_cont s ∷ []

-- the coroutine a, whose continuation is b, is consumed, and m is kept, which the continuation l keeps
module _ {ds : List Declaration} {ρ : List ℕ} {σ : script.Store} {s : Store} (h : Stores ds ρ σ s) (a b : ℕ) (r : script.Kept) (k : Continuation) (there : slice_get ρ a ≡ Some b)
    (left_is : slice_get σ.contexts a ≡ Some (Some r)) (right_is : slice_get s.conts b ≡ Some (Some k)) (m : script.Kept) (l : Continuation) where
  pub stores_switched : KeptAs ds ρ m l → Stores ds (switched_addresses ρ s) (with_kept (emptied σ a) m) (switched_store s b l)
  stores_switched kept =
      let less : Stores ds ρ (emptied σ a) (without_cont b s) = stores_less h a b r k there left_is right_is [] (sym (append-nil (slice_set s.conts b None))) refl refl refl in
      subst (λ (n : ℕ). Stores ds (ρ ++ n ∷ []) (with_kept (emptied σ a) m) (switched_store s b l)) (length_set s.conts b None) (stores_more less kept)

  -- what is kept has the next address on both sides
  pub kept_there : slice_get (switched_addresses ρ s) (next_address σ) ≡ Some (next_cont s)
  kept_there = ap (λ (n : ℕ). slice_get (switched_addresses ρ s) n) (sym h.as_many) ∙ get_last ρ (next_cont s)

  pub switched_live : live (switched_store s b l) ≡ live s
  switched_live = live_more (slice_set s.conts b None) l ∙ live_less s.conts b k right_is

  pub switched_stored : stored (switched_store s b l).conts + labels k.term.around ≡ stored s.conts + labels l.term.around
  switched_stored = let x = stored_more (slice_set s.conts b None) l in let y = stored_less s.conts b k right_is in omega (arith, x, y)
