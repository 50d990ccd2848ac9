-- What a run empties.
use Rattle.std.proofs.Common.{◌≡◌, ◌≢◌, ℕ, zero, suc, List, [], ◌∷◌, ◌++◌, length-append, Option, Some, None, refl, subst, arith}
use Rattle.std.specs.Prelude.{slice_get}
use Rattle.w_syntax.specs.declared.instructions.SwitchingOp.TheVariants as switching
use Rattle.w_syntax.specs.declared.module.Module.{Module}
use Rattle.w_reduce.specs.Apart.{PlainReductionsGoApart}
use Rattle.w_reduce.specs.Program.{Program}
use Rattle.w_reduce.specs.Run.{Run}
use Rattle.w_reduce.specs.Store.{Store}
use Rattle.w_reduce.specs.Terms.{Continuation, Term}
use Rattle.w_typed.specs.Configurations.{StartsAreTyped}
use Rattle.w_typed.specs.Stores.{Instances, no_instance, ContTyped}
use Rattle.w_once.specs.Consumptions.{emptied, Consumptions, Each, Once, IsConsumed, AreConsumedOnce, IsConsumedOnce, ConsumedTraps}
use Rattle.w_once.proofs.Later.{Later, gone_later}
use Rattle.w_once.proofs.LaterStores.{later_run}
use Rattle.w_once.proofs.EmptiedByReductions.{IsEmptied, each_map, each_emptied, emptied_once, emptied_count}

-- ## Lists one behind the other

each_append : (P : ℕ → Type 0) (xs bs : List ℕ) → Each P xs → Each P bs → Each P (xs ++ bs)
each_append P [] bs h k = k
each_append P (a ∷ xs) bs h k = (h.0, each_append P xs bs h.1 k)

once_append : (xs bs : List ℕ) → Once xs → Once bs → Each (λ a. Each (λ b. a ≢ b) bs) xs → Once (xs ++ bs)
once_append [] bs h k apart = k
once_append (a ∷ xs) bs h k apart = (each_append (λ b. a ≢ b) xs bs h.0 apart.0, once_append xs bs h.1 k apart.1)

-- ## One reduction more

-- what was consumed isn't emptied
other : (before now : List (Option Continuation)) (a : ℕ) → IsConsumed before a → (b : ℕ) → IsEmptied 0 before now b → a ≢ b
other before now a h b e same =
    let at : a ≡ e.place = let is = e.is in omega (arith, same, is) in
    let was = subst (λ (n : ℕ). slice_get before n ≡ Some None) at h in
    let now_was = e.was in
    absurd (cc)

emptied_at : (before now : List (Option Continuation)) (a : ℕ) → IsEmptied 0 before now a → IsConsumed now a
emptied_at before now a e = subst (IsConsumed now) (let is = e.is in omega (arith, is)) e.is_consumed

more_consumed : (xs : List ℕ) (s s' : Store) → Later s.conts s'.conts → AreConsumedOnce xs s → AreConsumedOnce (xs ++ emptied s s') s'
more_consumed xs s s' later h =
    let each = each_emptied 0 later in
    record {
      once = once_append xs (emptied s s') h.once (emptied_once 0 later) (each_map xs (λ a gone. each_map (emptied s s') (other s.conts s'.conts a gone) each) h.are_consumed);
      are_consumed = each_append (IsConsumed s'.conts) xs (emptied s s') (each_map xs (λ a gone. gone_later a later gone) h.are_consumed) (each_map (emptied s s') (emptied_at s.conts s'.conts) each);
      count = let more = emptied_count 0 later in let long = length-append xs (emptied s s') in let few = h.count in omega (arith, more, long, few);
    }

-- ## Runs

-- no continuation is typed by no arrow
pub no_arrows : {m : Module} {K : List _} {ks : List (Option Continuation)} → Instances (ContTyped m K) ks [] → ks ≡ []
no_arrows no_instance = refl

-- from a store without continuations on
pub consumed_from : PlainReductionsGoApart → (p : Program) (s : Store) (t : Term) → s.conts ≡ [] → (n : ℕ) → AreConsumedOnce (Consumptions p s t n) (Run p s t n).store
consumed_from plain p s t none zero = record { once = tt; are_consumed = tt; count = rw none refl }
consumed_from plain p s t none (suc n) =
    more_consumed (Consumptions p s t n) (Run p s t n).store (Run p s t (suc n)).store (later_run plain p s t n) (consumed_from plain p s t none n)

-- and so from the start of a sound module on
pub consumed_once : StartsAreTyped → PlainReductionsGoApart → IsConsumedOnce
consumed_once starts plain p s t program valid ready n = consumed_from plain p s t (no_arrows (starts p s t program valid ready).typed.store.conts) n

-- ## Uses

pub consumed_traps : ConsumedTraps
consumed_traps p s e vs a (switching.ContNew x) c uses gone = absurd (cc)
consumed_traps p s e vs a (switching.ContBind x y) c uses gone = rw gone refl
consumed_traps p s e vs a (switching.Suspend x) c uses gone = absurd (cc)
consumed_traps p s e vs a (switching.Resume x hs) c uses gone = rw gone refl
consumed_traps p s e vs a (switching.Switch x y) c uses gone = rw gone refl
