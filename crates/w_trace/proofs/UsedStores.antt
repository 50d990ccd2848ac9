-- Stores of continuations before and after uses.
use Rattle.std.proofs.Common.{◌≡◌, ℕ, zero, suc, ◌+◌, true, List, [], ◌∷◌, ◌++◌, length, Option, Some, None, is_some, refl, sym, ap, subst, arith}
use Rattle.std.specs.Prelude.{slice_get, slice_set}
use Rattle.std.proofs.lemmas.Bool.{eq-eqb}
use Rattle.std.proofs.lemmas.List.{length-set, length-map, map-set, map-append}
use Rattle.w_reduce.specs.Terms.{Continuation}
use Rattle.w_once.specs.Consumptions.{emptied_from}
use Rattle.w_trace.specs.Once.{Consumes, Makes, consume, after_uses}
use Rattle.w_trace.specs.Events.{flags_of, Leads}
use Rattle.w_trace.proofs.Flags.{length-more}

-- ## What is emptied

pub emptied_same : (b : ℕ) (ks : List (Option Continuation)) → emptied_from b ks ks ≡ []
emptied_same b [] = refl
emptied_same b (None ∷ ks) = emptied_same (suc b) ks
emptied_same b (Some k ∷ ks) = emptied_same (suc b) ks

emptied_one : (b a : ℕ) (ks : List (Option Continuation)) (k : Continuation) → slice_get ks a ≡ Some (Some k) → emptied_from b ks (slice_set ks a None) ≡ (b + a) ∷ []
emptied_one b a [] k e = absurd (cc)
emptied_one b zero (None ∷ ks) k e = absurd (cc)
emptied_one b zero (Some l ∷ ks) k e =
    let same = emptied_same (suc b) ks in let at : b + 0 ≡ b = omega arith in rw same (rw at refl)
emptied_one b (suc a) (None ∷ ks) k e =
    let i = emptied_one (suc b) a ks k e in let at : suc b + a ≡ b + suc a = omega arith in subst (λ (n : ℕ). emptied_from (suc b) ks (slice_set ks a None) ≡ n ∷ []) at i
emptied_one b (suc a) (Some l ∷ ks) k e =
    let i = emptied_one (suc b) a ks k e in let at : suc b + a ≡ b + suc a = omega arith in subst (λ (n : ℕ). emptied_from (suc b) ks (slice_set ks a None) ≡ n ∷ []) at i

emptied_at : (ks : List (Option Continuation)) (a : ℕ) (k : Continuation) → slice_get ks a ≡ Some (Some k) → emptied_from 0 ks (slice_set ks a None) ≡ a ∷ []
emptied_at ks a k e = let at : 0 + a ≡ a = omega arith in subst (λ (n : ℕ). emptied_from 0 ks (slice_set ks a None) ≡ n ∷ []) at (emptied_one 0 a ks k e)

-- what is made empties nothing
emptied_more : (b : ℕ) (before now : List (Option Continuation)) (k : Continuation) → length now ≡ length before → emptied_from b before (now ++ Some k ∷ []) ≡ emptied_from b before now
emptied_more b [] now k e = refl
emptied_more b (o ∷ before) [] k e = absurd (omega (arith, e))
emptied_more b (None ∷ before) (o ∷ now) k e = emptied_more (suc b) before now k (omega (arith, e))
emptied_more b (Some l ∷ before) (Some m ∷ now) k e = emptied_more (suc b) before now k (omega (arith, e))
emptied_more b (Some l ∷ before) (None ∷ now) k e = ap (λ xs. b ∷ xs) (emptied_more (suc b) before now k (omega (arith, e)))

-- ## Flags

flag_of : (ks : List (Option Continuation)) (a : ℕ) (k : Continuation) → slice_get ks a ≡ Some (Some k) → slice_get (flags_of ks) a ≡ Some true
flag_of [] a k e = absurd (cc)
flag_of (None ∷ ks) zero k e = absurd (cc)
flag_of (Some l ∷ ks) zero k e = refl
flag_of (o ∷ ks) (suc a) k e = flag_of ks a k e

consume_flag : (ks : List (Option Continuation)) (a : ℕ) (k : Continuation) → slice_get ks a ≡ Some (Some k) → consume a (flags_of ks) ≡ Some (flags_of (slice_set ks a None))
consume_flag ks a k e = let live = flag_of ks a k e in let set = map-set is_some ks a None in rw live (rw set refl)

make_flag : (ks : List (Option Continuation)) (n : ℕ) (k : Continuation) → n ≡ length ks → after_uses (Makes n ∷ []) (flags_of ks) ≡ Some (flags_of (ks ++ Some k ∷ []))
make_flag ks n k e =
    let long = length-map ks is_some in
    let next = eq-eqb n (length (flags_of ks)) (omega (arith, e, long)) in
    let more = map-append is_some ks (Some k ∷ []) in
    rw next (rw more refl)

-- ## Each of the ways in which a store changes

pub leads_same : (ks : List (Option Continuation)) → Leads [] ks ks
leads_same ks = record { emptied = emptied_same 0 ks; made = omega arith; in_order = tt; by_flags = refl }

-- one is made
pub leads_made : (ks : List (Option Continuation)) (k : Continuation) → Leads (Makes (length ks) ∷ []) ks (ks ++ Some k ∷ [])
leads_made ks k = record {
  emptied = let more = emptied_more 0 ks ks k refl in let same = emptied_same 0 ks in cc;
  made = let l = length-more ks (Some k) in omega (arith, l);
  in_order = (refl, tt);
  by_flags = make_flag ks (length ks) k refl;
}

-- one is consumed
pub leads_consumed : (ks : List (Option Continuation)) (a : ℕ) (k : Continuation) → slice_get ks a ≡ Some (Some k) → Leads (Consumes a ∷ []) ks (slice_set ks a None)
leads_consumed ks a k e = record {
  emptied = emptied_at ks a k e;
  made = let l = length-set ks a None in omega (arith, l);
  in_order = tt;
  by_flags = let c = consume_flag ks a k e in rw c refl;
}

-- one is consumed, and one is made
pub leads_both : (ks : List (Option Continuation)) (a : ℕ) (k l : Continuation) → slice_get ks a ≡ Some (Some k) → Leads (Consumes a ∷ Makes (length ks) ∷ []) ks (slice_set ks a None ++ Some l ∷ [])
leads_both ks a k l e = record {
  emptied = let more = emptied_more 0 ks (slice_set ks a None) l (length-set ks a None) in let one = emptied_at ks a k e in cc;
  made = let m = length-more (slice_set ks a None) (Some l) in let n = length-set ks a None in omega (arith, m, n);
  in_order = (refl, tt);
  by_flags = let c = consume_flag ks a k e in let m = make_flag (slice_set ks a None) (length ks) l (sym (length-set ks a None)) in rw c m;
}
