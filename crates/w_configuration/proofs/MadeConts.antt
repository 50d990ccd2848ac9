-- An instruction that switches stacks makes at most one continuation.
use Rattle.std.proofs.Common.{◌≡◌, ℕ, zero, suc, ◌+◌, ◌-◌, ◌≤◌, List, [], ◌∷◌, ◌++◌, length, Option, None, refl, ap, arith, length-append}
use Rattle.std.specs.Prelude.{slice_set}
use Rattle.lists.specs.Rows.{Row, row_of}
use Rattle.w_syntax.specs.Code.{Code}
use Rattle.w_syntax.specs.declared.instructions.SwitchingOp.{SwitchingOp}
use Rattle.w_syntax.specs.declared.instructions.SwitchingOp.TheVariants as switching
use Rattle.w_rules.specs.Context.{cont_of, type_of_tag}
use Rattle.w_rules.specs.Spaces.{context_of}
use Rattle.w_reduce.specs.declared.trap.Trap.{Trap}
use Rattle.w_reduce.specs.Handlers.{label_clause, switch_clause, find}
use Rattle.w_reduce.specs.Program.{Program}
use Rattle.w_reduce.specs.Reduced.{Reduced, Went, Trapped, Stuck}
use Rattle.w_reduce.specs.Store.{Store}
use Rattle.w_reduce.specs.Switching.{switching_op, back_type}
use Rattle.w_reduce.specs.Terms.{Context, Continuation, Term}
use Rattle.w_reduce.specs.Values.{Val}
use Rattle.w_reduce.proofs.GoesOn.{Allows, allows_or_stuck, allows_take_value, allows_take_values, allows_as_function, allows_as_continuation, allows_or_unhandled}

-- where it goes on, there is at most one more than n
pub data MakesOne (n : ℕ) : Reduced → Type 0 where
  one_goes : {out : List ℕ} {s : Store} {t : Term} → length s.conts ≤ n + 1 → MakesOne n (Went out s t)
  one_traps : {t : Trap} → MakesOne n (Trapped t)
  one_stuck : MakesOne n Stuck

pub made_one : {n : ℕ} {out : List ℕ} {s : Store} {t : Term} → MakesOne n (Went out s t) → length s.conts ≤ n + 1
made_one (one_goes h) = h

one_closed : (n : ℕ) → Allows (MakesOne n)
one_closed n = record { stuck = one_stuck; traps = λ t. one_traps }

-- ## The store with one more, and with one consumed

one_more : (ks : List (Option Continuation)) (k : Option Continuation) → length (ks ++ k ∷ []) ≤ length ks + 1
one_more ks k = let e = length-append ks (k ∷ []) in omega (arith, e)

one_gone : (ks : List (Option Continuation)) (a : ℕ) → length (slice_set ks a None) ≡ length ks
one_gone [] a = refl
one_gone (k ∷ ks) zero = refl
one_gone (k ∷ ks) (suc a) = ap suc (one_gone ks a)

one_both : (ks : List (Option Continuation)) (a : ℕ) (k : Option Continuation) → length (slice_set ks a None ++ k ∷ []) ≤ length ks + 1
one_both ks a k = let e = one_more (slice_set ks a None) k in let f = one_gone ks a in omega (arith, e, f)

one_fewer : (ks : List (Option Continuation)) (a : ℕ) → length (slice_set ks a None) ≤ length ks + 1
one_fewer ks a = let f = one_gone ks a in omega (arith, f)

-- ## Each instruction

pub makes_one : (o : SwitchingOp) (p : Program) (s : Store) (e : Context) (vs : Row Val) (c : Code) → MakesOne (length s.conts) (switching_op p s e vs o c)
makes_one (switching.ContNew x) p s e vs c =
    let n = one_closed (length s.conts) in
    allows_take_value n vs _ (λ q. allows_as_function n _ q.1 _ (λ f. allows_or_stuck n (cont_of (context_of p.source) x) _ (λ t. one_goes (one_more s.conts _))))
makes_one (switching.ContBind x y) p s e vs c =
    let n = one_closed (length s.conts) in
    allows_take_value n vs _ (λ q. allows_as_continuation n s q.1 _ (λ k. allows_or_stuck n (cont_of (context_of p.source) y) _ (λ t.
    allows_take_values n (k.1.takes - length t.params) q.0 _ (λ b. one_goes (one_both s.conts k.0 _)))))
makes_one (switching.Suspend x) p s e vs c =
    let n = one_closed (length s.conts) in
    allows_or_stuck n (type_of_tag (context_of p.source) x) _ (λ t. allows_take_values n (length t.params) vs _ (λ b.
    allows_or_unhandled n x (find (label_clause x) e) _ (λ h. one_goes (one_more s.conts _))))
makes_one (switching.Resume x hs) p s e vs c =
    let n = one_closed (length s.conts) in
    allows_take_value n vs _ (λ q. allows_as_continuation n s q.1 _ (λ k. allows_take_values n k.1.takes q.0 _ (λ b. one_goes (one_fewer s.conts k.0))))
makes_one (switching.Switch x y) p s e vs c =
    let n = one_closed (length s.conts) in
    allows_take_value n vs _ (λ q. allows_as_continuation n s q.1 _ (λ k. allows_or_unhandled n y (find (switch_clause y) e) _ (λ h.
    allows_or_stuck n (cont_of (context_of p.source) x) _ (λ t. allows_or_stuck n (back_type (row_of t.params)) _ (λ b. allows_or_stuck n (cont_of (context_of p.source) b) _ (λ u.
    allows_take_values n (k.1.takes - 1) q.0 _ (λ d. one_goes (one_both s.conts k.0 _))))))))
