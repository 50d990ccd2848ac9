-- Instructions that take the reference of a continuation first.
use Rattle.std.proofs.Common.{◌≡◌, ℕ, List, [], ◌∷◌, Option, Some, None, slice_get, refl, ap, ◌∙◌, subst}
use Rattle.std.specs.Prelude.{option_map}
use Rattle.lists.specs.Rows.{Row, ◌▹◌}
use Rattle.w_types.specs.declared.value.Value.{Value}
use Rattle.w_types.specs.declared.value.Value.TheVariants as value
use Rattle.w_types.specs.declared.value.ContRef.{ContRef}
use Rattle.w_syntax.specs.Code.{Code, Done}
use Rattle.w_syntax.specs.declared.instructions.SwitchingOp.{SwitchingOp}
use Rattle.w_syntax.specs.declared.instructions.Clause.{Clause}
use Rattle.w_syntax.specs.declared.instructions.SwitchingOp.TheVariants as switching
use Rattle.w_syntax.specs.declared.module.Module.{Module}
use Rattle.w_segment.specs.Link.{Link, top}
use Rattle.w_conts.specs.Conts.{Conts, IsOf, kept_at, entry_at}
use Rattle.w_reduce.specs.Values.{Val, Null, Cont}
use Rattle.w_reduce.specs.Terms.{Rest, rest_of, Context, Term, Continuation}
use Rattle.w_reduce.specs.Store.{Store}
use Rattle.w_reduce.specs.Program.{Program}
use Rattle.w_reduce.specs.Reduced.{Trapped}
use Rattle.w_reduce.specs.Switching.{switching_op}
use Rattle.w_reduce.specs.declared.trap.Trap.TheVariants as trap
use Rattle.w_stands.specs.declared.did.Did.TheVariants as did
use Rattle.w_stands.specs.Values.{stack}
use Rattle.w_switching.specs.declared.stored.Stored.{Stored}
use Rattle.w_switching.specs.Standing.{Chained, IsKept, gone, kept, Stand}
use Rattle.w_switching.specs.Reductions.{Switches}
use Rattle.w_switching.proofs.SegmentsInOthers.{entry}
use Rattle.w_switching.proofs.AtSwitchingInstruction.{on_stack}

-- ## Traps

-- an instruction that traps at null, and at a continuation that was consumed
pub record Consumes (o : SwitchingOp) : Type 0 where
  pub null : (p : Program) (s : Store) (e : Context) (vs : Row Val) (c : Code) → switching_op p s e (vs ▹ Null) o c ≡ Trapped trap.NullReference
  pub consumed : (p : Program) (s : Store) (e : Context) (vs : Row Val) (a : ℕ) (c : Code) → slice_get s.conts a ≡ Some None →
      switching_op p s e (vs ▹ Cont a) o c ≡ Trapped trap.ConsumedContinuation

-- resume is one
pub resume_consumes : (x : ℕ) (hs : List Clause) → Consumes (switching.Resume x hs)
resume_consumes x hs = record { null = λ p s e vs c. refl; consumed = λ p s e vs a c q. rw q refl }

-- so is cont.bind
pub bind_consumes : (x y : ℕ) → Consumes (switching.ContBind x y)
bind_consumes x y = record { null = λ p s e vs c. refl; consumed = λ p s e vs a c q. rw q refl }

-- and switch
pub switch_consumes : (x y : ℕ) → Consumes (switching.Switch x y)
switch_consumes x y = record { null = λ p s e vs c. refl; consumed = λ p s e vs a c q. rw q refl }

-- ## The entry of a reference

-- where nothing is stored nothing is kept
none_kept : (m : Module) (o : Option (ℕ × Stored)) (k : Option Continuation) → IsKept m o k → option_map (λ (q : ℕ × Stored). q.1) o ≡ None → k ≡ None
none_kept m _ _ gone h = refl
none_kept m _ _ (kept c e) h = absurd cc

-- what is stored there, and the continuation that it is
pub record KeptThere (m : Module) (s : Store) (a : ℕ) (b : Stored) : Type 0 where
  pub k : Continuation
  pub is : slice_get s.conts a ≡ Some (Some k)
  pub stands : Chained m [] (rest_of Done) b.segment.value k.term.around k.term.operands k.term.rest
  pub takes : k.takes ≡ b.takes

-- where something is stored the continuation that it is is kept
some_kept : (m : Module) (s : Store) (a : ℕ) (o : Option (ℕ × Stored)) (k : Option Continuation) (b : Stored) → slice_get s.conts a ≡ Some k → IsKept m o k →
    option_map (λ (q : ℕ × Stored). q.1) o ≡ Some b → KeptThere m s a b
some_kept m s a _ _ b q gone h = absurd cc
some_kept m s a _ _ b q (kept {b = b'} {k = k} c t) h =
    let e : b' ≡ b = cc in
    record {
      k = k;
      is = q;
      stands = subst (λ (x : Stored). Chained m [] (rest_of Done) x.segment.value k.term.around k.term.operands k.term.rest) e c;
      takes = t ∙ ap (λ (x : Stored). x.takes) e;
    }

module _ {m : Module} {behind : Rest} {chain : List Link} {conts : Conts Stored} {p : Program} {s : Store} {t : Term} (st : Stand m behind chain conts p s t) (r : ContRef) (of : IsOf r conts) where
  -- what a reference of the store leads to
  pub kept_there : (b : Stored) → kept_at conts r.serial ≡ Some b → KeptThere m s r.serial b
  kept_there b h = let e = entry r.serial st.store of.made in some_kept m s r.serial (entry_at conts.entries r.serial) e.there b e.is e.so h

  -- where it was consumed nothing is kept
  pub gone_there : kept_at conts r.serial ≡ None → slice_get s.conts r.serial ≡ Some None
  gone_there h = let e = entry r.serial st.store of.made in e.is ∙ ap (λ (k : Option Continuation). Some k) (none_kept m (entry_at conts.entries r.serial) e.there e.so h)

-- ## The traps of a call

module _ (o : SwitchingOp) (rule : Consumes o) (m : Module) (chain : List Link) (conts : Conts Stored) where
  -- at null
  pub null_traps : (vs : List Value) → (top chain).shape.operands ≡ value.Null ∷ vs → Switches (did.Trapped trap.NullReference) o m chain conts chain conts
  null_traps vs on = (refl, refl, λ behind p s t c a. on_stack a (value.Null ∷ vs) on ∙ rule.null p s t.around (stack vs) c)

  -- at a continuation that was consumed
  pub consumed_traps : (conts' : Conts Stored) (r : ContRef) (vs : List Value) → (top chain).shape.operands ≡ value.Cont r ∷ vs → IsOf r conts → kept_at conts r.serial ≡ None → conts' ≡ conts →
      Switches (did.Trapped trap.ConsumedContinuation) o m chain conts chain conts'
  consumed_traps conts' r vs on of none same = (
    refl,
    same,
    λ behind p s t c a. on_stack a (value.Cont r ∷ vs) on ∙ rule.consumed p s t.around (stack vs) r.serial c (gone_there a.stand r of none),
  )
