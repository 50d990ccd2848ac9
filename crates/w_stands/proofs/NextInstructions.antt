-- What an instruction needs that takes operands, gives others and goes on to the next, and where it goes.
use Rattle.std.proofs.Common.{◌≡◌, ℕ, suc, ◌+◌, ◌<◌, ◌≤◌, List, [], ◌∷◌, ◌++◌, Some, length, drop, refl, sym, ap, ◌∙◌, subst, arith, length-append}
use Rattle.std.proofs.Math.Seq.{drop-append_seam}
use Rattle.std.specs.Prelude.{◌≢◌, ◌^◌}
use Rattle.w_types.specs.declared.value.Value.{Value}
use Rattle.w_syntax.specs.Code.{Code}
use Rattle.w_syntax.specs.declared.instructions.Instr.TheVariants as flat
use Rattle.w_syntax.specs.declared.instructions.Op.{Op}
use Rattle.w_syntax.specs.declared.module.Module.{Module}
use Rattle.w_segment.specs.declared.entry.Stage.TheVariants.{Body}
use Rattle.w_segment.specs.Shape.{Shape}
use Rattle.w_segment.specs.Changes.{moved}
use Rattle.w_segment.specs.Holds.{AllOf, LevelsHold, Holds}
use Rattle.w_segment.proofs.FactsOfValues.{all_append, all_drop}
use Rattle.w_tables.specs.Store as instances
use Rattle.w_reduce.specs.Terms.{rest_of, Context}
use Rattle.w_reduce.specs.Program.{Program, IsProgram}
use Rattle.w_reduce.specs.Reduced.{Went, Trapped, Stuck}
use Rattle.w_reduce.specs.declared.trap.Trap.{Trap}
use Rattle.w_stands.specs.Values.{stack, store_of}
use Rattle.w_stands.specs.Code.{instr_of}
use Rattle.w_stands.specs.declared.did.Did.TheVariants as did
use Rattle.w_stands.specs.Steps.{MovesAt, Follows}
use Rattle.w_stands.specs.Taking.{Kind, Number, Any, taking, Going, IsTaking, AreOf, taken_of}
use Rattle.w_stands.specs.GoingOn.{replaced, dropped, IsPushedNext, IsBehind}
use Rattle.w_stands.proofs.PlainSteps.{following, next_is, applies, went, place_fits}
use Rattle.w_stands.proofs.TakenOperands.{all_there, all_taken, all_of}

-- ## Behind an instruction

pub replaced_behind : (n : ℕ) (v : Value) (s s' : Shape) → s' ≡ replaced n v s → IsBehind n (v ∷ []) s s'
replaced_behind n v s s' after = subst (IsBehind n (v ∷ []) s) (sym after) (record { levels = refl; operands = refl; func = refl; place = refl; stage = refl; capacity = refl })

pub dropped_behind : (n : ℕ) (s s' : Shape) → s' ≡ dropped n s → IsBehind n [] s s'
dropped_behind n s s' after = subst (IsBehind n [] s) (sym after) (record { levels = refl; operands = refl; func = refl; place = refl; stage = refl; capacity = refl })

pub pushed_behind : (v : Value) (s s' : Shape) → IsPushedNext v s s' → IsBehind 0 (v ∷ []) s s'
pushed_behind v s s' n = record { levels = n.levels; operands = n.operands; func = n.func; place = n.place; stage = n.stage; capacity = n.capacity }

-- one that takes no operand and gives none
pub moved_behind : (s s' : Shape) → s' ≡ moved (s.place + 1) s → IsBehind 0 [] s s'
moved_behind s s' after = subst (IsBehind 0 [] s) (sym after) (record { levels = refl; operands = refl; func = refl; place = refl; stage = refl; capacity = refl })

-- what holds of all values holds of all behind it
pub behind_holds : (P : Value → Type 0) (n : ℕ) (given : List Value) (s s' : Shape) → IsBehind n given s s' → AllOf P given → Holds P s → Holds P s'
behind_holds P n given s s' b g h = record {
  operands = subst (AllOf P) (sym b.operands) (all_append P given (drop n s.operands) g (all_drop P n s.operands h.operands));
  levels = subst (LevelsHold P) (sym b.levels) h.levels;
}

-- ## What it needs

-- the operands are there, of these kinds, there is a place behind the instruction, and with them a rule applies
pub record Needs (m : Module) (u : instances.Store) (s : Shape) (ks : List Kind) (go : Going) : Type 0 where
  pub some : length ks ≤ length s.operands
  pub of : (args rest : List Value) → s.operands ≡ args ++ rest → length args ≡ length ks → AreOf ks args
  pub place : s.place + 1 < 2 ^ 32
  pub p : Program
  pub source : p.source ≡ m
  pub e : Context
  pub c : Code
  pub applies : (args rest : List Value) → s.operands ≡ args ++ rest → AreOf ks args → go p (store_of u) e c (taken_of ks args) (stack rest) ≢ Stuck

-- so many arguments as kinds
of_length : (ks : List Kind) (args : List Value) → AreOf ks args → length args ≡ length ks
of_length [] [] h = refl
of_length [] (v ∷ vs) h = absurd h
of_length (Number t ∷ ks) [] h = absurd h
of_length (Any ∷ ks) [] h = absurd h
of_length (Number t ∷ ks) (v ∷ vs) h = ap (λ (n : ℕ). suc n) (of_length ks vs h.1)
of_length (Any ∷ ks) (v ∷ vs) h = ap (λ (n : ℕ). suc n) (of_length ks vs h)

pub take_needs : (m : Module) (u : instances.Store) (s : Shape) (i : Op) (ks : List Kind) (go : Going) → IsTaking i ks go → MovesAt (flat.Plain i) m u s → Needs m u s ks go
take_needs m u s i ks go rule k =
    let c = following m u s k.p k.o k.e k.r i k.at k.stage k.here in
    let a : taking ks (stack s.operands) (go k.p (store_of u) k.e c) ≢ Stuck =
    λ q. applies m u s k.p k.o k.e k.r i k.at k.stage k.here (rule k.p (store_of u) k.e (stack s.operands) c ∙ q) in
    let t = all_there ks s.operands (go k.p (store_of u) k.e c) a in
    let long = of_length ks t.args t.of in
    let whole = ap (λ (l : List Value). length l) t.is in
    let parts = length-append t.args t.rest in
    record {
      some = omega (arith, long, whole, parts);
      of = λ args rest is l. all_of ks t.args t.rest args rest (sym t.is ∙ is) l t.of;
      place = place_fits m s.func s.place (flat.Plain i) (k.at.short s.func) k.here;
      p = k.p;
      source = k.at.source;
      e = k.e;
      c = c;
      applies = λ args rest is of q. a (ap (λ (l : List Value). taking ks (stack l) (go k.p (store_of u) k.e c)) is ∙ all_taken ks args rest (go k.p (store_of u) k.e c) of ∙ q);
    }

-- ## Where it goes

module _ (m : Module) (u : instances.Store) (s : Shape) (i : Op) (ks : List Kind) (go : Going) (rule : IsTaking i ks go) (stage : s.stage ≡ Body)
    (at : instr_of m s.func s.place ≡ Some (flat.Plain i)) (args rest : List Value) (is : s.operands ≡ args ++ rest) (of : AreOf ks args) where
  -- it gives these in place of what it took, and leaves this store
  pub take_follows : (out : List ℕ) (u' : instances.Store) (s' : Shape) (given : List Value) → IsBehind (length args) given s s' →
      ((p : Program) (e : Context) (c : Code) → p.source ≡ m → IsProgram p →
      go p (store_of u) e c (taken_of ks args) (stack rest) ≡ Went out (store_of u') (record { around = e; operands = stack (given ++ rest); rest = rest_of c })) →
      Follows did.Went m out u s u' s'
  take_follows out u' s' given b does = λ p o e r a.
      let c = following m u s p o e r i a stage at in
      let beneath : drop (length args) s.operands ≡ rest = ap (drop (length args)) is ∙ drop-append_seam args rest in
      let after : s'.operands ≡ given ++ rest = b.operands ∙ ap (λ (l : List Value). given ++ l) beneath in
      went m u s p o e r i a stage at out u' s'
      (record { levels = b.levels; func = b.func; place = b.place; stage = b.stage ∙ stage; capacity = b.capacity })
      (rule p (store_of u) e (stack s.operands) c
      ∙ ap (λ (l : List Value). taking ks (stack l) (go p (store_of u) e c)) is
      ∙ all_taken ks args rest (go p (store_of u) e c) of
      ∙ does p e c a.source a.program
      ∙ ap (λ (l : List Value). Went out (store_of u') (record { around = e; operands = stack l; rest = rest_of c })) (sym after))

  -- it traps
  pub take_traps : (t : Trap) (s' : Shape) → s' ≡ s →
      ((p : Program) (e : Context) (c : Code) → p.source ≡ m → IsProgram p → go p (store_of u) e c (taken_of ks args) (stack rest) ≡ Trapped t) →
      Follows (did.Trapped t) m [] u s u s'
  take_traps t s' same does = (
    λ p o e r a.
        let c = following m u s p o e r i a stage at in
        next_is m u s p o e r i a stage at
        ∙ rule p (store_of u) e (stack s.operands) c
        ∙ ap (λ (l : List Value). taking ks (stack l) (go p (store_of u) e c)) is
        ∙ all_taken ks args rest (go p (store_of u) e c) of
        ∙ does p e c a.source a.program,
    refl,
    refl,
    same,
  )
