-- Entering a label: the rule of all blocks, loops and ifs.
use Rattle.std.proofs.Common.{◌≡◌, ℕ, ◌≤◌, List, Option, Some, None, length, refl, sym, ap, ◌∙◌, subst, drop, take}
use Rattle.std.specs.Prelude.{◌≢◌}
use Rattle.lists.specs.Rows.{Row}
use Rattle.w_types.specs.declared.value.Value.{Value}
use Rattle.w_syntax.specs.Code.{Code}
use Rattle.w_syntax.specs.declared.instructions.BlockKind.{BlockKind}
use Rattle.w_syntax.specs.declared.instructions.BlockType.{BlockType}
use Rattle.w_syntax.specs.declared.module.Module.{Module}
use Rattle.w_segment.specs.Shape.{Shape}
use Rattle.w_reduce.specs.Values.{Val}
use Rattle.w_reduce.specs.Store.{Store}
use Rattle.w_reduce.specs.Terms.{rest_of, Context}
use Rattle.w_reduce.specs.Program.{Program, Arity, arity_of}
use Rattle.w_reduce.specs.Reduced.{Reduced, Stuck, steps_to, or_stuck, take_values}
use Rattle.w_reduce.specs.Branches.{label_of, block}
use Rattle.w_stands.specs.Values.{stack}
use Rattle.w_control_ops.specs.Entering.{IsLabelled}
use Rattle.w_stands.proofs.ManyTakenOperands.{stack_take, stack_enough}

-- ## The rule

-- what it comes to with the operands that it took
inside : Store → Context → BlockKind → BlockType → Code → Code → Arity → Row Val × Row Val → Reduced
inside u e k b x c a q = steps_to u (label_of k b a x q.0 c e) q.1 (rest_of x)

-- a block has an arity, and its parameters are there
pub record Enters (m : Module) (b : BlockType) (vs : List Value) : Type 0 where
  pub arity : Arity
  pub is : arity_of m b ≡ Some arity
  pub fits : arity.params ≤ length vs

-- where the rule applies
pub enters : (p : Program) (u : Store) (e : Context) (vs : List Value) (k : BlockKind) (b : BlockType) (x c : Code) → block p u e (stack vs) k b x c ≢ Stuck → Enters p.source b vs
unfolding inside
enters p u e vs k b x c h = cases (arity_of p.source b) refl
  where
    cases : (o : Option Arity) → arity_of p.source b ≡ o → Enters p.source b vs
    cases None q = absurd (h (ap (λ (o : Option Arity). or_stuck o (λ a. take_values a.params (stack vs) (inside u e k b x c a))) q))
    cases (Some a) q = record {
      arity = a;
      is = q;
      fits = stack_enough a.params vs (inside u e k b x c a) (λ z. h (ap (λ (o : Option Arity). or_stuck o (λ a. take_values a.params (stack vs) (inside u e k b x c a))) q ∙ z));
    }

-- and what it comes to
pub entered : (p : Program) (u : Store) (e : Context) (vs : List Value) (k : BlockKind) (b : BlockType) (x c : Code) (a : Arity) → arity_of p.source b ≡ Some a → a.params ≤ length vs →
    block p u e (stack vs) k b x c ≡ steps_to u (label_of k b a x (stack (drop a.params vs)) c e) (stack (take a.params vs)) (rest_of x)
unfolding inside
entered p u e vs k b x c a is fits =
    ap (λ (o : Option Arity). or_stuck o (λ a. take_values a.params (stack vs) (inside u e k b x c a))) is ∙ stack_take a.params vs (inside u e k b x c a) fits

-- there is one arity
some_arity : {a b : Arity} → Some a ≡ Some b → a ≡ b
some_arity e = cc

-- the same with the arity that the code finds
pub enters_with : {m : Module} {b : BlockType} {vs : List Value} (a : Arity) → Enters m b vs → arity_of m b ≡ Some a → a.params ≤ length vs
enters_with {vs = vs} a h is = subst (λ (x : Arity). x.params ≤ length vs) (some_arity (sym h.is ∙ is)) h.fits

-- the same label, told in other numbers
pub same_label : {params params' arity arity' target target' start start' : ℕ} (popped : ℕ) (s s' : Shape) → params ≡ params' → arity ≡ arity' → target ≡ target' → start ≡ start' →
    IsLabelled popped params arity target start s s' → IsLabelled popped params' arity' target' start' s s'
same_label {params} {params'} {arity} {arity'} {target} {target'} {start} {start'} popped s s' p a t b l =
    subst (λ (n : ℕ). IsLabelled popped n arity' target' start' s s') p
    (subst (λ (n : ℕ). IsLabelled popped params n target' start' s s') a
    (subst (λ (n : ℕ). IsLabelled popped params arity n start' s s') t
    (subst (λ (n : ℕ). IsLabelled popped params arity target n s s') b l)))
