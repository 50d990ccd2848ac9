-- Segments that run, and those that are stored, read as a term and as continuations (stack-switching explainer, execution).
use Rattle.std.specs.Prelude.{◌≡◌, ℕ, List, [], ◌∷◌, Option, Some, None}
use Rattle.lists.specs.Rows.{Row}
use Rattle.w_syntax.specs.Code.{Code, Done}
use Rattle.w_syntax.specs.declared.instructions.Clause.{Clause}
use Rattle.w_syntax.specs.declared.module.Module.{Module}
use Rattle.w_segment.specs.declared.entry.Stage.TheVariants.{Body}
use Rattle.w_segment.specs.Link.{Link}
use Rattle.w_chain.specs.ClauseLists.{clauses_of}
use Rattle.w_conts.specs.Conts.{Conts}
use Rattle.w_reduce.specs.Values.{Val}
use Rattle.w_reduce.specs.Terms.{Rest, rest_of, Handle, Context, Term, Continuation}
use Rattle.w_reduce.specs.Store.{Store}
use Rattle.w_reduce.specs.Program.{Program, IsProgram}
use Rattle.w_stands.specs.Values.{stack}
use Rattle.w_stands.specs.Code.{AllShort, AreNarrow}
use Rattle.w_stands.specs.Stands.{StackIs}
use Rattle.w_switching.specs.declared.stored.Stored.{Stored}

-- Segments, the innermost first, are the context e with the operands vs at its hole, and r comes next. `outer` stands around them, and
-- `behind` comes next behind the outermost one. Between two stands a handle, whose clauses are those at which the outer one waits.
pub data Chained (m : Module) (outer : Context) (behind : Rest) : List Link → Context → Row Val → Rest → Type 0 where
  only : {x : Link} {e : Context} {vs : Row Val} {r : Rest} →
      StackIs m outer behind x.shape e r → vs ≡ stack x.shape.operands → Chained m outer behind (x ∷ []) e vs r
  around : {x y : Link} {xs : List Link} {e e' : Context} {vs below : Row Val} {hs : List Clause} {c : Code} {r : Rest} →
      StackIs m (Handle below hs c ∷ e') (rest_of Done) x.shape e r → vs ≡ stack x.shape.operands → clauses_of m y ≡ hs → y.shape.stage ≡ Body →
      Chained m outer behind (y ∷ xs) e' below (rest_of c) → Chained m outer behind (x ∷ y ∷ xs) e vs r

-- what is stored at an address is the continuation that the definitions' store keeps there, or nothing where it was consumed
pub data IsKept (m : Module) : Option (ℕ × Stored) → Option Continuation → Type 0 where
  gone : IsKept m None None
  kept : {place : ℕ} {b : Stored} {k : Continuation} →
      Chained m [] (rest_of Done) b.segment.value k.term.around k.term.operands k.term.rest → k.takes ≡ b.takes → IsKept m (Some (place, b)) (Some k)

-- the same of each address
pub data AllKept (m : Module) : List (Option (ℕ × Stored)) → List (Option Continuation) → Type 0 where
  nil : AllKept m [] []
  cons : {o : Option (ℕ × Stored)} {k : Option Continuation} {os : List (Option (ℕ × Stored))} {ks : List (Option Continuation)} →
      IsKept m o k → AllKept m os ks → AllKept m (o ∷ os) (k ∷ ks)

-- a configuration in which a chain and a store of continuations stand
pub record Stand (m : Module) (behind : Rest) (chain : List Link) (conts : Conts Stored) (p : Program) (s : Store) (t : Term) : Type 0 where
  pub source : p.source ≡ m
  pub program : IsProgram p
  pub short : AllShort m
  pub narrow : AreNarrow m
  pub term : Chained m [] behind chain t.around t.operands t.rest
  pub store : AllKept m conts.entries s.conts
