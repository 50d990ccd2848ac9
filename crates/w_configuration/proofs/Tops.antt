-- The innermost segment of a chain, with what stands outside it.
use Rattle.std.proofs.Common.{◌≡◌, ◌∷◌, List, refl}
use Rattle.lists.specs.Rows.{Row}
use Rattle.w_syntax.specs.Code.{Done}
use Rattle.w_syntax.specs.declared.module.Module.{Module}
use Rattle.w_segment.specs.Shape.{Shape}
use Rattle.w_segment.specs.Link.{Link, top, with_top}
use Rattle.w_reduce.specs.Values.{Val}
use Rattle.w_reduce.specs.Terms.{Rest, rest_of, Handle, Context}
use Rattle.w_stands.specs.Stands.{StackIs}
use Rattle.w_stands.specs.Steps.{Outside}
use Rattle.w_stands.specs.Values.{stack}
use Rattle.w_switching.specs.Standing.{Chained, only, around}

-- It stands inside this, its operands are those at the hole, and the chain stands wherever another shape of it stands inside the same.
pub record Top (m : Module) (outer : Context) (behind : Rest) (chain : List Link) (e : Context) (vs : Row Val) (r : Rest) : Type 0 where
  pub o : Outside
  pub stands : StackIs m o.outer o.behind (top chain).shape e r
  pub operands : vs ≡ stack (top chain).shape.operands
  pub back : (s : Shape) (e' : Context) (r' : Rest) → StackIs m o.outer o.behind s e' r' → Chained m outer behind (with_top s chain) e' (stack s.operands) r'

-- of each chain
pub top_of : {m : Module} {outer : Context} {behind : Rest} {chain : List Link} {e : Context} {vs : Row Val} {r : Rest} → Chained m outer behind chain e vs r → Top m outer behind chain e vs r
top_of {outer = outer} {behind = behind} (only h q) = record {
  o = record { outer = outer; behind = behind };
  stands = h;
  operands = q;
  back = λ s e' r' j. only j refl;
}
top_of (around {e' = e'} {below = below} {hs = hs} {c = c} h q clauses b k) = record {
  o = record { outer = Handle below hs c ∷ e'; behind = rest_of Done };
  stands = h;
  operands = q;
  back = λ s f r' j. around j refl clauses b k;
}
