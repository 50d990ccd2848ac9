-- The expressions of an element segment.
use Rattle.std.proofs.Common.{◌≡◌, ℕ, zero, suc, ◌-◌, ◌<◌, List, ◌++◌, refl, ap, arith}
use Rattle.w_types.specs.declared.types.RefType.{RefType}
use Rattle.w_syntax.specs.declared.module.ElemMode.{ElemMode}
use Rattle.w_syntax.specs.declared.module.ElemMode.TheVariants as elem_mode
use Rattle.w_syntax.specs.Code.{Code, Done}
use Rattle.w_syntax.specs.Expr.{Top}
use Rattle.w_text.specs.declared.item.Item.TheVariants.{Elements}
use Rattle.w_text.specs.Items.{ElemHead, Head}
use Rattle.w_text.specs.Machine.{Opens, Gives, InExprs, exprs_on}
use Rattle.w_text.specs.Standing.{mode_of, place_of}

pub given : (m : ElemMode) (r : RefType) (k : ℕ) (cs : List Code) → exprs_on (ElemHead (mode_of m) r k) 0 (place_of m ++ cs) ≡ Gives (Elements (record { kind = r; items = cs; mode = m }))
given (elem_mode.Active x c) r k cs = refl
given elem_mode.Passive r k cs = refl
given elem_mode.Declarative r k cs = refl

pub more : (h : Head) (n : ℕ) (cs : List Code) → 0 < n → exprs_on h n cs ≡ Opens (InExprs h (n - 1) cs Top Done)
more h zero cs lt = absurd (omega (arith, lt))
more h (suc n) cs lt = let e : n ≡ suc n - 1 = omega arith in ap (λ (k : ℕ). Opens (InExprs h k cs Top Done)) e
