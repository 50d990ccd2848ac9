-- What locals begin with is no reference to a continuation.
use Rattle.std.proofs.Common.{◌≡◌, ℕ, zero, suc, List, [], ◌∷◌, Option, Some, None, Bool, true, false}
use Rattle.std.specs.Prelude.{replicate, if◌then◌else◌}
use Rattle.w_types.specs.Values.{default_of}
use Rattle.w_types.specs.declared.types.ValType.{ValType}
use Rattle.w_types.specs.declared.types.ValType.TheVariants as type
use Rattle.w_types.specs.declared.value.Value.{Value}
use Rattle.w_types.specs.declared.value.Value.TheVariants as value
use Rattle.w_syntax.specs.declared.locals.LocalRun.{LocalRun}
use Rattle.w_segment.specs.Holds.{AllSet}
use Rattle.w_segment.proofs.MoreLocals.{set_append}
use Rattle.w_stands.specs.Keeps.{OnPlain}
use Rattle.w_call_ops.specs.Entering.{first_values}

module _ (test : Value → Bool) (on : OnPlain test) where
  copies_set : (n : ℕ) (o : Option Value) → AllSet (λ v. test v ≡ true) (o ∷ []) → AllSet (λ v. test v ≡ true) (replicate n o)
  copies_set zero o h = tt
  copies_set (suc n) None h = copies_set n None h
  copies_set (suc n) (Some v) h = (h.0, copies_set n (Some v) h)

  null_set : (b : Bool) → AllSet (λ v. test v ≡ true) ((if b then Some value.Null else None) ∷ [])
  null_set true = (on.null, tt)
  null_set false = tt

  default_set : (t : ValType) → AllSet (λ v. test v ≡ true) (default_of t ∷ [])
  default_set type.I32 = (on.i32 0, tt)
  default_set type.I64 = (on.i64 0, tt)
  default_set (type.Ref r) = null_set r.nullable

  pub first_set : (rs : List LocalRun) → AllSet (λ v. test v ≡ true) (first_values rs)
  first_set [] = tt
  first_set (r ∷ rs) = set_append (λ v. test v ≡ true) (replicate r.count (default_of r.kind)) (first_values rs) (copies_set r.count (default_of r.kind) (default_set r.kind)) (first_set rs)
