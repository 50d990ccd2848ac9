-- Constant expressions of a file are constant in the linked module.
use Rattle.std.proofs.Common.{◌≡◌, ℕ, Bool, true, ◌&&◌, [], ◌∷◌, Option, Some, None, slice_get, refl, ap, ◌∙◌}
use Rattle.lists.proofs.Tests.{each_of}
use Rattle.w_types.specs.declared.types.ValType.{ValType}
use Rattle.w_syntax.specs.Code.{Code, Done, Plain, Block, If, IfElse}
use Rattle.w_syntax.specs.declared.instructions.Op.{Op}
use Rattle.w_syntax.specs.declared.instructions.Op.TheVariants as op
use Rattle.w_syntax.specs.declared.instructions.ReferenceOp.TheVariants as reference
use Rattle.w_syntax.specs.declared.instructions.VariableOp.TheVariants as variable
use Rattle.w_syntax.specs.declared.module.GlobalType.{GlobalType}
use Rattle.w_syntax.specs.declared.numeric.NumericOp.TheVariants as numeric
use Rattle.w_canon.specs.Supertypes.{KeepsKinds}
use Rattle.w_rules.specs.Bodies.{is_const, is_fixed, is_const_global, all_const, ConstTyped}
use Rattle.w_rules.specs.Context.{Context}
use Rattle.w_link.specs.Shifted.{type_shifted}
use Rattle.w_link.specs.Resolved.{Instance, at, op_resolved, code_resolved}
use Rattle.w_link.specs.Fits.{Fits}
use Rattle.w_link.proofs.Carried.{body_carried}

both_true : (a b : Bool) → a ≡ true → b ≡ true → (a && b) ≡ true
both_true a b e h = rw (e, h) refl

module _ (i : Instance) (c d : Context) (keeps : KeepsKinds d.types) (fits : Fits i c d) where
  const_global : (x : ℕ) (o : Option GlobalType) → slice_get c.globals x ≡ o → is_const_global o ≡ true → is_const_global (slice_get d.globals (at i.globals x)) ≡ true
  const_global x None is e = absurd (cc)
  const_global x (Some g) is e = let h = fits.globals x g is in ap is_const_global h.is ∙ ap is_fixed h.holds.mutability ∙ e

  const_op : (o : Op) → is_const c o ≡ true → is_const d (op_resolved i o) ≡ true
  const_op (op.Numeric (numeric.I32Const z)) e = refl
  const_op (op.Numeric (numeric.I64Const z)) e = refl
  const_op (op.Numeric (numeric.Binary t o)) e = e
  const_op (op.Reference (reference.Null h)) e = refl
  const_op (op.Reference (reference.Func x)) e = refl
  const_op (op.Variable (variable.GlobalGet x)) e = const_global x (slice_get c.globals x) refl e
  const_op _ e = absurd (cc)

  const_code : (k : Code) → all_const c k ≡ true → all_const d (code_resolved i k) ≡ true
  const_code Done e = refl
  const_code (Plain o k) e = let b = each_of (is_const c o) (all_const c k) e in both_true _ _ (const_op o b.0) (const_code k b.1)
  const_code (Block kind x b k) e = absurd (cc)
  const_code (If x b k) e = absurd (cc)
  const_code (IfElse x b y k) e = absurd (cc)

  -- a constant expression has its type
  pub const_carried : (k : Code) (t : ValType) → ConstTyped c k t → ConstTyped d (code_resolved i k) (type_shifted i.types t)
  const_carried k t h = record { constant = const_code k h.constant; typed = body_carried i c d keeps fits [] [] (t ∷ []) k h.typed }
