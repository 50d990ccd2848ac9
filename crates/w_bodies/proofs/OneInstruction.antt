-- A constant expression of one instruction, by the type of the instruction.
use Rattle.std.proofs.Common.{◌≡◌, ◌↔◌, ℕ, Bool, true, false, ◌&&◌, cond, List, Option, Some, None, IsTrue, refl, sym, subst, arith}
use Rattle.std.specs.Prelude.{option_map, slice_get}
use Rattle.lists.specs.Rows.{Row, ε, ◌▹◌}
use Rattle.w_types.specs.declared.types.RecGroup.{RecGroup}
use Rattle.w_types.specs.declared.types.ValType.{ValType}
use Rattle.w_types.specs.declared.types.ValType.TheVariants.{I32, I64}
use Rattle.w_syntax.specs.Code.{Code, Done, Plain, Block, If, IfElse}
use Rattle.w_syntax.specs.Flat.{only}
use Rattle.w_syntax.specs.declared.instructions.Instr.{Instr}
use Rattle.w_syntax.specs.declared.instructions.Instr.TheVariants as flat
use Rattle.w_syntax.specs.declared.instructions.Op.{Op}
use Rattle.w_syntax.specs.declared.instructions.Op.TheVariants as op
use Rattle.w_syntax.specs.declared.instructions.ReferenceOp.TheVariants as reference
use Rattle.w_syntax.specs.declared.instructions.VariableOp.TheVariants as variable
use Rattle.w_syntax.specs.declared.module.GlobalType.{GlobalType}
use Rattle.w_syntax.specs.declared.numeric.NumericOp.TheVariants as numeric
use Rattle.w_canon.specs.Matching.{ValMatches}
use Rattle.w_canon.specs.Supertypes.{KeepsKinds}
use Rattle.w_rules.specs.Operands.{Operand}
use Rattle.w_rules.specs.Operands.{Known}
use Rattle.w_rules.specs.Bodies.{is_const, is_fixed, is_const_global, ConstTyped}
use Rattle.w_rules.specs.Conditions.{Holds}
use Rattle.w_rules.specs.Context.{Context, type_count}
use Rattle.w_rules.specs.InstructionTypes.{InstrType, fixed, if_valid, global_get_type, ref_func_type}
use Rattle.w_rules.specs.Matching.{RowMatches, none, more, value}
use Rattle.w_rules.specs.Types.{has_heap}
use Rattle.w_rules.specs.Typing.{HasInstrType}
use Rattle.w_rules.proofs.Preorder.{row_refl, row_trans, row_size}
use Rattle.w_bodies.specs.Constants.{given, fixed_type, type_of_one}

-- ## What an instruction gives that stands alone

-- an instruction of this type takes nothing to a value of type t
abbrev Gives : List RecGroup → InstrType → ValType → Type 0
Gives gs l t = (vs : Row Operand) × HasInstrType gs l ε vs × RowMatches gs vs (ε ▹ Known t)

abbrev Fits : List RecGroup → Option ValType → ValType → Type 0
Fits gs o t = Holds o (λ u. ValMatches gs u t)

last_matches : (gs : List RecGroup) {ts us : Row Operand} {u t : ValType} → RowMatches gs (ts ▹ Known u) (us ▹ Known t) → ValMatches gs u t
last_matches gs (more r (value v)) = v

-- nothing matches a row with an operand
none_taken : (gs : List RecGroup) {ts : Row Operand} {t : Operand} → RowMatches gs ε (ts ▹ t) → ⊥
none_taken gs {ts} {t} h = absurd (omega (arith, row_size gs ε (ts ▹ t) h))

gives_one : (gs : List RecGroup) → KeepsKinds gs → (u t : ValType) → Gives gs (fixed ε (ε ▹ u)) t ↔ ValMatches gs u t
gives_one gs keeps u t = (
  λ (vs, h, m). last_matches gs (row_trans gs keeps (h.beneath ▹ Known u) vs (ε ▹ Known t) h.gives m),
  λ v. (ε ▹ Known u, record { beneath = ε; takes = none; gives = row_refl gs (ε ▹ Known u) }, more none (value v)),
)

null_given : (gs : List RecGroup) → KeepsKinds gs → (b : Bool) (u t : ValType) → Gives gs (if_valid b (fixed ε (ε ▹ u))) t ↔ Fits gs (given (if_valid b (fixed ε (ε ▹ u)))) t
null_given gs keeps true u t = gives_one gs keeps u t
null_given gs keeps false u t = (λ (vs, h, m). h, λ h. absurd h)

function_given : (gs : List RecGroup) → KeepsKinds gs → (o : Option ℕ) (p : Option Bool) (t : ValType) → Gives gs (ref_func_type o p) t ↔ Fits gs (given (ref_func_type o p)) t
function_given gs keeps (Some y) (Some true) t = gives_one gs keeps _ t
function_given gs keeps (Some y) (Some false) t = (λ (vs, h, m). h, λ h. absurd h)
function_given gs keeps (Some y) None t = (λ (vs, h, m). h, λ h. absurd h)
function_given gs keeps None p t = (λ (vs, h, m). h, λ h. absurd h)

fixed_given : (gs : List RecGroup) → KeepsKinds gs → (b : Bool) (u t : ValType) → (IsTrue (b && true) × Gives gs (fixed ε (ε ▹ u)) t) ↔ Fits gs (cond b (Some u) None) t
fixed_given gs keeps true u t = (λ p. (gives_one gs keeps u t).0 p.1, λ v. (refl, (gives_one gs keeps u t).1 v))
fixed_given gs keeps false u t = (λ p. let e = p.0 in absurd (cc), λ h. absurd h)

global_given : (gs : List RecGroup) → KeepsKinds gs → (o : Option GlobalType) (t : ValType) → (IsTrue (is_const_global o && true) × Gives gs (global_get_type o) t) ↔ Fits gs (fixed_type o) t
global_given gs keeps (Some g) t = fixed_given gs keeps (is_fixed g.mutability) g.kind t
global_given gs keeps None t = (λ p. p.1.1, λ h. absurd h)

-- ## One instruction is a constant expression exactly where it has a type that matches

not_const : (c : Context) (o : Op) (t : ValType) → is_const c o ≡ false → type_of_one c o ≡ None → ConstTyped c (Plain o Done) t ↔ Fits c.types (type_of_one c o) t
not_const c o t e f = (
  λ k. let h = k.constant in let n : (false && true) ≡ true = subst (λ (b : Bool). (b && true) ≡ true) e h in absurd (cc),
  λ h. absurd (subst (λ (p : Option ValType). Fits c.types p t) f h),
)

pub one_typed : (c : Context) → KeepsKinds c.types → (o : Op) (t : ValType) → ConstTyped c (Plain o Done) t ↔ Fits c.types (type_of_one c o) t
one_typed c keeps (op.Numeric (numeric.I32Const z)) t = let g = gives_one c.types keeps I32 t in (λ k. g.0 k.typed.1, λ v. record { constant = refl; typed = (tt, g.1 v) })
one_typed c keeps (op.Numeric (numeric.I64Const z)) t = let g = gives_one c.types keeps I64 t in (λ k. g.0 k.typed.1, λ v. record { constant = refl; typed = (tt, g.1 v) })
one_typed c keeps (op.Numeric (numeric.Binary i o)) t = (λ k. let h = k.typed.1.1 in none_taken c.types h.takes, λ h. absurd h)
one_typed c keeps (op.Numeric (numeric.Eqz i)) t = not_const c _ t refl refl
one_typed c keeps (op.Numeric (numeric.Compare i o)) t = not_const c _ t refl refl
one_typed c keeps (op.Numeric (numeric.Unary i o)) t = not_const c _ t refl refl
one_typed c keeps (op.Numeric (numeric.Convert o)) t = not_const c _ t refl refl
one_typed c keeps (op.Reference (reference.Null h)) t = let g = null_given c.types keeps (has_heap (type_count c) h) _ t in (λ k. g.0 k.typed.1, λ v. record { constant = refl; typed = (tt, g.1 v) })
one_typed c keeps (op.Reference (reference.Func x)) t =
    let g = function_given c.types keeps (slice_get c.functions x) (slice_get c.declared x) t in (λ k. g.0 k.typed.1, λ v. record { constant = refl; typed = (tt, g.1 v) })
one_typed c keeps (op.Reference reference.IsNull) t = not_const c _ t refl refl
one_typed c keeps (op.Reference reference.AsNonNull) t = not_const c _ t refl refl
one_typed c keeps (op.Variable (variable.GlobalGet x)) t =
    let g = global_given c.types keeps (slice_get c.globals x) t in
    (λ k. g.0 (k.constant, k.typed.1), λ v. let p = g.1 v in record { constant = p.0; typed = (tt, p.1) })
one_typed c keeps (op.Variable (variable.GlobalSet x)) t = not_const c _ t refl refl
one_typed c keeps (op.Variable (variable.LocalGet x)) t = not_const c _ t refl refl
one_typed c keeps (op.Variable (variable.LocalSet x)) t = not_const c _ t refl refl
one_typed c keeps (op.Variable (variable.LocalTee x)) t = not_const c _ t refl refl
one_typed c keeps (op.Control o) t = not_const c _ t refl refl
one_typed c keeps (op.Parametric o) t = not_const c _ t refl refl
one_typed c keeps (op.Table o) t = not_const c _ t refl refl
one_typed c keeps (op.Memory o) t = not_const c _ t refl refl
one_typed c keeps (op.Switching o) t = not_const c _ t refl refl

-- so it is one where the type that was found fits
pub one_judged : (c : Context) → KeepsKinds c.types → (o : Op) (k : Code) (t : ValType) (found : Option ValType) (fits : Bool) → k ≡ Plain o Done → found ≡ type_of_one c o
    → (IsTrue fits ↔ Holds found (λ u. ValMatches c.types u t)) → IsTrue fits ↔ ConstTyped c k t
one_judged c keeps o k t found fits is e h =
    let one = one_typed c keeps o t in (
      λ f. subst (λ (l : Code). ConstTyped c l t) (sym is) (one.1 (subst (λ (p : Option ValType). Fits c.types p t) e (h.0 f))),
      λ typed. h.1 (subst (λ (p : Option ValType). Fits c.types p t) (sym e) (one.0 (subst (λ (l : Code). ConstTyped c l t) is typed))),
    )

-- ## A body of one instruction

-- the one that is found is plain, and all of the body
pub only_is : (k : Code) (i : Instr) → Some i ≡ option_map (λ o. flat.Plain o) (only k) → (o : Op) × (i ≡ flat.Plain o) × (k ≡ Plain o Done)
only_is (Plain o Done) i e = (o, cc, refl)
only_is (Plain o (Plain p r)) i e = absurd cc
only_is (Plain o (Block kind x b r)) i e = absurd cc
only_is (Plain o (If x b r)) i e = absurd cc
only_is (Plain o (IfElse x b d r)) i e = absurd cc
only_is Done i e = absurd cc
only_is (Block kind x b r) i e = absurd cc
only_is (If x b r) i e = absurd cc
only_is (IfElse x b d r) i e = absurd cc
