-- The rules of table instructions and of globals, as ones that take operands.
use Rattle.std.proofs.Common.{◌≡◌, ℕ, List, [], ◌∷◌, length, Option, Some, None, slice_get, refl}
use Rattle.lists.specs.Rows.{Row, ε, ◌▹◌}
use Rattle.w_num.specs.Signed.{inverse}
use Rattle.w_tables.specs.Elements.{get, replaced, filled, copied, grown}
use Rattle.w_tables.specs.Outcomes.{growth}
use Rattle.w_syntax.specs.Code.{Code}
use Rattle.w_syntax.specs.declared.instructions.Op.TheVariants as op
use Rattle.w_syntax.specs.declared.instructions.TableOp.TheVariants as table
use Rattle.w_syntax.specs.declared.instructions.VariableOp.TheVariants as variable
use Rattle.w_syntax.specs.declared.numeric.IntType.TheVariants as int
use Rattle.w_reduce.specs.declared.trap.Trap.TheVariants as trap
use Rattle.w_reduce.specs.Values.{Val, I32}
use Rattle.w_reduce.specs.Store.{Store, Table}
use Rattle.w_reduce.specs.Terms.{rest_of, Context}
use Rattle.w_reduce.specs.Reduced.{Reduced, Stuck, steps_to, or_stuck, or_trap, take_value}
use Rattle.w_reduce.specs.Tables.{with_elements, without_elements}
use Rattle.w_reduce.specs.Variable.{with_global}
use Rattle.w_stands.specs.Taking.{Kind, Number, Any, Bits, Is, Going, IsTaking}

-- ## Writing to a table

-- what it makes of a table, and perhaps of what o finds, are its elements; where it makes nothing it traps
abbrev pub writing : (A : Type 0) → Store → Context → Code → ℕ → Row Val → Option A → (A → Table → Option (List Val)) → Reduced
writing A s e c x vs o make =
    or_stuck (slice_get s.tables x) (λ t. or_stuck o (λ a. or_trap trap.TableOutOfBounds (make a t) (λ new. steps_to (with_elements s x t new) e vs (rest_of c))))

abbrev pub setting : ℕ → Going
setting x p s e c (Is v ∷ Bits i ∷ []) vs = writing (Unit {0}) s e c x vs (Some tt) (λ _ t. replaced t.elements i v)
setting x p s e c _ vs = Stuck

-- it is the rule
pub set_rule : (x : ℕ) → IsTaking (op.Table (table.Set x)) (Any ∷ Number int.I32 ∷ []) (setting x)
set_rule x = λ p s e vs c. refl

abbrev pub filling : ℕ → Going
filling x p s e c (Bits n ∷ Is v ∷ Bits i ∷ []) vs = writing (Unit {0}) s e c x vs (Some tt) (λ _ t. filled t.elements i v n)
filling x p s e c _ vs = Stuck

-- it is the rule
pub fill_rule : (x : ℕ) → IsTaking (op.Table (table.Fill x)) (Number int.I32 ∷ Any ∷ Number int.I32 ∷ []) (filling x)
fill_rule x = λ p s e vs c. refl

-- three numbers
abbrev pub three : List Kind
three = Number int.I32 ∷ Number int.I32 ∷ Number int.I32 ∷ []

abbrev pub copying : ℕ → ℕ → Going
copying x y p s e c (Bits n ∷ Bits j ∷ Bits d ∷ []) vs = writing Table s e c x vs (slice_get s.tables y) (λ a t. copied t.elements a.elements d j n)
copying x y p s e c _ vs = Stuck

-- it is the rule
pub copy_rule : (x y : ℕ) → IsTaking (op.Table (table.Copy x y)) three (copying x y)
copy_rule x y = λ p s e vs c. refl

abbrev pub initializing : ℕ → ℕ → Going
initializing y x p s e c (Bits n ∷ Bits j ∷ Bits d ∷ []) vs = writing (List Val) s e c x vs (slice_get s.elements y) (λ a t. copied t.elements a d j n)
initializing y x p s e c _ vs = Stuck

-- it is the rule
pub init_rule : (y x : ℕ) → IsTaking (op.Table (table.Init y x)) three (initializing y x)
init_rule y x = λ p s e vs c. refl

-- ## The others

abbrev pub getting : ℕ → Going
getting x p s e c (Bits i ∷ []) vs = or_stuck (slice_get s.tables x) (λ t. or_trap trap.TableOutOfBounds (get t.elements i) (λ v. steps_to s e (vs ▹ v) (rest_of c)))
getting x p s e c _ vs = Stuck

-- it is the rule
pub get_rule : (x : ℕ) → IsTaking (op.Table (table.Get x)) (Number int.I32 ∷ []) (getting x)
get_rule x = λ p s e vs c. refl

abbrev pub sizing : ℕ → Going
sizing x p s e c [] vs = or_stuck (slice_get s.tables x) (λ t. steps_to s e (vs ▹ I32 (length t.elements)) (rest_of c))
sizing x p s e c _ vs = Stuck

-- it is the rule
pub size_rule : (x : ℕ) → IsTaking (op.Table (table.Size x)) [] (sizing x)
size_rule x = λ p s e vs c. refl

abbrev pub growing : ℕ → Going
growing x p s e c (Bits n ∷ Is v ∷ []) vs =
    or_stuck (slice_get s.tables x) (λ t. let g = growth (length t.elements) s (with_elements s x t) (grown t.elements t.max v n) in steps_to g.1 e (vs ▹ I32 (inverse 32 g.0)) (rest_of c))
growing x p s e c _ vs = Stuck

-- it is the rule
pub grow_rule : (x : ℕ) → IsTaking (op.Table (table.Grow x)) (Number int.I32 ∷ Any ∷ []) (growing x)
grow_rule x = λ p s e vs c. refl

abbrev pub dropping : ℕ → Going
dropping y p s e c [] vs = or_stuck (slice_get s.elements y) (λ _. steps_to (without_elements s y) e vs (rest_of c))
dropping y p s e c _ vs = Stuck

-- it is the rule
pub drop_rule : (y : ℕ) → IsTaking (op.Table (table.ElemDrop y)) [] (dropping y)
drop_rule y = λ p s e vs c. refl

-- ## Globals

abbrev pub reading : ℕ → Going
reading x p s e c [] vs = or_stuck (slice_get s.globals x) (λ v. steps_to s e (vs ▹ v) (rest_of c))
reading x p s e c _ vs = Stuck

-- it is the rule
pub global_get_rule : (x : ℕ) → IsTaking (op.Variable (variable.GlobalGet x)) [] (reading x)
global_get_rule x = λ p s e vs c. refl

abbrev pub assigning : ℕ → Going
assigning x p s e c (Is v ∷ []) vs = or_stuck (slice_get s.globals x) (λ old. steps_to (with_global s x v) e vs (rest_of c))
assigning x p s e c _ vs = Stuck

-- a lookup and an operand that is taken come in either order
lookup_later : (o : Option Val) (vs : Row Val) (go : Row Val × Val → Reduced) → or_stuck o (λ old. take_value vs go) ≡ take_value vs (λ q. or_stuck o (λ old. go q))
lookup_later None ε go = refl
lookup_later None (vs ▹ v) go = refl
lookup_later (Some a) ε go = refl
lookup_later (Some a) (vs ▹ v) go = refl

-- it is the rule
pub global_set_rule : (x : ℕ) → IsTaking (op.Variable (variable.GlobalSet x)) (Any ∷ []) (assigning x)
global_set_rule x = λ p s e vs c. lookup_later (slice_get s.globals x) vs (λ q. steps_to (with_global s x q.1) e q.0 (rest_of c))
