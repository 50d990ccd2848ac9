-- Steps that one activation takes in place: constants, variables and operators are matched.
use Rattle.std.proofs.Common.{◌≡◌, ℕ, ◌+◌, ◌-◌, ◌<◌, ◌≤◌, ◌^◌, Bool, true, false, not, ◌&&◌, ◌||◌, nat_eq, ℤ, pos, neg_ℤ, List, [], ◌∷◌, Option, Some, Result, if◌then◌else◌, refl, sym, ap, ◌∙◌, subst, arith}
use Rattle.std.specs.Prelude.{slice_get}
use Rattle.std.proofs.lemmas.Bool.{not-false}
use Rattle.w_num.specs.declared.fault.NumFault.{NumFault}
use Rattle.w_num.specs.Signed.{signed}
use Rattle.w_num.specs.Arithmetic.{imul}
use Rattle.w_num.specs.Comparisons.{ieqz}
use Rattle.w_num.specs.Comparisons as bit
use Rattle.lists.specs.Rows.{Row, ε, ◌▹◌}
use Rattle.w_types.specs.declared.types.ValType.TheVariants.{I64 as ValI64}
use Rattle.w_syntax.specs.Code.{Code, Done, Plain, IfElse}
use Rattle.w_syntax.specs.declared.numeric.Binop.TheVariants as binop_names
use Rattle.w_syntax.specs.declared.instructions.BlockType.TheVariants as block_type
use Rattle.w_reduce.specs.Values.{Val, I32, I64}
use Rattle.w_reduce.specs.Store.{Store}
use Rattle.w_reduce.specs.Terms.{rest_of, Label, Context, Term}
use Rattle.w_reduce.specs.Numeric.{binop, relop}
use Rattle.w_reduce.specs.Program.{Program}
use Rattle.w_reduce.specs.Reduced.{Went, steps_to, unless_fault}
use Rattle.s_syntax.specs.declared.name.Name.{Name}
use Rattle.s_syntax.specs.declared.number.Number.{Number as WrittenNumber}
use Rattle.s_syntax.specs.declared.script.Declaration.{Declaration}
use Rattle.s_syntax.specs.declared.script.Script.{Script}
use Rattle.s_syntax.specs.declared.operators.UnaryOperator.{UnaryOperator}
use Rattle.s_syntax.specs.declared.operators.UnaryOperator.TheVariants.{Minus, Not}
use Rattle.s_syntax.specs.declared.operators.BinaryOperator.TheVariants.{Connects, Compares, Computes}
use Rattle.s_syntax.specs.declared.operators.Connective.{Connective}
use Rattle.s_syntax.specs.declared.operators.Connective.TheVariants.{And, Or}
use Rattle.s_syntax.specs.declared.operators.Comparison.{Comparison}
use Rattle.s_syntax.specs.declared.operators.Arithmetic.{Arithmetic}
use Rattle.s_syntax.specs.ExprTree.{ExprTree, Exprs, Operands}
use Rattle.s_code.specs.Instructions.{constant, local_get, nop, extend, binary, truth, number_if_zero, unary_operator, connective, comparison, arithmetic, binop_of, relop_of}
use Rattle.s_code.specs.Layouts.{Layout, local_number, number_in}
use Rattle.s_code.specs.Expressions.{expr, operands}
use Rattle.s_meaning.specs.Numbers.{wrap, holds, connect, decided, compare, Computed, compute}
use Rattle.s_meaning.specs.Numbers as script_number
use Rattle.s_meaning.specs.Terms as script
use Rattle.s_meaning.specs.Terms.{Value, Number, Variable, Handling, Work, RightOf, Among, Gives, Finds, Configuration}
use Rattle.s_meaning.specs.Focus.{Constant, Lookup, OnUnary, OnBinary, Decides, followed_by, left_of, variable_of}
use Rattle.s_meaning.specs.Steps.{Around, goes_on, whole, rule, or_wrong, unless_faulty}
use Rattle.following.specs.Steps.{Goes}
use Rattle.s_agrees.proofs.ScriptRows.{Values}
use Rattle.s_agrees.proofs.StandsFor.{config, Same, number, Locals, LocalIs, WellExpr, WellOperands, no_operands, operand, Active, Works, left, connected, Asides, asides_code, Base, Waits, activation, gives, lies, finds, Stores, At}
use Rattle.s_agrees.proofs.Contexts.{deep_locals, works_deep, base_locals}
use Rattle.s_agrees.proofs.Paths.{program_of, step, Caps, Under, Path, stay, go, path_on, get_step}
use Rattle.s_agrees.proofs.Matches.{Matches, went, faulted, under_first, under_last}
use Rattle.s_agrees.proofs.Numbers.{constant_bits, constant_signed, multiply_bits, minus_signed, zero_bits, compared_bits, truth_bits, truth_signed, Answers, answers_number, divides_by_zero, overflows, arithmetic_answers}

-- ## Numbers

-- the number of bits that are 1 where a test is true, and else 0
pub same_truth : {ρ : List ℕ} {n : ℕ} (t : Bool) → n ≡ bit.truth t → Same ρ (Number (script_number.truth t)) (I64 n)
same_truth {ρ} t e = subst (λ (k : ℕ). Same ρ (Number (script_number.truth t)) (I64 k)) (sym e) (number (truth_bits t) (truth_signed t))

-- the bits of -z
same_minus : {ρ : List ℕ} {z : ℤ} (n : ℕ) → n < 2 ^ 64 → signed 64 n ≡ z → Same ρ (Number (wrap (neg_ℤ z))) (I64 (imul 64 n (2 ^ 64 - 1)))
same_minus n h e = number (multiply_bits n (2 ^ 64 - 1)) (minus_signed n h ∙ ap (λ (z : ℤ). wrap (neg_ℤ z)) e)

-- the test for 0
pub zero_test : {z : ℤ} (n : ℕ) → n < 2 ^ 64 → signed 64 n ≡ z → nat_eq n 0 ≡ not (holds z)
zero_test n h e = zero_bits n h ∙ ap (λ (z : ℤ). not (holds z)) e

-- the bits of a comparison's value
same_compared : {ρ : List ℕ} {x y : ℤ} (o : Comparison) (a b : ℕ) → a < 2 ^ 64 → signed 64 a ≡ x → b < 2 ^ 64 → signed 64 b ≡ y
    → Same ρ (Number (script_number.truth (compare o x y))) (I64 (relop (relop_of o) 64 a b))
same_compared {x = x} {y = y} o a b h e k f = same_truth (compare o x y) (compared_bits o a b h k ∙ (λ i. bit.truth (compare o (e i) (f i))))

-- 1 where the number isn't 0
twice : (t : Bool) → bit.truth (nat_eq (bit.truth (not t)) 0) ≡ bit.truth t
twice true = refl
twice false = refl

same_holds : {ρ : List ℕ} {z : ℤ} (n : ℕ) → n < 2 ^ 64 → signed 64 n ≡ z → Same ρ (Number (script_number.truth (holds z))) (I64 (ieqz 32 (ieqz 64 n)))
same_holds {z = z} n h e = same_truth (holds z) (ap (λ (t : Bool). bit.truth (nat_eq (bit.truth t) 0)) (zero_test n h e) ∙ twice (holds z))

-- where the left side doesn't decide, the right one does
right_decides : (o : Connective) (x y : ℤ) → decided o x ≡ false → connect o (holds x) (holds y) ≡ holds y
right_decides And x y e = ap (λ (t : Bool). t && holds y) (not-false (holds x) e)
right_decides Or x y e = ap (λ (t : Bool). t || holds y) e

-- ## Reductions

-- a label changes no cap's count
pub under_label : {k : Caps} {s : Store} {e : Context} (below : Row Val) (m : ℕ) (again rest : Code) → Under k s e → Under k s (Label below m again rest ∷ e)
under_label below m again rest u = record { frames = u.frames; handles = u.handles; conts = u.conts }

-- the test for 0, and entering one of two pieces of code
choice_path : {P : Program} {k : Caps} {s : Store} {e : Context} {ops : Row Val} (n : ℕ) (x y c : Code) (t : Bool) → nat_eq n 0 ≡ t → Under k s e
    → Path P k 2 s (config e (ops ▹ I64 n) (number_if_zero x y c)) s (config (Label ops 1 Done c ∷ e) ε (if t then x else y))
choice_path {s = s} {e = e} {ops = ops} n x y c true q u =
    go (ap (λ (t : Bool). steps_to s e (ops ▹ I32 (bit.truth t)) (rest_of (IfElse (block_type.Value ValI64) x y c))) q) u (go refl (under_label ops 1 Done c u) stay)
choice_path {s = s} {e = e} {ops = ops} n x y c false q u =
    go (ap (λ (t : Bool). steps_to s e (ops ▹ I32 (bit.truth t)) (rest_of (IfElse (block_type.Value ValI64) x y c))) q) u (go refl (under_label ops 1 Done c u) stay)

-- a constant, and the exit of the label
constant_path : {P : Program} {k : Caps} {s : Store} {e : Context} {ops : Row Val} (n : ℕ) (c : Code) → Under k s e
    → Path P k 2 s (config (Label ops 1 Done c ∷ e) ε (Plain (constant (pos n)) Done)) s (config e (ops ▹ I64 n) c)
constant_path {ops = ops} n c u = go refl (under_label ops 1 Done c u) (go refl u stay)

-- 1 where the number isn't 0, else 0, and the exit of the label
truth_path : {P : Program} {k : Caps} {s : Store} {e : Context} {ops : Row Val} (n : ℕ) (c : Code) → Under k s e
    → Path P k 4 s (config (Label ops 1 Done c ∷ e) (ε ▹ I64 n) truth) s (config e (ops ▹ I64 (ieqz 32 (ieqz 64 n))) c)
truth_path {ops = ops} n c u = let v = under_label ops 1 Done c u in go refl v (go refl v (go refl v (go refl u stay)))

-- one reduction that leaves all but the operands and the code
pub one_step : {p : Script} {matches : ℕ → ℕ → Bool} {ρ : List ℕ} {k : Configuration} {s : Store} {e : Context} {ops ops' : Row Val} {c c' : Code}
    → step (program_of p matches) s (config e ops c) ≡ Went [] s (config e ops' c') → At p.declarations ρ k s (config e ops' c') → Matches p matches 52 s (config e ops c) (Goes [] k)
one_step {s = s} {e = e} {ops = ops} {ops' = ops'} {c = c} {c' = c'} q a =
    went (go q (under_first s (config e ops c) (config e ops' c')) stay) (omega arith) (omega arith) a

-- two of them
pub two_steps : {p : Script} {matches : ℕ → ℕ → Bool} {ρ : List ℕ} {k : Configuration} {s : Store} {e : Context} {ops ops' : Row Val} {c c' : Code} (ops1 : Row Val) (c1 : Code)
    → step (program_of p matches) s (config e ops c) ≡ Went [] s (config e ops1 c1) → step (program_of p matches) s (config e ops1 c1) ≡ Went [] s (config e ops' c')
    → At p.declarations ρ k s (config e ops' c') → Matches p matches 52 s (config e ops c) (Goes [] k)
two_steps {s = s} {e = e} {ops = ops} {ops' = ops'} {c = c} {c' = c'} ops1 c1 q r a =
    let u = under_first s (config e ops c) (config e ops' c') in
    went (go q u (go r u stay)) (omega arith) (omega arith) a

-- the operators of a run behind the one that is done
pub works_left : {ds : List Declaration} {ρ : List ℕ} {Γ : Layout} {n D0 t : ℕ} {f : Context} {L : Locals} {more : Operands} {k : List Work} {ops : Row Val} {c : Code} {e : Context}
    → WellOperands ds n t more → Works ds ρ Γ n D0 f t L k ops c e → Works ds ρ Γ n D0 f t L (left_of more k) ops (operands ds Γ t more c) e
works_left no_operands w = w
works_left (operand x ps) w = left x ps w

-- ## The steps

module _ {p : Script} (matches : ℕ → ℕ → Bool) {ρ : List ℕ} {σ : script.Store} {s : Store} (stores : Stores p.declarations ρ σ s) {Γ : Layout} {n D0 : ℕ} {L : Locals} {vars : List Variable} {owner : Option Name} {κ : script.Context} {below : Row Val} {c' : Code} {e' f : Context}
    (active : Active ρ Γ n L vars) (base : Base p.declarations Γ L below c' e' owner D0 f) (waits : Waits p.declarations ρ κ below c' e') where
  -- where a redex stands
  abbrev pub around : List Work → Around
  around w = record { store = σ; variables = vars; owner = owner; work = w; outer = κ }

  -- a value, in the pending work
  at_value : {t : ℕ} {w : List Work} {ops : Row Val} {c : Code} {e : Context} {v : Value} {a : Val} → Same ρ v a → Works p.declarations ρ Γ n D0 f t L w ops c e
      → At p.declarations ρ (record { store = σ; term = record { hole = Gives v; around = whole (around w) } }) s (config e (ops ▹ a) c)
  at_value v w = record { stands = gives v (activation active w base waits); stores = stores }

  -- a literal
  pub sim_constant : {t : ℕ} {w : List Work} {ops : Row Val} {c : Code} {e : Context} (k : WrittenNumber) → Works p.declarations ρ Γ n D0 f t L w ops c e
      → Matches p matches 52 s (config e ops (Plain (constant (pos k.value)) c)) (rule p (around w) (Constant k))
  sim_constant k w = one_step refl (at_value (number (constant_bits k) (constant_signed k)) w)

  -- a variable is in its local
  pub sim_lookup : {t : ℕ} {w : List Work} {ops : Row Val} {c : Code} {e : Context} (x : Name) (v : Variable) → variable_of x vars ≡ Some v → Works p.declarations ρ Γ n D0 f t L w ops c e
      → Matches p matches 52 s (config e ops (Plain (local_get (local_number Γ x)) c)) (rule p (around w) (Lookup x))
  sim_lookup {w = w} {ops = ops} {c = c} {e = e} x v q k =
      let i = active.holds.each x v q in let there = ap number_in i.is in let locals = deep_locals (works_deep k).1 ∙ base_locals base in
      subst (λ (o : Option Variable). Matches p matches 52 s (config e ops (Plain (local_get (local_number Γ x)) c)) (or_wrong o (λ (u : Variable). goes_on (around w) (Gives u.value)))) (sym q)
      (one_step (get_step (program_of p matches) s e ops c (local_number Γ x) i.held.value ((λ j. slice_get (locals j) (there j)) ∙ i.held.is)) (at_value i.held.same k))

  -- a first argument of a handle that is read where it lies
  pub sim_aside : {t t0 m u : ℕ} {g : Name} {us : Values} {es bs : Exprs} {w : List Work} {ops : Row Val} {c : Code} {e : Context} (h : Name) (ns : Row ℕ) (x : Name) (v : Variable)
      → variable_of x vars ≡ Some v → t0 ≤ t → Asides p.declarations ρ Γ n L g m t u ns us es bs → Works p.declarations ρ Γ n D0 f t0 L w ops c e
      → Matches p matches 52 s (config e ops (Plain nop (asides_code p.declarations Γ g h t u (ns ▹ local_number Γ x) es bs c)))
      (rule p (around (Among (Handling g m h) us (followed_by es bs) ∷ w)) (Lookup x))
  sim_aside {t} {t0} {m} {u} {g} {us} {es} {bs} {w} {ops} {c} {e} h ns x v q le a k =
      let i = active.holds.each x v q in let there = ap number_in i.is in let below = active.fine.below x i.local i.is in
      let less : local_number Γ x < Γ.temporaries + t = omega (arith, there, below) in
      let held : LocalIs ρ L (local_number Γ x) v.value = record { value = i.held.value; is = ap (λ (j : ℕ). slice_get L j) there ∙ i.held.is; same = i.held.same } in
      subst (λ (o : Option Variable). Matches p matches 52 s (config e ops (Plain nop (asides_code p.declarations Γ g h t u (ns ▹ local_number Γ x) es bs c)))
      (or_wrong o (λ (y : Variable). goes_on (around (Among (Handling g m h) us (followed_by es bs) ∷ w)) (Gives y.value)))) (sym q)
      (one_step refl (record { stands = lies ns active le a less held k base waits; stores = stores }))

  -- an operator with the values of its operands
  pub sim_unary : {t : ℕ} {w : List Work} {ops : Row Val} {c : Code} {e : Context} {z : ℤ} {a : Val} (o : UnaryOperator) → Same ρ (Number z) a → Works p.declarations ρ Γ n D0 f t L w ops c e
      → Matches p matches 52 s (config e (ops ▹ a) (unary_operator o c)) (rule p (around w) (OnUnary o (Number z)))
  sim_unary {ops = ops} {c = c} Minus (number {n = a} h e) k =
      two_steps (ops ▹ I64 a ▹ I64 (2 ^ 64 - 1)) (Plain (binary binop_names.Mul) c) refl refl (at_value (same_minus a h e) k)
  sim_unary {ops = ops} {c = c} {z = z} Not (number {n = a} h e) k =
      two_steps (ops ▹ I32 (ieqz 64 a)) (Plain extend c) refl refl (at_value (same_truth (not (holds z)) (ap bit.truth (zero_test a h e))) k)

  pub sim_comparison : {t : ℕ} {w : List Work} {ops : Row Val} {c : Code} {e : Context} {x y : ℤ} {a b : Val} (o : Comparison) → Same ρ (Number x) a → Same ρ (Number y) b → Works p.declarations ρ Γ n D0 f t L w ops c e
      → Matches p matches 52 s (config e (ops ▹ a ▹ b) (comparison o c)) (rule p (around w) (OnBinary (Compares o) (Number x) (Number y)))
  sim_comparison {ops = ops} {c = c} o (number {n = a} h q) (number {n = b} i r) k =
      two_steps (ops ▹ I32 (relop (relop_of o) 64 a b)) (Plain extend c) refl refl (at_value (same_compared o a b h q i r) k)

  -- a number, or a trap that is the script's fault
  answered : {t : ℕ} {w : List Work} {ops : Row Val} {c : Code} {e : Context} {r : Computed} {q : Result ℕ NumFault} (o : Arithmetic) (a b : ℕ) → Answers r q → binop (binop_of o) 64 a b ≡ q
      → Works p.declarations ρ Γ n D0 f t L w ops c e
      → Matches p matches 52 s (config e (ops ▹ I64 a ▹ I64 b) (arithmetic o c)) (unless_faulty r (λ (z : ℤ). goes_on (around w) (Gives (Number z))))
  answered {ops = ops} {c = c} {e = e} o a b (answers_number h i) q k =
      one_step (ap (λ (z : Result ℕ NumFault). unless_fault z (λ (j : ℕ). steps_to s e (ops ▹ I64 j) (rest_of c))) q) (at_value (number h i) k)
  answered {ops = ops} {c = c} {e = e} o a b divides_by_zero q k =
      faulted stay (ap (λ (z : Result ℕ NumFault). unless_fault z (λ (j : ℕ). steps_to s e (ops ▹ I64 j) (rest_of c))) q) refl (omega arith)
  answered {ops = ops} {c = c} {e = e} o a b overflows q k =
      faulted stay (ap (λ (z : Result ℕ NumFault). unless_fault z (λ (j : ℕ). steps_to s e (ops ▹ I64 j) (rest_of c))) q) refl (omega arith)

  pub sim_arithmetic : {t : ℕ} {w : List Work} {ops : Row Val} {c : Code} {e : Context} {x y : ℤ} {a b : Val} (o : Arithmetic) → Same ρ (Number x) a → Same ρ (Number y) b → Works p.declarations ρ Γ n D0 f t L w ops c e
      → Matches p matches 52 s (config e (ops ▹ a ▹ b) (arithmetic o c)) (rule p (around w) (OnBinary (Computes o) (Number x) (Number y)))
  sim_arithmetic o (number {n = a} h q) (number {n = b} i r) k =
      answered o a b (subst (λ (z : Computed). Answers z (binop (binop_of o) 64 a b)) (λ j. compute o (q j) (r j)) (arithmetic_answers o a b h i)) refl k

  -- the right side of && or ||, behind a left one that didn't decide: 0 or 1, outside the label
  pub sim_truth : {t : ℕ} {w : List Work} {ops : Row Val} {c : Code} {e : Context} {y : ℤ} {b : Val} (o : Connective) (x : ℤ) → decided o x ≡ false → Same ρ (Number y) b → Works p.declarations ρ Γ n D0 f t L w ops c e
      → Matches p matches 52 s (config (Label ops 1 Done c ∷ e) (ε ▹ b) truth) (rule p (around w) (OnBinary (Connects o) (Number x) (Number y)))
  sim_truth {w = w} {ops = ops} {c = c} {e = e} {y = y} o x d (number {n = b} h q) k =
      let t : Term = config (Label ops 1 Done c ∷ e) (ε ▹ I64 b) truth in let t' : Term = config e (ops ▹ I64 (ieqz 32 (ieqz 64 b))) c in
      subst (λ (z : Bool). Matches p matches 52 s t (goes_on (around w) (Gives (Number (script_number.truth z))))) (sym (right_decides o x y d))
      (went (truth_path b c (under_last s s t t' (omega arith))) (omega arith) (omega arith) (at_value (same_holds b h q) k))

  -- a left side that doesn't decide: the right one is evaluated inside a label
  right_side : {t : ℕ} {x : ExprTree} {more : Operands} {w : List Work} {ops : Row Val} {c : Code} {e : Context} (o : Connective) (z : ℤ) → decided o z ≡ false
      → WellExpr p.declarations n t x → WellOperands p.declarations n t more → Works p.declarations ρ Γ n D0 f t L w ops c e
      → At p.declarations ρ (record { store = σ; term = record { hole = Finds x; around = whole (around (RightOf (Number z) (Connects o) more ∷ w)) } }) s
      (config (Label ops 1 Done (operands p.declarations Γ t more c) ∷ e) ε (expr p.declarations Γ t x truth))
  right_side o z d wx wm k = record { stands = finds active wx (connected d wm k) base waits; stores = stores }

  -- a left side that decides: its value, and the operators behind
  decided_value : {t k : ℕ} {more : Operands} {w : List Work} {ops : Row Val} {c : Code} {e : Context} (b : Bool) → k ≡ bit.truth b
      → WellOperands p.declarations n t more → Works p.declarations ρ Γ n D0 f t L w ops c e
      → At p.declarations ρ (record { store = σ; term = record { hole = Gives (Number (script_number.truth b)); around = whole (around (left_of more w)) } }) s
      (config e (ops ▹ I64 k) (operands p.declarations Γ t more c))
  decided_value b q wm k = at_value (same_truth b q) (works_left wm k)

  -- a left side of &&, whose bits are 0 where it doesn't hold
  decides_and : {t : ℕ} {x : ExprTree} {more : Operands} {w : List Work} {ops : Row Val} {c : Code} {e : Context} (z : ℤ) (a : ℕ) (b : Bool) → holds z ≡ b → nat_eq a 0 ≡ not b
      → WellExpr p.declarations n t x → WellOperands p.declarations n t more → Works p.declarations ρ Γ n D0 f t L w ops c e
      → Matches p matches 52 s (config e (ops ▹ I64 a) (connective And (expr p.declarations Γ t x truth) (operands p.declarations Γ t more c)))
      (if not b then goes_on (around (left_of more w)) (Gives (Number (script_number.truth b))) else goes_on (around (RightOf (Number z) (Connects And) more ∷ w)) (Finds x))
  decides_and {t} {x} {more} {w} {ops} {c} {e} z a true h q wx wm k =
      let right : Code = expr p.declarations Γ t x truth in let rest : Code = operands p.declarations Γ t more c in
      let u : Term = config e (ops ▹ I64 a) (connective And right rest) in let u' : Term = config (Label ops 1 Done rest ∷ e) ε right in
      went (choice_path a (Plain (constant (pos 0)) Done) right rest false q (under_first s u u')) (omega arith) (omega arith) (right_side And z (ap not h) wx wm k)
  decides_and {t} {x} {more} {w} {ops} {c} {e} z a false h q wx wm k =
      let right : Code = expr p.declarations Γ t x truth in let rest : Code = operands p.declarations Γ t more c in
      let u : Term = config e (ops ▹ I64 a) (connective And right rest) in let u' : Term = config e (ops ▹ I64 0) rest in
      let cap = under_first s u u' in
      went (path_on (choice_path a (Plain (constant (pos 0)) Done) right rest true q cap) (constant_path 0 rest cap)) (omega arith) (omega arith) (decided_value false refl wm k)

  -- and one of ||
  decides_or : {t : ℕ} {x : ExprTree} {more : Operands} {w : List Work} {ops : Row Val} {c : Code} {e : Context} (z : ℤ) (a : ℕ) (b : Bool) → holds z ≡ b → nat_eq a 0 ≡ not b
      → WellExpr p.declarations n t x → WellOperands p.declarations n t more → Works p.declarations ρ Γ n D0 f t L w ops c e
      → Matches p matches 52 s (config e (ops ▹ I64 a) (connective Or (expr p.declarations Γ t x truth) (operands p.declarations Γ t more c)))
      (if b then goes_on (around (left_of more w)) (Gives (Number (script_number.truth b))) else goes_on (around (RightOf (Number z) (Connects Or) more ∷ w)) (Finds x))
  decides_or {t} {x} {more} {w} {ops} {c} {e} z a true h q wx wm k =
      let right : Code = expr p.declarations Γ t x truth in let rest : Code = operands p.declarations Γ t more c in
      let u : Term = config e (ops ▹ I64 a) (connective Or right rest) in let u' : Term = config e (ops ▹ I64 1) rest in
      let cap = under_first s u u' in
      went (path_on (choice_path a right (Plain (constant (pos 1)) Done) rest false q cap) (constant_path 1 rest cap)) (omega arith) (omega arith) (decided_value true refl wm k)
  decides_or {t} {x} {more} {w} {ops} {c} {e} z a false h q wx wm k =
      let right : Code = expr p.declarations Γ t x truth in let rest : Code = operands p.declarations Γ t more c in
      let u : Term = config e (ops ▹ I64 a) (connective Or right rest) in let u' : Term = config (Label ops 1 Done rest ∷ e) ε right in
      went (choice_path a right (Plain (constant (pos 1)) Done) rest true q (under_first s u u')) (omega arith) (omega arith) (right_side Or z h wx wm k)

  -- a left side of && or ||
  pub sim_decides : {t : ℕ} {z : ℤ} {a : Val} {x : ExprTree} {more : Operands} {w : List Work} {ops : Row Val} {c : Code} {e : Context} (o : Connective) → Same ρ (Number z) a
      → WellExpr p.declarations n t x → WellOperands p.declarations n t more → Works p.declarations ρ Γ n D0 f t L w ops c e
      → Matches p matches 52 s (config e (ops ▹ a) (connective o (expr p.declarations Γ t x truth) (operands p.declarations Γ t more c))) (rule p (around w) (Decides o (Number z) x more))
  sim_decides {z = z} And (number {n = a} h q) wx wm k = decides_and z a (holds z) refl (zero_test a h q) wx wm k
  sim_decides {z = z} Or (number {n = a} h q) wx wm k = decides_or z a (holds z) refl (zero_test a h q) wx wm k
