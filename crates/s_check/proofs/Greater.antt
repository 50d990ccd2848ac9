-- Rules of greater numbers, which leave the least one as it is.
use Rattle.std.proofs.Common.{◌≡◌, ℕ, ◌<◌, ◌≤◌, Bool, true, false, not, cond, List, [], ◌∷◌, ◌++◌, length, Option, Some, None, refl, sym, ap, subst, ◌∙◌, ◌⊎◌, inl, inr, arith}
use Rattle.std.proofs.lemmas.Bool.Decides.{nat_tests}
use Rattle.std.specs.Prelude.{nat_lt, nat_eq, if◌then◌else◌}
use Rattle.s_syntax.specs.declared.name.Name.{Name}
use Rattle.s_syntax.specs.declared.script.VariableType.{VariableType}
use Rattle.s_syntax.specs.declared.script.VariableType.TheVariants.{Int, Resumption, Coroutine}
use Rattle.s_syntax.specs.declared.script.Parameter.{Parameter}
use Rattle.s_syntax.specs.declared.script.Function.{Function}
use Rattle.s_syntax.specs.declared.script.Clause.{Clause}
use Rattle.s_syntax.specs.declared.script.Handler.{Handler}
use Rattle.s_syntax.specs.declared.script.Declaration.{Declaration}
use Rattle.s_syntax.specs.ExprTree.{ExprTree, Literal, Read, Unary, Run, Call, Do, Handle, Resume, Group, Exprs, NoExprs, MoreExprs, Operands, NoOperands, MoreOperands}
use Rattle.s_syntax.specs.declared.statement.Use.{Use}
use Rattle.s_syntax.specs.declared.statement.Use.TheVariants as use_for
use Rattle.s_syntax.specs.BlockTree.{StatementTree, BlockTree, Evaluate, If, While, Fail, Spawn, Done, ◌⨟◌}
use Rattle.s_syntax.specs.declared.script.Slots.{Slots}
use Rattle.s_check.specs.declared.rule.Rule.{Rule}
use Rattle.s_check.specs.declared.rule.Rule.TheVariants as rule
use Rattle.s_check.specs.Definitions.{function_of, handler_of, effect_of, slots_of}
use Rattle.s_check.specs.Least.{lesser, least_of}
use Rattle.s_check.specs.Refusal.{number_of}
use Rattle.s_check.specs.Rules.{when, count, against, all_suit, for_function, for_effect, for_handler, for_handler_of_type, for_resumed, takes_number, takes_both, for_grouped, for_spawned, for_switched, for_slots, in_stored, is_coroutine, is_resumption_of, in_name, in_expr, in_exprs, in_operands, in_target, in_use, bound_after, in_statement, in_block, in_body, in_types, in_parameters, in_head, in_clauses, in_header, in_bodies}
use Rattle.s_check.proofs.Least.{least_append}
use Rattle.s_check.specs.Scopes.{Scope, Bound, type_in, of_clause, of_return}

-- each number is above 4
abbrev pub AreGreater : List Rule → Type 0
AreGreater [] = Unit {0}
AreGreater (r ∷ rs) = (4 < number_of r) × AreGreater rs

both : (rs ss : List Rule) → AreGreater rs → AreGreater ss → AreGreater (rs ++ ss)
both [] ss h k = k
both (r ∷ rs) ss h k = (h.0, both rs ss h.1 k)

one_where : (b : Bool) (r : Rule) → 4 < number_of r → AreGreater (when b r)
one_where true r h = (h, tt)
one_where false r h = tt

-- ## Expressions

against_greater : (ds : List Declaration) (bs : Scope) (ps : List Parameter) (es : Exprs) → AreGreater (against ds bs ps es)
against_greater ds bs ps es = by (nat_eq (count es) (length ps))
  where
    by : (b : Bool) → AreGreater (if b then when (not (all_suit ds bs ps es)) rule.ArgumentOfOtherType else (rule.OtherNumberOfArguments ∷ []))
    by true = one_where (not (all_suit ds bs ps es)) rule.ArgumentOfOtherType (omega arith)
    by false = (omega arith, tt)

function_greater : (ds : List Declaration) (bs : Scope) (o : Option Function) (es : Exprs) → AreGreater (for_function ds bs o es)
function_greater ds bs None es = (omega arith, tt)
function_greater ds bs (Some f) es = against_greater ds bs f.parameters es

effect_greater : (o : Option ℕ) (es : Exprs) → AreGreater (for_effect o es)
effect_greater None es = (omega arith, tt)
effect_greater (Some n) es = one_where (not (nat_eq (count es) n)) rule.OtherNumberOfArguments (omega arith)

handler_greater : (ds : List Declaration) (bs : Scope) (o : Option Handler) (es : Exprs) → AreGreater (for_handler ds bs o es)
handler_greater ds bs None es = (omega arith, tt)
handler_greater ds bs (Some h) es = against_greater ds bs h.parameters es

type_greater : (ds : List Declaration) (bs : Scope) (o : Option Handler) (es : Exprs) → AreGreater (for_handler_of_type ds bs o es)
type_greater ds bs None es = tt
type_greater ds bs (Some h) es = against_greater ds bs h.parameters es

resumed_greater : (ds : List Declaration) (bs : Scope) (o : Option VariableType) (es : Exprs) → AreGreater (for_resumed ds bs o es)
resumed_greater ds bs None es = (omega arith, tt)
resumed_greater ds bs (Some Int) es = (omega arith, tt)
resumed_greater ds bs (Some (Resumption h)) es = type_greater ds bs (handler_of ds h) es
resumed_greater ds bs (Some Coroutine) es = (omega arith, tt)

grouped_greater : (o : Option Function) → AreGreater (for_grouped o)
grouped_greater None = (omega arith, tt)
grouped_greater (Some f) = one_where (not (takes_number f.parameters)) rule.OtherParameters (omega arith)

spawned_greater : (o : Option Function) → AreGreater (for_spawned o)
spawned_greater None = (omega arith, tt)
spawned_greater (Some f) = one_where (not (takes_both f.parameters)) rule.OtherParameters (omega arith)

switched_greater : (o : Option VariableType) → AreGreater (for_switched o)
switched_greater None = (omega arith, tt)
switched_greater (Some Int) = (omega arith, tt)
switched_greater (Some (Resumption h)) = (omega arith, tt)
switched_greater (Some Coroutine) = tt

name_greater : (whole : Bool) (o : Option VariableType) → AreGreater (in_name whole o)
name_greater whole None = (omega arith, tt)
name_greater whole (Some Int) = tt
name_greater whole (Some (Resumption h)) = one_where (not whole) rule.ResumptionElsewhere (omega arith)
name_greater whole (Some Coroutine) = one_where (not whole) rule.ResumptionElsewhere (omega arith)

mutual
  expr_greater : (ds : List Declaration) (bs : Scope) (whole : Bool) (e : ExprTree) → AreGreater (in_expr ds bs whole e)
  expr_greater ds bs whole (Literal n) = tt
  expr_greater ds bs whole (Read x) = name_greater whole (type_in bs x)
  expr_greater ds bs whole (Unary o e) = expr_greater ds bs false e
  expr_greater ds bs whole (Run e ps) = both (in_expr ds bs false e) (in_operands ds bs ps) (expr_greater ds bs false e) (operands_greater ds bs ps)
  expr_greater ds bs whole (Call f es) = both (for_function ds bs (function_of ds f) es) (in_exprs ds bs true es) (function_greater ds bs (function_of ds f) es) (exprs_greater ds bs true es)
  expr_greater ds bs whole (Do op es) = both (for_effect (effect_of ds op) es) (in_exprs ds bs false es) (effect_greater (effect_of ds op) es) (exprs_greater ds bs false es)
  expr_greater ds bs whole (Handle f es h ps) =
      both (for_function ds bs (function_of ds f) es ++ in_exprs ds bs true es) (for_handler ds bs (handler_of ds h) ps ++ in_exprs ds bs true ps)
      (both (for_function ds bs (function_of ds f) es) (in_exprs ds bs true es) (function_greater ds bs (function_of ds f) es) (exprs_greater ds bs true es))
      (both (for_handler ds bs (handler_of ds h) ps) (in_exprs ds bs true ps) (handler_greater ds bs (handler_of ds h) ps) (exprs_greater ds bs true ps))
  expr_greater ds bs whole (Resume k e ps) =
      both (in_expr ds bs false e) (for_resumed ds bs (type_in bs k) ps ++ in_exprs ds bs true ps) (expr_greater ds bs false e)
      (both (for_resumed ds bs (type_in bs k) ps) (in_exprs ds bs true ps) (resumed_greater ds bs (type_in bs k) ps) (exprs_greater ds bs true ps))
  expr_greater ds bs whole (Group f e) = both (for_grouped (function_of ds f)) (in_expr ds bs false e) (grouped_greater (function_of ds f)) (expr_greater ds bs false e)

  exprs_greater : (ds : List Declaration) (bs : Scope) (whole : Bool) (es : Exprs) → AreGreater (in_exprs ds bs whole es)
  exprs_greater ds bs whole NoExprs = tt
  exprs_greater ds bs whole (MoreExprs e es) = both (in_expr ds bs whole e) (in_exprs ds bs whole es) (expr_greater ds bs whole e) (exprs_greater ds bs whole es)

  operands_greater : (ds : List Declaration) (bs : Scope) (ps : Operands) → AreGreater (in_operands ds bs ps)
  operands_greater ds bs NoOperands = tt
  operands_greater ds bs (MoreOperands o e ps) = both (in_expr ds bs false e) (in_operands ds bs ps) (expr_greater ds bs false e) (operands_greater ds bs ps)

-- ## Statements

target_greater : (o : Option VariableType) → AreGreater (in_target o)
target_greater None = (omega arith, tt)
target_greater (Some Int) = tt
target_greater (Some (Resumption h)) = (omega arith, tt)
target_greater (Some Coroutine) = (omega arith, tt)

slots_greater : (o : Option Slots) → AreGreater (for_slots o)
slots_greater None = (omega arith, tt)
slots_greater (Some s) = tt

stored_greater : (ds : List Declaration) (o : Option Slots) (k : Option VariableType) → AreGreater (in_stored ds o k)
stored_greater ds o None = (omega arith, tt)
stored_greater ds None (Some t) = one_where (is_coroutine (Some t)) rule.ResumptionElsewhere (omega arith)
stored_greater ds (Some s) (Some t) =
    both (when (is_coroutine (Some t)) rule.ResumptionElsewhere) (when (not (is_resumption_of ds s.handler (Some t))) rule.StoredOfOtherType)
    (one_where (is_coroutine (Some t)) rule.ResumptionElsewhere (omega arith)) (one_where (not (is_resumption_of ds s.handler (Some t))) rule.StoredOfOtherType (omega arith))

use_greater : (ds : List Declaration) (bs : Scope) (u : Use) → AreGreater (in_use ds bs u)
use_greater ds bs (use_for.Let x) = tt
use_greater ds bs (use_for.Assign x) = target_greater (type_in bs x)
use_greater ds bs use_for.Print = tt
use_greater ds bs use_for.Return = tt
use_greater ds bs use_for.Drop = tt
use_greater ds bs (use_for.Store s k) = both (for_slots (slots_of ds s)) (in_stored ds (slots_of ds s) (type_in bs k)) (slots_greater (slots_of ds s)) (stored_greater ds (slots_of ds s) (type_in bs k))
use_greater ds bs (use_for.Take k s) = slots_greater (slots_of ds s)
use_greater ds bs (use_for.Switch x u t) = switched_greater (type_in bs t)

mutual
  statement_greater : (ds : List Declaration) (bs : Scope) (s : StatementTree) → AreGreater (in_statement ds bs s)
  statement_greater ds bs (Evaluate u e) = both (in_use ds bs u) (in_expr ds bs false e) (use_greater ds bs u) (expr_greater ds bs false e)
  statement_greater ds bs (If c a b) = both (in_expr ds bs false c) (in_block ds bs a ++ in_block ds bs b) (expr_greater ds bs false c) (both (in_block ds bs a) (in_block ds bs b) (block_greater ds bs a) (block_greater ds bs b))
  statement_greater ds bs (While c b) = both (in_expr ds bs false c) (in_block ds bs b) (expr_greater ds bs false c) (block_greater ds bs b)
  statement_greater ds bs Fail = tt
  statement_greater ds bs (Spawn t f) = spawned_greater (function_of ds f)

  block_greater : (ds : List Declaration) (bs : Scope) (b : BlockTree) → AreGreater (in_block ds bs b)
  block_greater ds bs Done = tt
  block_greater ds bs (s ⨟ b) = both (in_statement ds bs s) (in_block ds (bound_after ds s bs) b) (statement_greater ds bs s) (block_greater ds (bound_after ds s bs) b)

body_greater : (ds : List Declaration) (bs : List Bound) (b : BlockTree) → AreGreater (in_body ds bs b)
body_greater ds bs b = both (when _ rule.NameBoundTwice) (in_block ds _ b) (one_where _ rule.NameBoundTwice (omega arith)) (block_greater ds _ b)

-- ## Handlers

head_greater : (o : Option ℕ) (before : List Name) (c : Clause) → AreGreater (in_head o before c)
head_greater None before c = (omega arith, tt)
head_greater (Some n) before c = both (when _ rule.ClauseForEffectTwice) (when _ rule.OtherNumberInClause) (one_where _ rule.ClauseForEffectTwice (omega arith)) (one_where _ rule.OtherNumberInClause (omega arith))

clauses_greater : (ds : List Declaration) (h : Name) (i : Handler) (before : List Name) (cs : List Clause) → AreGreater (in_clauses ds h i before cs)
clauses_greater ds h i before [] = tt
clauses_greater ds h i before (c ∷ cs) =
    both (in_head (effect_of ds c.effect) before c ++ in_body ds (of_clause h i c) c.body) (in_clauses ds h i (c.effect ∷ before) cs)
    (both (in_head (effect_of ds c.effect) before c) (in_body ds (of_clause h i c) c.body) (head_greater (effect_of ds c.effect) before c) (body_greater ds (of_clause h i c) c.body))
    (clauses_greater ds h i (c.effect ∷ before) cs)

bodies_greater : (ds : List Declaration) (x : Name) (h : Handler) → AreGreater (in_bodies ds x h)
bodies_greater ds x h = both (in_body ds (of_return h) h.return_clause.body) (in_clauses ds x h [] h.clauses) (body_greater ds (of_return h) h.return_clause.body) (clauses_greater ds x h [] h.clauses)

-- ## The least one stays

-- a rule is known whose number is at most 4
record IsLow (o : Option Rule) : Type 0 where
  known : Rule
  is : o ≡ Some known
  low : number_of known ≤ 4

lower : (p q : Rule) → (number_of p ≤ 4) ⊎ (number_of q ≤ 4) → IsLow (lesser (Some p) q)
lower p q h = by (nat_lt (number_of q) (number_of p)) refl
  where
    by : (b : Bool) → nat_lt (number_of q) (number_of p) ≡ b → IsLow (cond b (Some q) (Some p))
    by true e = record { known = q; is = refl; low = (let less : number_of q < number_of p = grind (arith, nat_tests) in elim h [ inl l ↦ omega (arith, less, l) | inr l ↦ l ]) }
    by false e = record { known = p; is = refl; low = (let no : (number_of q < number_of p) → ⊥ = grind (arith, nat_tests) in elim h [ inl l ↦ l | inr l ↦ omega (arith, no, l) ]) }

lower_of : (o : Option Rule) (q : Rule) → IsLow o ⊎ (number_of q ≤ 4) → IsLow (lesser o q)
lower_of None q (inl h) = let e = h.is in absurd (cc)
lower_of None q (inr l) = record { known = q; is = refl; low = l }
lower_of (Some p) q (inl h) = let same : p ≡ h.known = (let e = h.is in cc) in let n : number_of p ≡ number_of h.known = ap number_of same in lower p q (inl (omega (arith, n, h.low)))
lower_of (Some p) q (inr l) = lower p q (inr l)

still_low : (o : Option Rule) (rs : List Rule) → IsLow o → IsLow (least_of o rs)
still_low o [] h = h
still_low o (r ∷ rs) h = still_low (lesser o r) rs (lower_of o r (inl h))

not_lesser : (p q : Rule) → number_of p ≤ 4 → 4 < number_of q → lesser (Some p) q ≡ Some p
not_lesser p q l g = by (nat_lt (number_of q) (number_of p)) refl
  where
    by : (b : Bool) → nat_lt (number_of q) (number_of p) ≡ b → cond b (Some q) (Some p) ≡ Some p
    by true e = (let less : number_of q < number_of p = grind (arith, nat_tests) in absurd (omega (arith, less, l, g)))
    by false e = refl

stays_least : (p : Rule) (rs : List Rule) → number_of p ≤ 4 → AreGreater rs → least_of (Some p) rs ≡ Some p
stays_least p [] l h = refl
stays_least p (q ∷ rs) l h = ap (λ (o : Option Rule). least_of o rs) (not_lesser p q l h.0) ∙ stays_least p rs l h.1

low_stays : (o : Option Rule) (rs : List Rule) → IsLow o → AreGreater rs → least_of o rs ≡ o
low_stays o rs h g = ap (λ (x : Option Rule). least_of x rs) h.is ∙ stays_least h.known rs h.low g ∙ sym h.is

-- too many parameters
many_parameters : (least : Option Rule) (ds : List Declaration) (ps : List Parameter) → 8 < length ps → IsLow (least_of least (in_parameters ds ps))
many_parameters least ds ps many = by (nat_lt 8 (length ps)) refl
  where
    by : (b : Bool) → nat_lt 8 (length ps) ≡ b → IsLow (least_of least ((if b then rule.TooManyParameters ∷ [] else []) ++ in_types ds ps))
    by true e = still_low (lesser least rule.TooManyParameters) (in_types ds ps) (lower_of least rule.TooManyParameters (inr (omega arith)))
    by false e = (let no : (8 < length ps) → ⊥ = grind (arith, nat_tests) in absurd (no many))

-- too many clauses
many_clauses : (o : Option Rule) (n : ℕ) → 16 < n → IsLow (least_of o (when (nat_lt 16 n) rule.TooManyClauses))
many_clauses o n many = by (nat_lt 16 n) refl
  where
    by : (b : Bool) → nat_lt 16 n ≡ b → IsLow (least_of o (if b then rule.TooManyClauses ∷ [] else []))
    by true e = lower_of o rule.TooManyClauses (inr (omega arith))
    by false e = (let no : (16 < n) → ⊥ = grind (arith, nat_tests) in absurd (no many))

many_low : (least : Option Rule) (ds : List Declaration) (h : Handler) → (8 < length h.parameters) ⊎ (16 < length h.clauses) → IsLow (least_of least (in_header ds h))
many_low least ds h (inl many) =
    subst IsLow (sym (least_append least (in_parameters ds h.parameters) (when (nat_lt 16 (length h.clauses)) rule.TooManyClauses)))
    (still_low (least_of least (in_parameters ds h.parameters)) (when (nat_lt 16 (length h.clauses)) rule.TooManyClauses) (many_parameters least ds h.parameters many))
many_low least ds h (inr many) =
    subst IsLow (sym (least_append least (in_parameters ds h.parameters) (when (nat_lt 16 (length h.clauses)) rule.TooManyClauses)))
    (many_clauses (least_of least (in_parameters ds h.parameters)) (length h.clauses) many)

-- of a handler with too many parameters or clauses nothing else is told
pub header_alone : (least now : Option Rule) (ds : List Declaration) (x : Name) (h : Handler) → (8 < length h.parameters) ⊎ (16 < length h.clauses)
    → now ≡ least_of least (in_header ds h) → now ≡ least_of least (in_header ds h ++ in_bodies ds x h)
header_alone least now ds x h many e =
    e ∙ sym (low_stays (least_of least (in_header ds h)) (in_bodies ds x h) (many_low least ds h many) (bodies_greater ds x h))
    ∙ sym (least_append least (in_header ds h) (in_bodies ds x h))
