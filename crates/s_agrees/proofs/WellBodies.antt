-- The bodies of a script have their temporaries and their locals: where no more temporaries are taken than there are,
-- each name that is bound has a local of its type, and what a handle, a group or a spawn names is handled.
use Rattle.std.proofs.Common.{◌≡◌, ℕ, ◌+◌, ◌≤◌, List, [], ◌∷◌, ◌++◌, Option, Some, if◌then◌else◌, sym, subst, arith}
use Rattle.std.specs.Str.{bytes_eq}
use Rattle.s_syntax.specs.declared.name.Name.{Name}
use Rattle.s_syntax.specs.declared.script.VariableType.TheVariants.{Int, Resumption, Coroutine}
use Rattle.s_syntax.specs.declared.script.VariableType.{VariableType}
use Rattle.s_syntax.specs.declared.script.Slots.{Slots}
use Rattle.s_syntax.specs.declared.script.Declaration.{Declaration}
use Rattle.s_syntax.specs.declared.script.Script.{Script}
use Rattle.s_syntax.specs.ExprTree.{ExprTree, Literal, Read, Unary, Run, Call, Do, Handle, Resume, Group, Exprs, NoExprs, MoreExprs, Operands, NoOperands, MoreOperands}
use Rattle.s_syntax.specs.declared.statement.Use.TheVariants as use_for
use Rattle.s_syntax.specs.BlockTree.{BlockTree, Evaluate, If, While, Fail, Spawn, Done as NoStatements, ◌⨟◌}
use Rattle.s_check.specs.Rules.{count}
use Rattle.s_check.specs.Rules.{handler_of_slots}
use Rattle.s_check.specs.Scopes.{Bound, Scope, type_in, number as number_name, resumption as resumption_name, coroutine as coroutine_name}
use Rattle.s_index.specs.Handled.{handled_in_expr, handled_in_exprs, handled_in_operands, handled_in_block}
use Rattle.s_code.specs.Layouts.{Layout}
use Rattle.s_code.specs.Places.{binds_in}
use Rattle.s_code.specs.Temporaries.{high, high_args, high_aside, high_operands, high_block}
use Rattle.s_meaning.specs.Typing.{BlockTyped}
use Rattle.s_meaning.specs.Typing as script
use Rattle.s_meaning.proofs.Scopes.{same_is, bool_of}
use Rattle.s_valid.proofs.LayoutTypes.{Placed as HasLocal, AllHandled, handled_left, handled_right, handled_first, handled_later, LetsPlaced, lets_left, lets_right, lets_first}
use Rattle.s_valid.proofs.TypedExpressions.{least_args}
use Rattle.s_agrees.proofs.StandsFor.{WellExpr, WellArgs, WellAsides, WellOperands, WellBlock, literal, read, unary, run, calls, does, handles, resumes, groups, no_args, arg, no_asides, aside_arg, no_operands, operand, lets, assigns, ifs, whiles, print, return, stores, takes, switches, spawns, fail, drop, done, next}

-- ## Expressions

-- no fewer temporaries are in use behind arguments that are put aside
least_aside : (es : Exprs) (t : ℕ) → t ≤ high_aside t es
least_aside NoExprs t = omega arith
least_aside (MoreExprs e es) t = let h = least_aside es (t + 1) in omega (arith, h)

module _ {ds : List Declaration} {n : ℕ} where
  mutual
    -- an expression that takes at most n temporaries has them
    pub well_expr : (e : ExprTree) (t : ℕ) → high t e ≤ n → AllHandled ds (handled_in_expr e) → WellExpr ds n t e
    well_expr (Literal k) t h a = literal
    well_expr (Read x) t h a = read
    well_expr (Unary o e) t h a = unary (well_expr e t h a)
    well_expr (Run e ps) t h a =
        run (well_expr e t (omega (arith, h)) (handled_left (handled_in_expr e) (handled_in_operands ps) a))
        (well_operands ps t (omega (arith, h)) (handled_right (handled_in_expr e) (handled_in_operands ps) a))
    well_expr (Call f es) t h a = calls (well_args es t h a)
    well_expr (Do op es) t h a = does (well_args es t h a)
    well_expr (Handle f es g bs) t h a =
        let both = handled_later f (handled_in_exprs es ++ handled_in_exprs bs) a in
        handles (handled_first f (handled_in_exprs es ++ handled_in_exprs bs) a)
        (well_asides es t (omega (arith, h)) (handled_left (handled_in_exprs es) (handled_in_exprs bs) both))
        (well_args bs (t + count es) (omega (arith, h)) (handled_right (handled_in_exprs es) (handled_in_exprs bs) both))
    well_expr (Resume k e bs) t h a =
        let least = least_args bs (t + 1) in
        resumes (omega (arith, h, least)) (well_expr e t (omega (arith, h)) (handled_left (handled_in_expr e) (handled_in_exprs bs) a))
        (well_args bs (t + 1) (omega (arith, h)) (handled_right (handled_in_expr e) (handled_in_exprs bs) a))
    well_expr (Group f e) t h a = groups (handled_first f (handled_in_expr e) a) (well_expr e t h (handled_later f (handled_in_expr e) a))

    pub well_args : (es : Exprs) (t : ℕ) → high_args t es ≤ n → AllHandled ds (handled_in_exprs es) → WellArgs ds n t es
    well_args NoExprs t h a = no_args
    well_args (MoreExprs e es) t h a =
        arg (well_expr e t (omega (arith, h)) (handled_left (handled_in_expr e) (handled_in_exprs es) a))
        (well_args es t (omega (arith, h)) (handled_right (handled_in_expr e) (handled_in_exprs es) a))

    -- arguments that are put aside
    pub well_asides : (es : Exprs) (t : ℕ) → high_aside t es ≤ n → AllHandled ds (handled_in_exprs es) → WellAsides ds n t es
    well_asides NoExprs t h a = no_asides
    well_asides (MoreExprs e es) t h a =
        let least = least_aside es (t + 1) in
        aside_arg (omega (arith, h, least)) (well_expr e t (omega (arith, h)) (handled_left (handled_in_expr e) (handled_in_exprs es) a))
        (well_asides es (t + 1) (omega (arith, h)) (handled_right (handled_in_expr e) (handled_in_exprs es) a))

    pub well_operands : (ps : Operands) (t : ℕ) → high_operands t ps ≤ n → AllHandled ds (handled_in_operands ps) → WellOperands ds n t ps
    well_operands NoOperands t h a = no_operands
    well_operands (MoreOperands o e ps) t h a =
        operand (well_expr e t (omega (arith, h)) (handled_left (handled_in_expr e) (handled_in_operands ps) a))
        (well_operands ps t (omega (arith, h)) (handled_right (handled_in_expr e) (handled_in_operands ps) a))

-- ## Names

-- each name that is bound has a local of its type
pub record ScopePlaced (Γ : Layout) (bs : Scope) : Type 0 where
  pub each : (x : Name) (t : VariableType) → type_in bs x ≡ Some t → HasLocal Γ x t

-- behind a name that has one
scope_more : {Γ : Layout} {bs : Scope} (b : Bound) → HasLocal Γ b.name b.ty → ScopePlaced Γ bs → ScopePlaced Γ (b ∷ bs)
scope_more {Γ} {bs} b h s = record {
  each = λ y t. bool_of (bytes_eq b.name y) (λ q. (if q then Some b.ty else type_in bs y) ≡ Some t → HasLocal Γ y t)
      (λ q e. let same : b.ty ≡ t = cc e in subst (λ (k : VariableType). HasLocal Γ y k) same (subst (λ (z : Name). HasLocal Γ z b.ty) (sym (same_is y b.name q)) h)) (λ q e. s.each y t e);
}

-- ## Blocks

module _ {p : Script} {Γ : Layout} {n : ℕ} where
  -- a typed block has its temporaries and its locals
  pub well_block : (b : BlockTree) {bs : Scope} → BlockTyped p bs b → ScopePlaced Γ bs → LetsPlaced Γ (binds_in p.declarations b) → high_block b ≤ n → AllHandled p.declarations (handled_in_block b) → WellBlock p.declarations Γ n b
  well_block NoStatements script.done s l h a = done
  well_block (Evaluate (use_for.Let x) e ⨟ b) (script.statement (script.evaluates q (script.lets fit)) rest) s l h a =
      let t = number_name x in
      let first = lets_first t (binds_in p.declarations b) l in
      next (lets first (well_expr e 0 (omega (arith, h)) (handled_left (handled_in_expr e) (handled_in_block b) a)))
      (well_block b rest (scope_more t first s) (lets_right (t ∷ []) (binds_in p.declarations b) l) (omega (arith, h)) (handled_right (handled_in_expr e) (handled_in_block b) a))
  well_block (Evaluate (use_for.Assign x) e ⨟ b) (script.statement (script.evaluates q (script.assigns is_int)) rest) s l h a =
      next (assigns (s.each x Int is_int) (well_expr e 0 (omega (arith, h)) (handled_left (handled_in_expr e) (handled_in_block b) a)))
      (well_block b rest s l (omega (arith, h)) (handled_right (handled_in_expr e) (handled_in_block b) a))
  well_block (If e b d ⨟ k) (script.statement (script.ifs q one two) rest) s l h a =
      let whole = handled_left (handled_in_expr e ++ (handled_in_block b ++ handled_in_block d)) (handled_in_block k) a in
      let both = handled_right (handled_in_expr e) (handled_in_block b ++ handled_in_block d) whole in
      let within = lets_left (binds_in p.declarations b ++ binds_in p.declarations d) (binds_in p.declarations k) l in
      next
      (ifs (well_expr e 0 (omega (arith, h)) (handled_left (handled_in_expr e) (handled_in_block b ++ handled_in_block d) whole))
      (well_block b one s (lets_left (binds_in p.declarations b) (binds_in p.declarations d) within) (omega (arith, h)) (handled_left (handled_in_block b) (handled_in_block d) both))
      (well_block d two s (lets_right (binds_in p.declarations b) (binds_in p.declarations d) within) (omega (arith, h)) (handled_right (handled_in_block b) (handled_in_block d) both)))
      (well_block k rest s (lets_right (binds_in p.declarations b ++ binds_in p.declarations d) (binds_in p.declarations k) l) (omega (arith, h))
      (handled_right (handled_in_expr e ++ (handled_in_block b ++ handled_in_block d)) (handled_in_block k) a))
  well_block (While e b ⨟ k) (script.statement (script.whiles q inner) rest) s l h a =
      let whole = handled_left (handled_in_expr e ++ handled_in_block b) (handled_in_block k) a in
      next
      (whiles (well_expr e 0 (omega (arith, h)) (handled_left (handled_in_expr e) (handled_in_block b) whole))
      (well_block b inner s (lets_left (binds_in p.declarations b) (binds_in p.declarations k) l) (omega (arith, h)) (handled_right (handled_in_expr e) (handled_in_block b) whole)))
      (well_block k rest s (lets_right (binds_in p.declarations b) (binds_in p.declarations k) l) (omega (arith, h)) (handled_right (handled_in_expr e ++ handled_in_block b) (handled_in_block k) a))
  well_block (Evaluate use_for.Print e ⨟ b) (script.statement (script.evaluates q script.prints) rest) s l h a =
      next (print (well_expr e 0 (omega (arith, h)) (handled_left (handled_in_expr e) (handled_in_block b) a)))
      (well_block b rest s l (omega (arith, h)) (handled_right (handled_in_expr e) (handled_in_block b) a))
  well_block (Evaluate use_for.Return e ⨟ b) (script.statement (script.evaluates q script.returns) rest) s l h a =
      next (return (well_expr e 0 (omega (arith, h)) (handled_left (handled_in_expr e) (handled_in_block b) a)))
      (well_block b rest s l (omega (arith, h)) (handled_right (handled_in_expr e) (handled_in_block b) a))
  well_block (Evaluate (use_for.Store x k) e ⨟ b) (script.statement (script.evaluates q (script.stores_in {d = d} is named)) rest) s l h a =
      next (stores is (s.each k (Resumption d.handler) named) (omega (arith, h)) (well_expr e 0 (omega (arith, h)) (handled_left (handled_in_expr e) (handled_in_block b) a)))
      (well_block b rest s l (omega (arith, h)) (handled_right (handled_in_expr e) (handled_in_block b) a))
  well_block (Evaluate (use_for.Take k x) e ⨟ b) (script.statement (script.evaluates q (script.takes_from {d = d} is fit)) rest) s l h a =
      let t = resumption_name d.handler k in
      let l' = subst (λ (o : Option Slots). LetsPlaced Γ (resumption_name (handler_of_slots x o) k ∷ binds_in p.declarations b)) is l in
      let first = lets_first t (binds_in p.declarations b) l' in
      next (takes is first (omega (arith, h)) (well_expr e 0 (omega (arith, h)) (handled_left (handled_in_expr e) (handled_in_block b) a)))
      (well_block b rest (scope_more t first s) (lets_right (t ∷ []) (binds_in p.declarations b) l') (omega (arith, h)) (handled_right (handled_in_expr e) (handled_in_block b) a))
  well_block (Evaluate (use_for.Switch x u k) e ⨟ b) (script.statement (script.evaluates q (script.switches_to named fit_x fit_u)) rest) s l h a =
      let t = number_name x in
      let r = coroutine_name u in
      let first = lets_first t (r ∷ binds_in p.declarations b) l in
      let behind = lets_right (t ∷ []) (r ∷ binds_in p.declarations b) l in
      let second = lets_first r (binds_in p.declarations b) behind in
      next (switches first second (s.each k Coroutine named) (well_expr e 0 (omega (arith, h)) (handled_left (handled_in_expr e) (handled_in_block b) a)))
      (well_block b rest (scope_more r second (scope_more t first s)) (lets_right (r ∷ []) (binds_in p.declarations b) behind) (omega (arith, h)) (handled_right (handled_in_expr e) (handled_in_block b) a))
  well_block (Spawn k f ⨟ b) (script.statement (script.spawns is two fit) rest) s l h a =
      let t = coroutine_name k in
      let first = lets_first t (binds_in p.declarations b) l in
      next (spawns first (handled_first f (handled_in_block b) a))
      (well_block b rest (scope_more t first s) (lets_right (t ∷ []) (binds_in p.declarations b) l) (omega (arith, h)) (handled_later f (handled_in_block b) a))
  well_block (Fail ⨟ b) (script.statement script.fails rest) s l h a = next fail (well_block b rest s l (omega (arith, h)) a)
  well_block (Evaluate use_for.Drop e ⨟ b) (script.statement (script.evaluates q script.drops) rest) s l h a =
      next (drop (well_expr e 0 (omega (arith, h)) (handled_left (handled_in_expr e) (handled_in_block b) a)))
      (well_block b rest s l (omega (arith, h)) (handled_right (handled_in_expr e) (handled_in_block b) a))
