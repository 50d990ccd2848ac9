-- Names, and what is bound: typed blocks in scopes that agree, and what is left to run of a body.
use Rattle.std.proofs.Common.{◌≡◌, Bool, true, false, ◌∷◌, Option, Some, if◌then◌else◌, refl, sym, ap, ◌∙◌}
use Rattle.std.proofs.lemmas.Slice.Eq.{bytes_eq-Decides}
use Rattle.std.specs.Str.{bytes_eq}
use Rattle.s_syntax.specs.declared.name.Name.{Name}
use Rattle.s_syntax.specs.declared.script.VariableType.{VariableType}
use Rattle.s_syntax.specs.declared.statement.Use.{Use as ValueUse}
use Rattle.s_syntax.specs.BlockTree.{StatementTree, BlockTree}
use Rattle.s_syntax.specs.declared.script.Script.{Script}
use Rattle.s_check.specs.Scopes.{Bound, Scope, type_in, number as number_name, resumption as resumption_name, coroutine as coroutine_name}
use Rattle.s_meaning.specs.Typing.{ExprTyped, OperandsTyped, ArgsTyped, literal, read, unary, run, call, does, handle, resume, group, no_more, next, no_args, number, resumption, coroutine, Fits, ValueUseTyped, lets, assigns, prints, returns, drops, stores_in, takes_from, switches_to, StatementTyped, evaluates, ifs, whiles, fails, spawns, BlockTyped, done, statement}
use Rattle.s_meaning.specs.Typed.{Keeps, RestTyped, ends, begins, behind}
use Rattle.s_meaning.specs.Steps.{◌⨟⨟◌}

pub same_is : (x y : Name) → bytes_eq y x ≡ true → x ≡ y
same_is x y e = sym ((bytes_eq-Decides y x).0 e)

pub same_refl : (x : Name) → bytes_eq x x ≡ true
same_refl x = (bytes_eq-Decides x x).1 refl

pub bool_of : (b : Bool) (P : Bool → Type 0) → (b ≡ true → P true) → (b ≡ false → P false) → P b
bool_of true P yes' no' = yes' refl
bool_of false P yes' no' = no' refl

-- ## Scopes that agree

-- each name has the same type in both
pub record Agree (Γ Γ' : Scope) : Type 0 where
  pub type_of : (y : Name) → type_in Γ y ≡ type_in Γ' y

pub agree_more : {Γ Γ' : Scope} (b : Bound) → Agree Γ Γ' → Agree (b ∷ Γ) (b ∷ Γ')
agree_more b m = record { type_of = λ y. ap (λ (o : Option VariableType). if bytes_eq b.name y then Some b.ty else o) (m.type_of y) }

mutual
  same_expr : {p : Script} {Γ Γ' : Scope} {e : _} → Agree Γ Γ' → ExprTyped p Γ e → ExprTyped p Γ' e
  same_expr m literal = literal
  same_expr m (read {x = x} k) = read (sym (m.type_of x) ∙ k)
  same_expr m (unary t) = unary (same_expr m t)
  same_expr m (run t ts) = run (same_expr m t) (same_operands m ts)
  same_expr m (call f ts) = call f (same_args m ts)
  same_expr m (does op ts) = does op (same_args m ts)
  same_expr m (handle f h ts us) = handle f h (same_args m ts) (same_args m us)
  same_expr m (resume {k = k} q i t us) = resume (sym (m.type_of k) ∙ q) i (same_expr m t) (same_args m us)
  same_expr m (group f k t) = group f k (same_expr m t)

  same_operands : {p : Script} {Γ Γ' : Scope} {es : _} → Agree Γ Γ' → OperandsTyped p Γ es → OperandsTyped p Γ' es
  same_operands m no_more = no_more
  same_operands m (next t ts) = next (same_expr m t) (same_operands m ts)

  same_args : {p : Script} {Γ Γ' : Scope} {ks : _} {es : _} → Agree Γ Γ' → ArgsTyped p Γ ks es → ArgsTyped p Γ' ks es
  same_args m no_args = no_args
  same_args m (number t ts) = number (same_expr m t) (same_args m ts)
  same_args m (resumption {x = x} q ts) = resumption (sym (m.type_of x) ∙ q) (same_args m ts)
  same_args m (coroutine {x = x} q ts) = coroutine (sym (m.type_of x) ∙ q) (same_args m ts)

-- a use in a scope that agrees, and what is bound behind it
record UsedAlike (p : Script) (Γ' : Scope) (u : ValueUse) (Δ : Scope) : Type 0 where
  after : Scope
  agree : Agree Δ after
  typed : ValueUseTyped p Γ' u after

same_fits : {x : Name} {t : VariableType} {Γ Γ' : Scope} → Agree Γ Γ' → Fits x t Γ → Fits x t Γ'
same_fits {x = x} m f = record { fits = λ k e. f.fits k (m.type_of x ∙ e) }

same_use : {p : Script} {Γ Γ' Δ : Scope} {u : ValueUse} → Agree Γ Γ' → ValueUseTyped p Γ u Δ → UsedAlike p Γ' u Δ
same_use m (lets {x = x} f) = record { after = _; agree = agree_more (number_name x) m; typed = lets (same_fits m f) }
same_use m (assigns {x = x} k) = record { after = _; agree = m; typed = assigns (sym (m.type_of x) ∙ k) }
same_use m prints = record { after = _; agree = m; typed = prints }
same_use m returns = record { after = _; agree = m; typed = returns }
same_use m drops = record { after = _; agree = m; typed = drops }
same_use m (stores_in {k = k} q i) = record { after = _; agree = m; typed = stores_in q (sym (m.type_of k) ∙ i) }
same_use m (takes_from {k = k} {d = d} q f) = record { after = _; agree = agree_more (resumption_name d.handler k) m; typed = takes_from q (same_fits m f) }
same_use m (switches_to {x = x} {u = u} {t = t} q f g) =
    let n = agree_more (number_name x) m in
    record { after = _; agree = agree_more (coroutine_name u) n; typed = switches_to (sym (m.type_of t) ∙ q) (same_fits m f) (same_fits n g) }

pub same_block : {p : Script} {Γ Γ' : Scope} {b : BlockTree} → Agree Γ Γ' → BlockTyped p Γ b → BlockTyped p Γ' b
same_block m done = done
same_block m (statement (evaluates t u) b) = let r = same_use m u in statement (evaluates (same_expr m t) r.typed) (same_block r.agree b)
same_block m (statement (ifs t b c) d) = statement (ifs (same_expr m t) (same_block m b) (same_block m c)) (same_block m d)
same_block m (statement (whiles t b) d) = statement (whiles (same_expr m t) (same_block m b)) (same_block m d)
same_block m (statement fails b) = statement fails (same_block m b)
same_block m (statement (spawns {t = t} f k q) b) = statement (spawns f k (same_fits m q)) (same_block (agree_more (coroutine_name t) m) b)

-- ## More names bound

-- behind a name that fits
pub keeps_bound : {x : Name} {t : VariableType} {Γ : Scope} → Fits x t Γ → Keeps Γ (record { name = x; ty = t } ∷ Γ)
keeps_bound {x} {t} {Γ} f = record { keeps = keeps }
  where
    keeps : (y : Name) (k : VariableType) → type_in Γ y ≡ Some k → type_in (record { name = x; ty = t } ∷ Γ) y ≡ Some k
    keeps y k e = bool_of (bytes_eq x y) (λ b. (if b then Some t else type_in Γ y) ≡ Some k)
        (λ q. ap Some (sym (f.fits k (ap (λ (z : Name). type_in Γ z) (sym (same_is y x q)) ∙ e)))) (λ q. e)

keeps_all : {Γ : Scope} → Keeps Γ Γ
keeps_all = record { keeps = λ y k e. e }

keeps_then : {Γ Δ Δ' : Scope} → Keeps Γ Δ → Keeps Δ Δ' → Keeps Γ Δ'
keeps_then a b = record { keeps = λ y k e. b.keeps y k (a.keeps y k e) }

-- behind a statement
statement_keeps : {p : Script} {Γ Γ' : Scope} {s : StatementTree} → StatementTyped p Γ s Γ' → Keeps Γ Γ'
statement_keeps (evaluates t (lets f)) = keeps_bound f
statement_keeps (evaluates t (assigns k)) = keeps_all
statement_keeps (evaluates t prints) = keeps_all
statement_keeps (evaluates t returns) = keeps_all
statement_keeps (evaluates t drops) = keeps_all
statement_keeps (evaluates t (stores_in q i)) = keeps_all
statement_keeps (evaluates t (takes_from q f)) = keeps_bound f
statement_keeps (evaluates t (switches_to q f g)) = keeps_then (keeps_bound f) (keeps_bound g)
statement_keeps (ifs t b c) = keeps_all
statement_keeps (whiles t b) = keeps_all
statement_keeps fails = keeps_all
statement_keeps (spawns f k q) = keeps_bound q

-- ## What is left to run

-- a block, and then a rest that sees what is bound before the block
pub then_typed : {p : Script} {Γ : Scope} {b d : BlockTree} → BlockTyped p Γ b → RestTyped p Γ d → RestTyped p Γ (b ⨟⨟ d)
then_typed done d = d
then_typed (statement s b) d = begins s (then_typed b (behind (statement_keeps s) d))

-- a block and nothing else
pub block_rest : {p : Script} {Γ : Scope} {b : BlockTree} → BlockTyped p Γ b → RestTyped p Γ b
block_rest done = ends
block_rest (statement s b) = begins s (block_rest b)
