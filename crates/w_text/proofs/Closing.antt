-- Each state leads on to a module: what is open can be closed.
use Rattle.std.proofs.Common.{◌≡◌, ℕ, zero, suc, ◌≤◌, Bool, true, cond, List, [], ◌∷◌, ◌++◌, Option, Some, None, refl, sym, ap, subst, ◌∙◌, arith}
use Rattle.std.specs.Prelude.{⊤, nat_le}
use Rattle.std.proofs.lemmas.Bool.{le-leb}
use Rattle.w_types.specs.declared.types.SubType.{SubType}
use Rattle.w_types.specs.declared.types.CompType.TheVariants as comp
use Rattle.w_syntax.specs.declared.instructions.Token.TheVariants as tok
use Rattle.w_syntax.specs.declared.module.Module.{Module}
use Rattle.w_syntax.specs.Types.{group_of}
use Rattle.w_syntax.specs.Code.{Code, Done, Block, If, IfElse, after}
use Rattle.w_syntax.specs.Expr.{Path, Top, InBlock, InThen, InElse, step as token_step}
use Rattle.w_syntax.specs.Module.{empty_module}
use Rattle.w_lines.specs.declared.line.Line.{Line}
use Rattle.w_lines.specs.declared.line.Line.TheVariants as line
use Rattle.w_text.specs.declared.item.Item.TheVariants.{Group}
use Rattle.w_text.specs.Items.{Head, FunctionHead}
use Rattle.w_text.specs.Machine.{Open, Between, InGroup, InLocals, InExprs, Next, Opens, Gives, item_of, exprs_on, expr_on, head_rank, rank, rank_after, add, next, State, Fresh, Reading, open_rank, placed, step, run, run_on}
use Rattle.w_text.proofs.Complete.{rank_of_item}

-- the lines that close what is open
abbrev no_params : SubType
no_params = record { is_final = true; supertypes = []; composite = comp.Func (record { params = []; results = [] }) }

abbrev pub type_closer : Line
type_closer = line.Type no_params

abbrev pub end_closer : Line
end_closer = line.Token tok.End

pub data Closes : Line → Type 0 where
  by_module : Closes line.Module
  by_type : Closes type_closer
  by_end : Closes end_closer

abbrev pub EachCloses : List Line → Type 0
EachCloses [] = ⊤
EachCloses (l ∷ ls) = Closes l × EachCloses ls

-- lines that close it lead to a module
pub record Closable (s : State) : Type 0 where
  pub lines : List Line
  pub close : EachCloses lines
  pub place : ℕ
  pub whole : Module
  pub leads : run s lines ≡ Some (Reading place whole Between)

closed : (k : ℕ) (m : Module) → Closable (Reading k m Between)
unfolding run
closed k m = record { lines = []; close = tt; place = k; whole = m; leads = refl }

-- by one line more
by_line : (s t : State) (l : Line) → Closes l → step s l ≡ Some t → Closable t → Closable s
unfolding run
by_line s t l c e d = record { lines = l ∷ d.lines; close = (c, d.close); place = d.place; whole = d.whole; leads = ap (λ (o : Option State). run_on (λ u. run u d.lines) o) e ∙ d.leads }

-- what comes next can be closed, at any place that has been reached
abbrev Goes : ℕ → Module → Next → Type 0
Goes k m n = (t : State) × (placed k m n ≡ Some t) × Closable t

le_true : (j k : ℕ) → j ≤ k → nat_le j k ≡ true
le_true j k le = le-leb j k le

goes_gives : (k : ℕ) (m : Module) (it : _) → k ≤ rank it → Goes k m (Gives it)
goes_gives k m it le = (Reading (rank_after it) (add it m) Between, ap (λ (b : Bool). cond b (Some (Reading (rank_after it) (add it m) Between)) None) (le_true k (rank it) le), closed (rank_after it) (add it m))

module _ (m : Module) (h : Head) where
  abbrev inside : ℕ → List Code → Path → Code → State
  inside n cs p c = Reading (head_rank h) m (InExprs h n cs p c)

  to_end : (n : ℕ) (cs : List Code) (p : Path) (c : Code) (t : State) → placed (head_rank h) m (expr_on h n cs (token_step p c tok.End)) ≡ Some t → step (inside n cs p c) end_closer ≡ Some t
  unfolding step next
  to_end n cs p c t e = e

  stays : (n : ℕ) (cs : List Code) (p : Path) (c : Code) → placed (head_rank h) m (Opens (InExprs h n cs p c)) ≡ Some (inside n cs p c)
  stays n cs p c = ap (λ (b : Bool). cond b (Some (inside n cs p c)) None) (le_true (head_rank h) (head_rank h) (omega arith))

  -- an expression, where what follows it can be closed
  path_closable : (n : ℕ) (cs : List Code) → ((d : Code) → Goes (head_rank h) m (exprs_on h n (cs ++ d ∷ []))) → (p : Path) (c : Code) → Closable (inside n cs p c)
  unfolding token_step
  path_closable n cs g Top c = let t = g c in by_line (inside n cs Top c) t.0 end_closer by_end (to_end n cs Top c t.0 t.1) t.2
  path_closable n cs g (InBlock p d kind b) c = by_line (inside n cs (InBlock p d kind b) c) (inside n cs p (after d (Block kind b c Done))) end_closer by_end (to_end n cs (InBlock p d kind b) c (inside n cs p (after d (Block kind b c Done))) (stays n cs p (after d (Block kind b c Done)))) (path_closable n cs g p (after d (Block kind b c Done)))
  path_closable n cs g (InThen p d b) c = by_line (inside n cs (InThen p d b) c) (inside n cs p (after d (If b c Done))) end_closer by_end (to_end n cs (InThen p d b) c (inside n cs p (after d (If b c Done))) (stays n cs p (after d (If b c Done)))) (path_closable n cs g p (after d (If b c Done)))
  path_closable n cs g (InElse p d b x) c = by_line (inside n cs (InElse p d b x) c) (inside n cs p (after d (IfElse b x c Done))) end_closer by_end (to_end n cs (InElse p d b x) c (inside n cs p (after d (IfElse b x c Done))) (stays n cs p (after d (IfElse b x c Done)))) (path_closable n cs g p (after d (IfElse b x c Done)))

  exprs_go : (n : ℕ) (cs : List Code) → Goes (head_rank h) m (exprs_on h n cs)
  exprs_go zero cs = goes_gives (head_rank h) m (item_of h cs) (omega (arith, rank_of_item h cs))
  exprs_go (suc n) cs = (inside n cs Top Done, stays n cs Top Done, path_closable n cs (λ d. exprs_go n (cs ++ d ∷ [])) Top Done)

  exprs_closable : (n : ℕ) (cs : List Code) (p : Path) (c : Code) → Closable (inside n cs p c)
  exprs_closable n cs p c = path_closable n cs (λ d. exprs_go n (cs ++ d ∷ [])) p c

locals_closable : (m : Module) (x : ℕ) (ls : List _) → Closable (Reading 10 m (InLocals x ls))
unfolding step next token_step
locals_closable m x ls = let t = exprs_go m (FunctionHead x ls) 0 (Done ∷ []) in by_line (Reading 10 m (InLocals x ls)) t.0 end_closer by_end t.1 t.2

group_closable : (n : ℕ) (m : Module) (ts : List SubType) → Closable (Reading 0 m (InGroup n ts))
unfolding step next
group_closable zero m ts = let t = goes_gives 0 m (Group (group_of (ts ++ no_params ∷ []))) (omega arith) in by_line (Reading 0 m (InGroup zero ts)) t.0 type_closer by_type t.1 t.2
group_closable (suc n) m ts = by_line (Reading 0 m (InGroup (suc n) ts)) (Reading 0 m (InGroup n (ts ++ no_params ∷ []))) type_closer by_type refl (group_closable n m (ts ++ no_params ∷ []))

-- a state that has reached the place of its item
pub closable : (k : ℕ) (m : Module) (o : Open) → k ≡ open_rank o k → Closable (Reading k m o)
closable k m Between e = closed k m
closable k m (InGroup n ts) e = subst (λ (j : ℕ). Closable (Reading j m (InGroup n ts))) (sym e) (group_closable n m ts)
closable k m (InLocals x ls) e = subst (λ (j : ℕ). Closable (Reading j m (InLocals x ls))) (sym e) (locals_closable m x ls)
closable k m (InExprs h n cs p c) e = subst (λ (j : ℕ). Closable (Reading j m (InExprs h n cs p c))) (sym e) (exprs_closable m h n cs p c)

pub fresh_closable : Closable Fresh
unfolding step
fresh_closable = by_line Fresh (Reading 0 empty_module Between) line.Module by_module refl (closed 0 empty_module)
