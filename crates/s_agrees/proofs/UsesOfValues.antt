-- What a statement does with the value of its expression, fail, and the end of a body are matched.
use Rattle.std.proofs.Common.{◌≡◌, ℕ, ◌+◌, ◌≤◌, Bool, true, false, not, nat_eq, ℤ, pos, List, [], ◌∷◌, Option, Some, if◌then◌else◌, refl, sym, ap, ◌∙◌, subst, arith}
use Rattle.std.specs.Prelude.{slice_get}
use Rattle.following.specs.Steps.{Faults}
use Rattle.w_num.specs.Comparisons as bit
use Rattle.lists.specs.Rows.{Row, ε, ◌▹◌}
use Rattle.w_tables.specs.declared.entries.FuncEntry.{FuncEntry}
use Rattle.w_syntax.specs.Code.{Code, Done, Plain, IfElse, after}
use Rattle.w_syntax.specs.declared.instructions.BlockType.TheVariants as block_type
use Rattle.w_reduce.specs.Branches.{returns as returns_from}
use Rattle.w_reduce.specs.Calls.{invoked}
use Rattle.w_reduce.specs.Values.{Val, I32, I64}
use Rattle.w_reduce.specs.Store.{Store}
use Rattle.w_reduce.specs.Terms.{rest_of, Label, Context, Term, with_local}
use Rattle.w_reduce.specs.Program.{Program}
use Rattle.w_reduce.specs.Reduced.{Went, steps_to, or_stuck}
use Rattle.s_syntax.specs.declared.name.Name.{Name}
use Rattle.s_syntax.specs.declared.script.VariableType.TheVariants.{Int, Resumption}
use Rattle.s_syntax.specs.declared.script.Declaration.{Declaration}
use Rattle.s_syntax.specs.declared.script.Script.{Script}
use Rattle.s_syntax.specs.ExprTree.{ExprTree}
use Rattle.s_check.specs.Scopes.{Scope}
use Rattle.s_syntax.specs.BlockTree.{BlockTree, While, ◌⨟◌}
use Rattle.s_code.specs.Handlers.{Placed}
use Rattle.s_code.specs.Instructions.{is_zero, call, local_set, unreachable, branch, branch_if, leave, if_zero}
use Rattle.s_code.specs.Layouts.{Layout, local_number, number_in}
use Rattle.s_code.specs.Statements.{printer, block, ending}
use Rattle.s_meaning.specs.Numbers.{Failed, holds, line}
use Rattle.s_meaning.specs.Terms as script
use Rattle.s_meaning.specs.Terms.{Value, Number, Variable, Use, ToStore, ToPrint, Runs}
use Rattle.s_meaning.specs.Steps.{Around, ◌⨟⨟◌, goes_on, leaves, uses}
use Rattle.s_meaning.specs.Typed as typed
use Rattle.s_meaning.specs.Typed.{World, Covers, UseTyped, StoreTyped}
use Rattle.s_valid.proofs.LayoutTypes.{Placed as HasLocal}
use Rattle.s_valid.proofs.Starts.{printer_first}
use Rattle.s_agrees.proofs.StandsFor as standing
use Rattle.s_agrees.proofs.StandsFor.{config, Same, number, Locals, Active, WellExpr, WellBlock, Deep, here, label, while_loop, Rest, clause_labels, in_loop, Base, function, clause, Waits, outside, activation, handle, group, gives, runs, Stores}
use Rattle.s_agrees.proofs.Contexts.{setting, rest_beyond, deep_locals, rest_deep, base_locals, base_set}
use Rattle.s_agrees.proofs.CountedContexts.{weight, labels_set, deep_labels, base_labels}
use Rattle.s_agrees.proofs.Paths.{program_of, step, Caps, Under, Path, stay, go, path_wider, set_step}
use Rattle.s_agrees.proofs.Matches as matching
use Rattle.s_agrees.proofs.Matches.{caps_of, Matches, went, faulted, under_first, under_last}
use Rattle.s_agrees.proofs.Numbers.{zero_signed, signed_cast}
use Rattle.s_agrees.proofs.Facts.{Facts}
use Rattle.s_agrees.proofs.StepsInPlace.{zero_test, one_step}
use Rattle.s_agrees.proofs.Bodies.{rest_block}
use Rattle.s_agrees.proofs.NamesSet.{local_below, active_with}
use Rattle.s_agrees.proofs.UsesOfSlots.{referred, continued, put_matched, take_matched}
use Rattle.s_agrees.proofs.SwitchSteps.{switch_uses}
use Rattle.s_agrees.proofs.Captures.{in_range}

-- ## Returns

-- a return goes past labels
returns_deep : (s : Store) (vs : Row Val) {f : Context} {d : ℕ} {e : Context} → Deep f d e → returns_from s e vs ≡ returns_from s f vs
returns_deep s vs here = refl
returns_deep s vs (label q) = returns_deep s vs q

returns_clauses : (s : Store) (vs : Row Val) (ds : List Declaration) (ps : List Placed) (e : Context) → returns_from s (clause_labels ds ps e) vs ≡ returns_from s e vs
returns_clauses s vs ds [] e = refl
returns_clauses s vs ds (p ∷ ps) e = returns_clauses s vs ds ps e

-- and out of the frame
returns_base : {ds : List Declaration} {Γ : Layout} {L : Locals} {below : Row Val} {c : Code} {e : Context} {owner : Option Name} {D0 : ℕ} {f : Context} (s : Store) (ops : Row Val) (w : Val)
    → Base ds Γ L below c e owner D0 f → returns_from s f (ops ▹ w) ≡ Went [] s (config e (below ▹ w) c)
returns_base s ops w (function o) = refl
returns_base {ds} {L = L} {below = below} {c = c} {e = e} s ops w (clause {h = h} {i = i} ps is o few room) = returns_clauses s (ops ▹ w) ds ps (in_loop ds h i L below c e)

-- a return, from labels on the frame
return_step : {ds : List Declaration} {Γ : Layout} {L : Locals} {below : Row Val} {c' : Code} {e' : Context} {owner : Option Name} {d D0 : ℕ} {f e : Context} (P : Program) (s : Store) (ops : Row Val) (w : Val) (c : Code)
    → Deep f d e → Base ds Γ L below c' e' owner D0 f → step P s (config e (ops ▹ w) (Plain leave c)) ≡ Went [] s (config e' (below ▹ w) c')
return_step P s ops w c d b = returns_deep s (ops ▹ w) d ∙ returns_base s ops w b

-- the value of an activation that ended, in what is around it
pub left_with : {p : Script} {matches : ℕ → ℕ → Bool} {ρ : List ℕ} {σ : script.Store} {s : Store} {κ : script.Context} {below : Row Val} {c' : Code} {e' : Context} {z : ℤ} {a : Val} {n : ℕ} {t : Term}
    → Stores p.declarations ρ σ s → Waits p.declarations ρ κ below c' e' → Same ρ (Number z) a
    → Path (program_of p matches) (caps_of s t (config e' (below ▹ a) c')) n s t s (config e' (below ▹ a) c') → 1 ≤ n → n + weight s (config e' (below ▹ a) c') ≤ 52 + weight s t
    → Matches p matches 52 s t (leaves σ κ (Number z))
left_with stores outside (number {n = n} h e) path m b = matching.Matches.returns (path_wider (omega arith) (omega arith) (omega arith) path) m refl (sym (signed_cast n h) ∙ e) (omega (arith, b))
left_with stores (activation a w k u) v path m b = went path m b (record { stands = gives v (activation a w k u); stores = stores })
left_with stores (handle is room n g u) v path m b = went path m b (record { stands = gives v (handle is room n g u); stores = stores })
left_with stores (group u) v path m b = went path m b (record { stands = gives v (group u); stores = stores })

-- ## The test for 0

-- it, and entering one of two pieces of code that leave nothing
branch_path : {P : Program} {k : Caps} {s : Store} {e : Context} (n : ℕ) (x y c : Code) (t : Bool) → nat_eq n 0 ≡ t → Under k s e
    → Path P k 2 s (config e (ε ▹ I64 n) (if_zero x y c)) s (config (Label ε 0 Done c ∷ e) ε (if t then x else y))
branch_path {s = s} {e = e} n x y c true q u =
    go (ap (λ (t : Bool). steps_to s e (ε ▹ I32 (bit.truth t)) (rest_of (IfElse block_type.Empty x y c))) q) u (go refl (record { frames = u.frames; handles = u.handles; conts = u.conts }) stay)
branch_path {s = s} {e = e} n x y c false q u =
    go (ap (λ (t : Bool). steps_to s e (ε ▹ I32 (bit.truth t)) (rest_of (IfElse block_type.Empty x y c))) q) u (go refl (record { frames = u.frames; handles = u.handles; conts = u.conts }) stay)

-- the test alone
zero_step : (P : Program) (s : Store) (e : Context) (n : ℕ) (c : Code) (t : Bool) → nat_eq n 0 ≡ t → step P s (config e (ε ▹ I64 n) (Plain is_zero c)) ≡ Went [] s (config e (ε ▹ I32 (bit.truth t)) c)
zero_step P s e n c t q = ap (λ (t : Bool). steps_to s e (ε ▹ I32 (bit.truth t)) (rest_of c)) q

-- out of a loop and its block
out_step : (P : Program) (s : Store) (e : Context) (again rest : Code) (c : Code) → step P s (config (Label ε 0 again Done ∷ Label ε 0 Done c ∷ e) (ε ▹ I32 1) (Plain (branch_if 1) rest)) ≡ Went [] s (config e ε c)
unfolding after
out_step P s e again rest c = refl

-- ## The steps

module _ {p : Script} (matches : ℕ → ℕ → Bool) (facts : Facts p.declarations) {ρ : List ℕ} {σ : script.Store} {s : Store} (stores : Stores p.declarations ρ σ s) {Γ : Layout} {n D0 : ℕ} {L : Locals} {vars : List Variable} {owner : Option Name} {κ : script.Context} {below : Row Val} {c' : Code} {e' f : Context}
    (active : Active ρ Γ n L vars) (base : Base p.declarations Γ L below c' e' owner D0 f) (waits : Waits p.declarations ρ κ below c' e') where
  -- the activation, with no pending work
  abbrev place : Around
  place = record { store = σ; variables = vars; owner = owner; work = []; outer = κ }

  -- let x = z; and x = z;
  sim_store : {D : ℕ} {x : Name} {z : ℤ} {a : Val} {b : BlockTree} {c : Code} {e : Context} → Same ρ (Number z) a → HasLocal Γ x Int → Rest p.declarations Γ n D0 f D b c e
      → Matches p matches 52 s (config e (ε ▹ a) (Plain (local_set (local_number Γ x)) c)) (uses p place (ToStore x) (Number z) b)
  sim_store {x = x} {z = z} {a = a} {b = b} {c = c} {e = e} v h r =
      let y = h.local.number in
      let old = in_range L y (local_below x Int (Number z) h v active) in
      let locals = deep_locals (rest_deep r).deep ∙ base_locals base in
      let l = labels_set y a e in
      subst (λ (j : ℕ). Matches p matches 52 s (config e (ε ▹ a) (Plain (local_set j) c)) (uses p place (ToStore x) (Number z) b)) (sym (ap number_in h.is))
      (went (go (set_step (program_of p matches) s e ε a c y old.0 (ap (λ (w : Locals). slice_get w y) locals ∙ old.1))
      (under_last s s (config e (ε ▹ a) (Plain (local_set y) c)) (config (with_local y a e) ε c) (omega arith)) stay) (omega arith) (omega (arith, l))
      (record { stands = runs (active_with x Int (Number z) h v active) (rest_beyond (setting y a) r) (base_set y a base) waits; stores = stores }))

  -- print z;
  sim_print : {D : ℕ} {z : ℤ} {a : Val} {b : BlockTree} {c : Code} {e : Context} → Same ρ (Number z) a → Rest p.declarations Γ n D0 f D b c e
      → Matches p matches 52 s (config e (ε ▹ a) (Plain (call printer) c)) (uses p place ToPrint (Number z) b)
  sim_print {b = b} {c = c} {e = e} (number {n = m} h q) r =
      let t : Term = config e (ε ▹ I64 m) (Plain (call printer) c) in
      matching.Matches.prints stay
      (ap (λ (o : Option FuncEntry). or_stuck o (λ (g : FuncEntry). invoked (program_of p matches) s e (ε ▹ I64 m) g (rest_of c)))
      (ap (λ (l : List FuncEntry). slice_get l 0) stores.functions ∙ printer_first p.declarations)
      ∙ ap (λ (y : ℤ). Went (line y) s (config e ε c)) q)
      (under_first s t t) (omega arith) (record { stands = runs active r base waits; stores = stores })

  -- if z { x } else { y }, where t tells whether z holds
  sim_choose : {D m : ℕ} {b : BlockTree} {c : Code} {e : Context} (x y : BlockTree) (t : Bool) → nat_eq m 0 ≡ not t
      → WellBlock p.declarations Γ n x → WellBlock p.declarations Γ n y → Rest p.declarations Γ n D0 f D b c e
      → Matches p matches 52 s (config e (ε ▹ I64 m) (if_zero (block p.declarations Γ (D + 1) y Done) (block p.declarations Γ (D + 1) x Done) c)) (goes_on place (Runs ((if t then x else y) ⨟⨟ b)))
  sim_choose {D} {m} {b} {c} {e} x y true q v w r =
      let u : Term = config e (ε ▹ I64 m) (if_zero (block p.declarations Γ (D + 1) y Done) (block p.declarations Γ (D + 1) x Done) c) in
      let u' : Term = config (Label ε 0 Done c ∷ e) ε (block p.declarations Γ (D + 1) x Done) in
      went (branch_path m (block p.declarations Γ (D + 1) y Done) (block p.declarations Γ (D + 1) x Done) c false q (under_first s u u')) (omega arith) (omega arith)
      (record { stands = runs active (rest_block v (standing.Rest.leaves r)) base waits; stores = stores })
  sim_choose {D} {m} {b} {c} {e} x y false q v w r =
      let u : Term = config e (ε ▹ I64 m) (if_zero (block p.declarations Γ (D + 1) y Done) (block p.declarations Γ (D + 1) x Done) c) in
      let u' : Term = config (Label ε 0 Done c ∷ e) ε (block p.declarations Γ (D + 1) y Done) in
      went (branch_path m (block p.declarations Γ (D + 1) y Done) (block p.declarations Γ (D + 1) x Done) c true q (under_first s u u')) (omega arith) (omega arith)
      (record { stands = runs active (rest_block w (standing.Rest.leaves r)) base waits; stores = stores })

  -- while z { y }, whose condition is x
  sim_turn : {D m : ℕ} {b : BlockTree} {c : Code} {e : Context} (x : ExprTree) (y : BlockTree) (t : Bool) → nat_eq m 0 ≡ not t
      → WellExpr p.declarations n 0 x → WellBlock p.declarations Γ n y → Rest p.declarations Γ n D0 f D b c e
      → Matches p matches 52 s (config (Label ε 0 (while_loop p.declarations Γ D x y) Done ∷ Label ε 0 Done c ∷ e) (ε ▹ I64 m) (Plain is_zero (Plain (branch_if 1) (block p.declarations Γ (D + 2) y (Plain (branch 0) Done)))))
      (goes_on place (Runs (if t then y ⨟⨟ While x y ⨟ b else b)))
  sim_turn {D} {m} {b} {c} {e} x y true q v w r =
      let e1 : Context = Label ε 0 (while_loop p.declarations Γ D x y) Done ∷ Label ε 0 Done c ∷ e in
      let body : Code = block p.declarations Γ (D + 2) y (Plain (branch 0) Done) in
      let u : Term = config e1 (ε ▹ I64 m) (Plain is_zero (Plain (branch_if 1) body)) in
      let under = under_first s u (config e1 ε body) in
      went (go (zero_step (program_of p matches) s e1 m (Plain (branch_if 1) body) false q) under (go refl under stay)) (omega arith) (omega arith)
      (record { stands = runs active (rest_block w (standing.Rest.turns v w r)) base waits; stores = stores })
  sim_turn {D} {m} {b} {c} {e} x y false q v w r =
      let e1 : Context = Label ε 0 (while_loop p.declarations Γ D x y) Done ∷ Label ε 0 Done c ∷ e in
      let body : Code = block p.declarations Γ (D + 2) y (Plain (branch 0) Done) in
      let u : Term = config e1 (ε ▹ I64 m) (Plain is_zero (Plain (branch_if 1) body)) in
      went (go (zero_step (program_of p matches) s e1 m (Plain (branch_if 1) body) true q) (under_first s u (config e ε c))
      (go (out_step (program_of p matches) s e (while_loop p.declarations Γ D x y) body c) (under_last s s u (config e ε c) (omega arith)) stay)) (omega arith) (omega arith)
      (record { stands = runs active r base waits; stores = stores })

  -- return z;
  sim_leave : {d : ℕ} {z : ℤ} {a : Val} {c : Code} {e : Context} → Same ρ (Number z) a → Deep f d e
      → Matches p matches 52 s (config e (ε ▹ a) (Plain leave c)) (leaves σ κ (Number z))
  sim_leave {a = a} {c = c} {e = e} v d =
      let x = deep_labels d in let y = base_labels base in
      left_with stores waits v
      (go (return_step (program_of p matches) s ε a c d base) (under_last s s (config e (ε ▹ a) (Plain leave c)) (config e' (below ▹ a) c') (omega arith)) stay) (omega arith) (omega (arith, x, y))

  -- a statement has its value
  pub sim_use : {Ξ : World} {scope scope' : Scope} {u : Use} {z : ℤ} {a : Val} {b : BlockTree} {c : Code} {e : Context} → Same ρ (Number z) a → standing.Uses p.declarations Γ n D0 f u b c e → StoreTyped p Ξ σ → Covers Ξ scope vars → UseTyped p scope u scope'
      → Matches p matches 52 s (config e (ε ▹ a) c) (uses p (record { store = σ; variables = vars; owner = owner; work = []; outer = κ }) u (Number z) b)
  sim_use v (standing.Uses.sets h r) store covers t = sim_store v h r
  sim_use v (standing.Uses.prints r) store covers t = sim_print v r
  sim_use v (standing.Uses.drops r) store covers t = one_step refl (record { stands = runs active r base waits; stores = stores })
  sim_use v (standing.Uses.returns d) store covers t = sim_leave v d
  sim_use {z = z} (number {n = m} h q) (standing.Uses.chooses {x = x} {y = y} v w r) store covers t = sim_choose x y (holds z) (zero_test m h q) v w r
  sim_use {z = z} (number {n = m} h q) (standing.Uses.turns {x = x} {b = y} v w r) store covers t = sim_turn x y (holds z) (zero_test m h q) v w r
  sim_use {z = z} (number {n = m} h q) (standing.Uses.puts {s = x} {k = k} {d = d} is local free r) store covers (typed.UseTyped.puts {d = d'} there named) =
      let v = covers.covers k (Resumption d'.handler) named in
      let to = referred v.has in
      let held = active.holds.each k v.variable v.there in
      let at = continued (subst (λ (w : Value). Same ρ w held.held.value) to.is held.held.same) in
      let one : local.local.number ≡ held.local.number = ap number_in (sym local.is ∙ held.is) in
      put_matched matches facts stores active base waits x k d is local free z m h q r v.variable to.address at.continuation v.there to.is at.there
      (ap (λ (j : ℕ). slice_get L j) one ∙ held.held.is ∙ ap (λ (w : Val). Some (Some w)) at.is)
  sim_use {z = z} (number {n = m} h q) (standing.Uses.takes {s = x} {k = k} {d = d} is local free r) store covers t = take_matched matches facts stores active base waits x k d is local free z m h q r
  sim_use v (standing.Uses.switches {x = x} {u = u} {k = k} hx hu hk r) store covers (typed.UseTyped.switching named) = switch_uses matches facts stores active base waits x u k store covers named v hx hu hk r

  -- fail
  pub sim_fail : {d : ℕ} {c : Code} {e : Context} → Deep f d e → Matches p matches 52 s (config e ε (Plain unreachable c)) (Faults Failed)
  sim_fail d = faulted stay refl refl (omega arith)

  -- a body that runs to its end
  pub sim_end : Matches p matches 52 s (config f ε ending) (leaves σ κ (Number (pos 0)))
  sim_end =
      let y = base_labels base in
      left_with stores waits (number (omega arith) zero_signed)
      (go refl (under_first s (config f ε ending) (config e' (below ▹ I64 0) c'))
      (go (return_step (program_of p matches) s ε (I64 0) Done here base) (under_last s s (config f ε ending) (config e' (below ▹ I64 0) c') (omega arith)) stay)) (omega arith) (omega (arith, y))
