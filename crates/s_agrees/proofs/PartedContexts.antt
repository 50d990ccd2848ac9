-- A context that stands for a script's context is cut where the script's is cut, whatever is asked: what is in front of the place that
-- answers, and that place with what is around it.
use Rattle.std.proofs.Common.{◌≡◌, ℕ, List, [], ◌∷◌, ◌++◌, length, Option, Some, None, refl, sym, ap, ◌∙◌, subst}
use Rattle.lists.specs.Rows.{Row, ε}
use Rattle.w_syntax.specs.Code.{Code, Done}
use Rattle.w_syntax.specs.declared.instructions.Clause.{Clause as Answer}
use Rattle.w_reduce.specs.Values.{Val}
use Rattle.w_reduce.specs.Terms.{Handle, Context}
use Rattle.w_reduce.specs.Handlers.{Inner}
use Rattle.s_syntax.specs.declared.name.Name.{Name}
use Rattle.s_syntax.specs.declared.script.Handler.{Handler}
use Rattle.s_syntax.specs.declared.script.Declaration.{Declaration}
use Rattle.s_check.specs.Definitions.{handler_of}
use Rattle.s_code.specs.Layouts.{Layout}
use Rattle.s_code.specs.Handlers.{Placed, labels, return_code}
use Rattle.s_code.specs.Places.{return_layout, placed_clauses}
use Rattle.s_meaning.specs.Terms.{Value, Variable, Work, Place, Activation, Handle as Handled, Group}
use Rattle.s_meaning.specs.Terms as script
use Rattle.s_meaning.specs.Steps.{Cut, cut_at}
use Rattle.s_meaning.proofs.Cuts.{Silent, no_places, silent, cut_is, uncut_is}
use Rattle.s_agrees.proofs.StandsFor.{Locals, Deep, here, label, clause_labels, in_loop, Base, function, clause, group_clauses, Waits, outside, activation, handle, group}
use Rattle.s_agrees.proofs.Contexts.{plugging, works_deep, works_cut, clauses_beyond, base_cut}

-- ## Labels and frames have no clauses

module _ {A : Type 0} (answer : List Answer → Option A) where
  deep_inner : {f : Context} {d : ℕ} {e : Context} → Deep f d e → Inner answer f → Inner answer e
  deep_inner here x = x
  deep_inner (label q) x = deep_inner q x

  clauses_inner : (ds : List Declaration) (ps : List Placed) (e : Context) → Inner answer e → Inner answer (clause_labels ds ps e)
  clauses_inner ds [] e x = x
  clauses_inner ds (q ∷ ps) e x = clauses_inner ds ps e x

  base_inner : {ds : List Declaration} {Γ : Layout} {L : Locals} {below : Row Val} {c : Code} {e : Context} {owner : Option Name} {D0 : ℕ} {f : Context}
      → Base ds Γ L below c e owner D0 f → Inner answer e → Inner answer f
  base_inner (function o) x = x
  base_inner {ds} {L = L} {below = below} {c = c} {e = e} (clause {h = h} {i = i} ps is o few room) x = clauses_inner ds ps (in_loop ds h i L below c e) x

-- ## Questions

-- what is asked of the script's places, and of the clauses of the machine's handles: no activation answers, and where an active handle or
-- a group doesn't answer its clauses don't
pub record Asked {A B : Type 0} (ds : List Declaration) (test : Place → Option A) (answer : List Answer → Option B) : Type 0 where
  pub activations : (vars : List Variable) (owner : Option Name) (work : List Work) → test (Activation vars owner work) ≡ None
  pub handles : (h : Name) (vs : List Value) (i : Handler) → handler_of ds h ≡ Some i → test (Handled h vs) ≡ None → answer (labels ds 0 i.clauses) ≡ None
  pub groups : test Group ≡ None → answer (group_clauses ds) ≡ None

-- a context in two parts
pub record Parts (ds : List Declaration) (ρ : List ℕ) (κ1 : script.Context) (place : Place) (κ2 : script.Context) (ops : Row Val) (c : Code) (e : Context) : Type 0 where
  pub inside : Context
  pub beyond : Context
  pub inner : Waits ds ρ κ1 ops c inside
  -- at the place there are no operands, and no code is left
  pub outer : Waits ds ρ (place ∷ κ2) ε Done beyond
  pub is : e ≡ inside ++ beyond

-- a context in two parts where the script's is cut, the first of which has no answer
pub record CutThere {A B : Type 0} (ds : List Declaration) (ρ : List ℕ) (test : Place → Option A) (answer : List Answer → Option B) (ops : Row Val) (c : Code) (e : Context) (k : Cut A) : Type 0 where
  pub place : Place
  pub answers : test place ≡ Some k.answer
  pub parts : Parts ds ρ k.inner place k.outer ops c e
  pub before : Inner answer parts.inside

module _ {A B : Type 0} {ds : List Declaration} {test : Place → Option A} {answer : List Answer → Option B} (asked : Asked ds test answer) where
  -- where no place of the script answers no handle of the machine does
  inner_of : {ρ : List ℕ} {κ : script.Context} {ops : Row Val} {c : Code} {e : Context} → Silent test κ → Waits ds ρ κ ops c e → Inner answer e
  inner_of no_places outside = tt
  inner_of (silent q s) (activation a w b k) = deep_inner answer (works_deep w).1 (base_inner answer b (inner_of s k))
  inner_of (silent q s) (handle {h = h} {i = i} {L = L} {vs = vs} {below = below} {c = c} {e = e} is room n g k) =
      (asked.handles h vs i is q, clauses_inner answer ds (placed_clauses ds h i) (in_loop ds h i L below c e) (inner_of s k))
  inner_of (silent q s) (group k) = (asked.groups q, inner_of s k)

  parts_of : {ρ : List ℕ} {place : Place} {a : A} {κ2 : script.Context} (κ1 : script.Context) {ops : Row Val} {c : Code} {e : Context} → test place ≡ Some a → Waits ds ρ (κ1 ++ place ∷ κ2) ops c e
      → Parts ds ρ κ1 place κ2 ops c e
  parts_of [] q (activation {vars = vars} {owner = owner} {work = work} a w b k) = absurd (let none = asked.activations vars owner work in cc (none, q))
  parts_of [] q (handle is room n g k) = record { inside = []; beyond = _; inner = outside; outer = handle is room n g k; is = refl }
  parts_of [] q (group k) = record { inside = []; beyond = _; inner = outside; outer = group k; is = refl }
  parts_of (Activation vars owner work ∷ κ1) q (activation a w b k) =
      let r = parts_of κ1 q k in
      let x = base_cut r.inside r.beyond r.is b in
      let y = works_cut x.0 r.beyond x.2 w in
      record { inside = y.0; beyond = r.beyond; inner = activation a y.1 x.1 r.inner; outer = r.outer; is = y.2 }
  parts_of (Handled h vs ∷ κ1) q (handle {i = i} {L = L} {below = below} {c = c} is room n g k) =
      let r = parts_of κ1 q k in
      let front : Context → Context = λ (z : Context). Handle ε (labels ds 0 i.clauses) (return_code ds (return_layout ds h i) (length i.clauses) i) ∷ z in
      record {
        inside = front (clause_labels ds (placed_clauses ds h i) (in_loop ds h i L below c r.inside));
        beyond = r.beyond;
        inner = handle is room n g r.inner;
        outer = r.outer;
        is = ap front
            (ap (λ (z : Context). clause_labels ds (placed_clauses ds h i) (in_loop ds h i L below c z)) r.is
            ∙ sym (clauses_beyond (plugging r.beyond) ds (placed_clauses ds h i) (in_loop ds h i L below c r.inside)));
      }
  parts_of (Group ∷ κ1) q (group {ops = ops} {c = c} k) =
      let r = parts_of κ1 q k in
      record {
        inside = Handle ops (group_clauses ds) c ∷ r.inside;
        beyond = r.beyond;
        inner = group r.inner;
        outer = r.outer;
        is = ap (λ (z : Context). Handle ops (group_clauses ds) c ∷ z) r.is;
      }

  -- the machine's context is cut where the script's is
  pub cut_there : {ρ : List ℕ} {κ : script.Context} {ops : Row Val} {c : Code} {e : Context} → Waits ds ρ κ ops c e → (k : Cut A) → cut_at test κ ≡ Some k → CutThere ds ρ test answer ops c e k
  cut_there {ρ} {κ} {ops} {c} {e} w k q =
      let i = cut_is test κ k q in
      let r = parts_of k.inner i.answers (subst (λ (z : script.Context). Waits ds ρ z ops c e) i.split w) in
      record { place = i.place; answers = i.answers; parts = r; before = inner_of i.before r.inner }

  -- and where that isn't cut no handle answers
  pub uncut_there : {ρ : List ℕ} {κ : script.Context} {ops : Row Val} {c : Code} {e : Context} → Waits ds ρ κ ops c e → cut_at test κ ≡ None → Inner answer e
  uncut_there {κ = κ} w q = inner_of (uncut_is test κ q) w
