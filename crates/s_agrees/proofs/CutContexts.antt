-- A context is cut at the innermost handle with a clause for an effect, where the module's is cut at the innermost handle with a clause for its tag;
-- and at the innermost group, where the module's is cut at the innermost handle that lets coroutines switch.
use Rattle.std.proofs.Common.{◌≡◌, ℕ, zero, suc, ◌+◌, ◌≤◌, Bool, true, false, nat_eq, if◌then◌else◌, List, [], ◌∷◌, ◌++◌, map, length, Option, Some, None, refl, sym, ap, ◌∙◌, subst, arith, eqb-true}
use Rattle.std.proofs.lemmas.Bool.{eq-eqb}
use Rattle.std.specs.Prelude.{slice_get}
use Rattle.std.specs.Str.{bytes_eq}
use Rattle.lists.specs.Rows.{Row, ε}
use Rattle.w_syntax.specs.Code.{Code, Done}
use Rattle.w_reduce.specs.Values.{Val}
use Rattle.w_reduce.specs.Terms.{Handle, Context}
use Rattle.w_reduce.specs.Handlers.{label_clause, has_switch, switch_clause, Inner}
use Rattle.s_syntax.specs.declared.name.Name.{Name}
use Rattle.s_syntax.specs.declared.script.Clause.{Clause}
use Rattle.s_syntax.specs.declared.script.Handler.{Handler}
use Rattle.s_syntax.specs.declared.script.Declaration.{Declaration}
use Rattle.s_syntax.specs.declared.script.Script.{Script}
use Rattle.s_check.specs.Definitions.{handler_of, effect_of}
use Rattle.s_index.specs.Numbers.{tag_index, group_tag_index}
use Rattle.s_code.specs.Handlers.{Placed, labels}
use Rattle.s_code.specs.Places.{clause_names, placed_from, placed_clauses, clauses_place}
use Rattle.s_meaning.specs.Terms.{Value, Place}
use Rattle.s_meaning.specs.Terms as script
use Rattle.s_meaning.specs.Steps.{Cut, cut_at, Found, clause_of, with_clause, with_handler, catches, is_group}
use Rattle.s_meaning.proofs.Scopes.{same_is, same_refl, bool_of}
use Rattle.s_agrees.proofs.StandsFor.{Locals, Held, handler_room, handler_around, group_clauses, Waits, activation, handle, group}
use Rattle.s_agrees.proofs.PartedContexts.{Asked, cut_there, uncut_there}
use Rattle.s_agrees.proofs.Facts.{HandlerFacts, Facts}
use Rattle.s_agrees.proofs.Tags.{tag_apart}
use Rattle.s_agrees.proofs.BoundValues.{some_is}

-- ## Clauses

-- each of these clauses is for an effect that is declared
pub record Declared (ds : List Declaration) (cs : List Clause) : Type 0 where
  pub each : (j : ℕ) (c : Clause) → slice_get cs j ≡ Some c → effect_of ds c.effect ≡ Some (length c.arguments)

-- tags are compared as the effects' names are
tags_compared : (ds : List Declaration) (a b : Name) (n m : ℕ) → effect_of ds a ≡ Some n → effect_of ds b ≡ Some m → nat_eq (tag_index ds a) (tag_index ds b) ≡ bytes_eq a b
tags_compared ds a b n m e f = bool_of (bytes_eq a b) (λ (q : Bool). nat_eq (tag_index ds a) (tag_index ds b) ≡ q)
    (λ q. eq-eqb (tag_index ds a) (tag_index ds b) (ap (λ (x : Name). tag_index ds x) (sym (same_is b a q))))
    (λ q. bool_of (nat_eq (tag_index ds a) (tag_index ds b)) (λ (r : Bool). r ≡ false)
    (λ r. let same : a ≡ b = tag_apart ds a b n m e f (eqb-true (tag_index ds a) (tag_index ds b) r) in
    let yes' : bytes_eq a b ≡ true = ap (λ (x : Name). bytes_eq a x) (sym same) ∙ same_refl a in absurd (cc (sym yes' ∙ q)))
    (λ r. refl))

-- a clause for an effect among others, with the number of its label, where the first one's is l
pub record Picks (ds : List Declaration) (op : Name) (l : ℕ) (cs : List Clause) (c : Clause) : Type 0 where
  pub pre : List Clause
  pub post : List Clause
  pub split : cs ≡ pre ++ c ∷ post
  pub label : label_clause (tag_index ds op) (labels ds l cs) ≡ Some (l + length pre)
  pub effect : c.effect ≡ op

module _ (ds : List Declaration) (op : Name) {k : ℕ} (known : effect_of ds op ≡ Some k) where
  less_declared : (c : Clause) (cs : List Clause) → Declared ds (c ∷ cs) → Declared ds cs
  less_declared c cs d = record { each = λ j x e. d.each (suc j) x e }

  first_compared : (c : Clause) (cs : List Clause) → Declared ds (c ∷ cs) → nat_eq (tag_index ds c.effect) (tag_index ds op) ≡ bytes_eq c.effect op
  first_compared c cs d = tags_compared ds c.effect op (length c.arguments) k (d.each 0 c refl) known

  pub pick : (l : ℕ) (cs : List Clause) (c : Clause) → Declared ds cs → clause_of op cs ≡ Some c → Picks ds op l cs c
  pick l [] c d e = absurd (cc)
  pick l (x ∷ cs) c d e = by (pick (l + 1) cs c (less_declared x cs d)) (bytes_eq x.effect op) refl e
    where
      by : (clause_of op cs ≡ Some c → Picks ds op (l + 1) cs c) → (b : Bool) → bytes_eq x.effect op ≡ b → (if b then Some x else clause_of op cs) ≡ Some c → Picks ds op l (x ∷ cs) c
      by r true q f =
          let same : x ≡ c = some_is f in record {
            pre = [];
            post = cs;
            split = ap (λ (z : Clause). z ∷ cs) same;
            label = ap (λ (b : Bool). if b then Some l else label_clause (tag_index ds op) (labels ds (l + 1) cs)) (first_compared x cs d ∙ q) ∙ ap Some (let n : l ≡ l + 0 = omega arith in n);
            effect = ap (λ (z : Clause). z.effect) (sym same) ∙ sym (same_is op x.effect q);
          }
      by r false q f =
          let y = r f in record {
            pre = x ∷ y.pre;
            post = y.post;
            split = ap (λ (z : List Clause). x ∷ z) y.split;
            label = ap (λ (b : Bool). if b then Some l else label_clause (tag_index ds op) (labels ds (l + 1) cs)) (first_compared x cs d ∙ q) ∙ y.label
                ∙ ap Some (let n : l + 1 + length y.pre ≡ l + suc (length y.pre) = omega arith in n);
            effect = y.effect;
          }

  -- where no clause is for the effect none is for its tag
  pub no_pick : (l : ℕ) (cs : List Clause) → Declared ds cs → clause_of op cs ≡ None → label_clause (tag_index ds op) (labels ds l cs) ≡ None
  no_pick l [] d e = refl
  no_pick l (x ∷ cs) d e = by (no_pick (l + 1) cs (less_declared x cs d)) (bytes_eq x.effect op) refl e
    where
      by : (clause_of op cs ≡ None → label_clause (tag_index ds op) (labels ds (l + 1) cs) ≡ None) → (b : Bool) → bytes_eq x.effect op ≡ b → (if b then Some x else clause_of op cs) ≡ None
          → label_clause (tag_index ds op) (labels ds l (x ∷ cs)) ≡ None
      by r true q f = absurd (cc)
      by r false q f = ap (λ (b : Bool). if b then Some l else label_clause (tag_index ds op) (labels ds (l + 1) cs)) (first_compared x cs d ∙ q) ∙ r f

-- ## Clauses with their layouts

abbrev pub clauses_of : List Placed → List Clause
clauses_of ps = map (λ (q : Placed). q.clause) ps

pub clauses_from : (ds : List Declaration) (h : Name) (i : Handler) (n : ℕ) (cs : List Clause) → clauses_of (placed_from ds h i n cs) ≡ cs
clauses_from ds h i n [] = refl
clauses_from ds h i n (c ∷ cs) = ap (λ (z : List Clause). c ∷ z) (clauses_from ds h i (n + length (clause_names ds h c)) cs)

-- the clauses that are placed are the handler's
pub clauses_placed : (ds : List Declaration) (h : Name) (i : Handler) → clauses_of (placed_clauses ds h i) ≡ i.clauses
clauses_placed ds h i = clauses_from ds h i (clauses_place ds i) i.clauses

-- a clause among those that are placed
pub record PlacedAt (ps : List Placed) (n : ℕ) (c : Clause) : Type 0 where
  pub before : List Placed
  pub placed : Placed
  pub after : List Placed
  pub split : ps ≡ before ++ placed ∷ after
  pub long : length before ≡ n
  pub is : placed.clause ≡ c

one_placed : {ps : List Placed} {n : ℕ} {c : Clause} (q : Placed) → PlacedAt ps n c → PlacedAt (q ∷ ps) (suc n) c
one_placed q r = record { before = q ∷ r.before; placed = r.placed; after = r.after; split = ap (λ (z : List Placed). q ∷ z) r.split; long = ap suc r.long; is = r.is }

pub placed_at : (ps : List Placed) (pre : List Clause) (c : Clause) (post : List Clause) → clauses_of ps ≡ pre ++ c ∷ post → PlacedAt ps (length pre) c
placed_at [] [] c post e = absurd (cc)
placed_at [] (x ∷ pre) c post e = absurd (cc)
placed_at (q ∷ ps) [] c post e = record { before = []; placed = q; after = ps; split = refl; long = refl; is = cc }
placed_at (q ∷ ps) (x ∷ pre) c post e = one_placed q (placed_at ps pre c post (cc))

placed_get : (ps : List Placed) (j : ℕ) (c : Clause) → slice_get (clauses_of ps) j ≡ Some c → (q : Placed) × (slice_get ps j ≡ Some q) × (q.clause ≡ c)
placed_get [] j c e = absurd (cc)
placed_get (q ∷ ps) zero c e = (q, refl, some_is e)
placed_get (q ∷ ps) (suc j) c e = placed_get ps j c e

pub clauses_declared : {ds : List Declaration} {h : Name} {i : Handler} → HandlerFacts ds h i → Declared ds i.clauses
clauses_declared {ds} {h} {i} facts = record {
  each = λ j c e.
      let q = placed_get (placed_clauses ds h i) j c (ap (λ (z : List Clause). slice_get z j) (clauses_placed ds h i) ∙ e) in
      subst (λ (z : Clause). effect_of ds z.effect ≡ Some (length z.arguments)) q.2 (facts.clauses j q.0 q.1).effect;
}

-- ## The cut at a handle

pub record CutAt (ds : List Declaration) (ρ : List ℕ) (ops : Row Val) (c : Code) (e : Context) (op : Name) (κ1 : script.Context) (f : Found) (κ2 : script.Context) : Type 0 where
  pub inside : Context
  pub inner : Waits ds ρ κ1 ops c inside
  pub uncaught : Inner (label_clause (tag_index ds op)) inside
  pub handler : handler_of ds f.h ≡ Some f.handler
  pub clause : clause_of op f.handler.clauses ≡ Some f.clause
  pub locals : Locals
  pub room : handler_room ds f.h f.handler ≤ length locals
  pub as_many : length f.params ≡ length f.handler.parameters
  pub held : Held ρ locals f.params
  pub below : Row Val
  pub code : Code
  pub outside' : Context
  pub outer : Waits ds ρ κ2 below code outside'
  pub is : e ≡ inside ++ handler_around ds f.h f.handler locals below code outside'

-- the handle, and what is around it
abbrev pub tail_of : {ds : List Declaration} {ρ : List ℕ} {ops : Row Val} {c : Code} {e : Context} {op : Name} {κ1 : script.Context} {f : Found} {κ2 : script.Context} → CutAt ds ρ ops c e op κ1 f κ2 → Context
tail_of {ds} {f = f} r = handler_around ds f.h f.handler r.locals r.below r.code r.outside'

module _ {p : Script} (facts : Facts p.declarations) (op : Name) {k : ℕ} (known : effect_of p.declarations op ≡ Some k) where
  no_clause : (h : Name) (vs : List Value) (i : Handler) (o : Option Clause) → clause_of op i.clauses ≡ o → with_clause h vs i o ≡ None → clause_of op i.clauses ≡ None
  no_clause h vs i None q e = q
  no_clause h vs i (Some x) q e = absurd (cc e)

  -- where a handle doesn't catch an effect its clauses don't answer to the effect's tag
  asked : Asked p.declarations (catches p op) (label_clause (tag_index p.declarations op))
  asked = record {
    activations = λ vars owner work. refl;
    handles = λ h vs i is e. no_pick p.declarations op known 0 i.clauses (clauses_declared (facts.handlers h i is))
        (no_clause h vs i (clause_of op i.clauses) refl (ap (λ (o : Option Handler). with_handler op h vs o) (sym is) ∙ e));
    groups = λ e. refl;
  }

  module _ {ρ : List ℕ} {κ1 κ2 : script.Context} {ops : Row Val} {c : Code} {e : Context} (inside : Context) (inner : Waits p.declarations ρ κ1 ops c inside)
      (uncaught : Inner (label_clause (tag_index p.declarations op)) inside) where
    clause_caught : (h : Name) {i : Handler} {L : Locals} {vs : List Value} {below : Row Val} {c' : Code} {e' : Context} → handler_of p.declarations h ≡ Some i → handler_room p.declarations h i ≤ length L
        → length vs ≡ length i.parameters → Held ρ L vs → Waits p.declarations ρ κ2 below c' e' → e ≡ inside ++ handler_around p.declarations h i L below c' e'
        → (f : Found) (o : Option Clause) → clause_of op i.clauses ≡ o → with_clause h vs i o ≡ Some f → CutAt p.declarations ρ ops c e op κ1 f κ2
    clause_caught h there room n g w is f None q r = absurd (cc r)
    clause_caught h {L = L} {below = below} {c' = c'} {e' = e'} there room n g w is f (Some x) q r =
        subst (λ (z : Found). CutAt p.declarations ρ ops c e op κ1 z κ2) (some_is r) (record {
          inside = inside;
          inner = inner;
          uncaught = uncaught;
          handler = there;
          clause = q;
          locals = L;
          room = room;
          as_many = n;
          held = g;
          below = below;
          code = c';
          outside' = e';
          outer = w;
          is = is;
        })

    -- a place that catches the effect is a handle with a clause for it
    place_caught : {place : Place} {beyond : Context} (f : Found) → catches p op place ≡ Some f → Waits p.declarations ρ (place ∷ κ2) ε Done beyond → e ≡ inside ++ beyond → CutAt p.declarations ρ ops c e op κ1 f κ2
    place_caught f q (activation a w b k) is = absurd (cc q)
    place_caught f q (group k) is = absurd (cc q)
    place_caught f q (handle {h = h} {i = i} {vs = vs} there room n g k) is =
        clause_caught h there room n g k is f (clause_of op i.clauses) refl (ap (λ (o : Option Handler). with_handler op h vs o) (sym there) ∙ q)

  -- at the innermost handle with a clause for the effect
  pub cut : {ρ : List ℕ} {κ : script.Context} {ops : Row Val} {c : Code} {e : Context} → Waits p.declarations ρ κ ops c e → (x : Cut Found) → cut_at (catches p op) κ ≡ Some x
      → CutAt p.declarations ρ ops c e op x.inner x.answer x.outer
  cut w x q =
      let r = cut_there asked w x q in
      place_caught r.parts.inside r.parts.inner r.before x.answer r.answers r.parts.outer r.parts.is

  -- where none has a clause for the effect none has one for its tag
  pub uncut : {ρ : List ℕ} {κ : script.Context} {ops : Row Val} {c : Code} {e : Context} → Waits p.declarations ρ κ ops c e → cut_at (catches p op) κ ≡ None → Inner (label_clause (tag_index p.declarations op)) e
  uncut w q = uncut_there asked w q

-- ## The cut at a group

pub record GroupAt (ds : List Declaration) (ρ : List ℕ) (ops : Row Val) (c : Code) (e : Context) (κ1 κ2 : script.Context) : Type 0 where
  pub inside : Context
  pub inner : Waits ds ρ κ1 ops c inside
  pub uncaught : Inner (switch_clause (group_tag_index ds)) inside
  pub below : Row Val
  pub code : Code
  pub outside' : Context
  pub outer : Waits ds ρ κ2 below code outside'
  pub is : e ≡ inside ++ Handle below (group_clauses ds) code ∷ outside'

-- the clauses of a handler don't let coroutines switch
no_switch : (ds : List Declaration) (g l : ℕ) (cs : List Clause) → has_switch g (labels ds l cs) ≡ false
no_switch ds g l [] = refl
no_switch ds g l (c ∷ cs) = no_switch ds g (l + 1) cs

-- those of a group do
pub group_switches : (ds : List Declaration) → switch_clause (group_tag_index ds) (group_clauses ds) ≡ Some tt
group_switches ds = ap (λ (b : Bool). if (if b then true else false) then Some tt else None) (eq-eqb (group_tag_index ds) (group_tag_index ds) refl)

module _ (ds : List Declaration) where
  -- only groups answer a switch
  group_asked : Asked ds is_group (switch_clause (group_tag_index ds))
  group_asked = record {
    activations = λ vars owner work. refl;
    handles = λ h vs i is e. ap (λ (b : Bool). if b then Some tt else None) (no_switch ds (group_tag_index ds) 0 i.clauses);
    groups = λ e. absurd (cc e);
  }

  place_grouped : {ρ : List ℕ} {κ1 κ2 : script.Context} {ops : Row Val} {c : Code} {e inside beyond : Context} {place : Place} → is_group place ≡ Some tt → Waits ds ρ κ1 ops c inside
      → Inner (switch_clause (group_tag_index ds)) inside → Waits ds ρ (place ∷ κ2) ε Done beyond → e ≡ inside ++ beyond → GroupAt ds ρ ops c e κ1 κ2
  place_grouped q inner uncaught (activation a w b k) is = absurd (cc q)
  place_grouped q inner uncaught (handle there room n g k) is = absurd (cc q)
  place_grouped {inside = inside} q inner uncaught (group {ops = below} {c = code} {e = e'} k) is =
      record { inside = inside; inner = inner; uncaught = uncaught; below = below; code = code; outside' = e'; outer = k; is = is }

  -- at the innermost group
  pub group_cut : {ρ : List ℕ} {κ : script.Context} {ops : Row Val} {c : Code} {e : Context} → Waits ds ρ κ ops c e → (x : Cut (Unit {0})) → cut_at is_group κ ≡ Some x
      → GroupAt ds ρ ops c e x.inner x.outer
  group_cut w x q =
      let r = cut_there group_asked w x q in
      place_grouped r.answers r.parts.inner r.before r.parts.outer r.parts.is

  -- where there is none no handle lets coroutines switch
  pub group_uncut : {ρ : List ℕ} {κ : script.Context} {ops : Row Val} {c : Code} {e : Context} → Waits ds ρ κ ops c e → cut_at is_group κ ≡ None → Inner (switch_clause (group_tag_index ds)) e
  group_uncut w q = uncut_there group_asked w q
