-- What is fixed in a script holds in each script that breaks no rule.
use Rattle.std.proofs.Common.{◌≡◌, ℕ, zero, suc, ◌+◌, ◌<◌, ◌≤◌, max, List, [], ◌∷◌, ◌++◌, map, length, Some, slice_get, if◌then◌else◌, refl, sym, ap, ◌∙◌, subst, arith, append_assoc, length-append}
use Rattle.std.specs.Str.{bytes_eq}
use Rattle.lists.proofs.Lists.{get-behind}
use Rattle.s_syntax.specs.declared.name.Name.{Name}
use Rattle.s_syntax.specs.declared.script.Function.{Function}
use Rattle.s_syntax.specs.declared.script.Clause.{Clause}
use Rattle.s_syntax.specs.declared.script.Handler.{Handler}
use Rattle.s_syntax.specs.declared.script.Slots.{Slots}
use Rattle.s_syntax.specs.declared.script.Definition.{Definition}
use Rattle.s_syntax.specs.declared.script.Definition.TheVariants as definition
use Rattle.s_syntax.specs.declared.script.Declaration.{Declaration}
use Rattle.s_syntax.specs.declared.script.Script.{Script}
use Rattle.s_syntax.specs.BlockTree.{BlockTree}
use Rattle.s_check.specs.Definitions.{definition_of, function_of, handler_of, slots_of}
use Rattle.s_check.specs.Refusal.{Good}
use Rattle.s_check.specs.Rules.{in_body}
use Rattle.s_check.specs.Scopes.{Bound, number as number_name, parameter, resumption}
use Rattle.s_index.specs.Handled.{handled_in_block, handled_in_clauses, handled_in_definition, handled_names}
use Rattle.s_code.specs.Handlers.{Placed}
use Rattle.s_code.specs.Layouts.{Local, Layout, numbered}
use Rattle.s_code.specs.Places.{binds_in, function_layout, return_names, clause_names, clauses_names, return_place, clauses_place, handler_temporaries, layout_at, placed_from, placed_clauses, high_clauses}
use Rattle.s_code.specs.Temporaries.{high_block}
use Rattle.s_meaning.specs.Typing.{BlockTyped}
use Rattle.s_meaning.proofs.BoundInTurn.{among_left, among_right}
use Rattle.s_meaning.proofs.Good.{is_function, is_slots, good_typed}
use Rattle.s_meaning.proofs.Scopes.{bool_of}
use Rattle.s_valid.proofs.Declarations.{declares, IsSmall, small}
use Rattle.s_valid.proofs.GoodHandlers.{good_handler}
use Rattle.s_valid.proofs.LayoutTypes.{AllHandled, handled_left, handled_right, LetsPlaced}
use Rattle.s_valid.proofs.TypedBodies.{handler_handled}
use Rattle.s_valid.proofs.TypedHandlers.{HandlerTyped}
use Rattle.s_agrees.proofs.StandsFor.{Fine, WellBlock, handler_high}
use Rattle.s_agrees.proofs.Facts.{Parameters, FunctionFacts, ClauseFacts, ReturnFacts, HandlerFacts, Facts}
use Rattle.s_agrees.proofs.Unbroken.{function_keeps, HandlerKeeps, handler_keeps, effect_few}
use Rattle.s_agrees.proofs.Distinct.{Once, body_once}
use Rattle.s_agrees.proofs.LayoutFacts.{numbered_appended, Located, located_first, located_second, located_left, located_right, located_at, parameters_located, names_located, scope_located, lets_located, scope_appended, fine_of_two}
use Rattle.s_agrees.proofs.Rooms.{many_parameters, function_room, handler_room_is}
use Rattle.s_agrees.proofs.WellBodies.{ScopePlaced, well_block}

-- ## Functions

-- what a definition handles is handled
defined_handled : (ds : List Declaration) (x : Name) (d : Definition) → definition_of ds x ≡ Some d → AllHandled ds (handled_in_definition d)
defined_handled [] x d e = absurd (cc)
defined_handled (c ∷ ds) x d e =
    bool_of (bytes_eq c.name x) (λ q. (if q then Some c.definition else definition_of ds x) ≡ Some d → AllHandled (c ∷ ds) (handled_in_definition d))
    (λ q g. let same : c.definition ≡ d = cc in
    subst (λ (b : Definition). AllHandled (c ∷ ds) (handled_in_definition b)) same
    (record { handled = λ f h. among_left f (handled_in_definition c.definition) (handled_names ds) h }))
    (λ q g. let later = defined_handled ds x d g in record { handled = λ f h. among_right f (handled_in_definition c.definition) (handled_names ds) (later.handled f h) })
    e

-- and so is what the body of a function handles
function_handled : (ds : List Declaration) (f : Name) (g : Function) → function_of ds f ≡ Some g → AllHandled ds (handled_in_block g.body)
function_handled ds f g e = defined_handled ds f (definition.Function g) (is_function (definition_of ds f) g e)

module _ (p : Script) (good : Good p) where
  -- a function's names are its parameters and, behind them, its lets
  function_facts : (f : Name) (g : Function) → function_of p.declarations f ≡ Some g → FunctionFacts p.declarations g
  function_facts f g is =
      let ps = map parameter g.parameters in let bs = binds_in p.declarations g.body in let n = 0 + length ps in
      let typed = good_typed p good in
      let keeps = function_keeps p good f g is in
      let once : Once (ps ++ bs) = body_once p.declarations ps g.body keeps.body in
      let one : numbered 0 (ps ++ bs) ≡ numbered 0 ps ++ numbered n bs = numbered_appended 0 ps bs in
      let front : Located (function_layout p.declarations g).names 0 ps = subst (λ (ls : List Local). Located ls 0 ps) (sym one) (located_first n ps bs once) in
      let behind : Located (function_layout p.declarations g).names n bs = subst (λ (ls : List Local). Located ls n bs) (sym one) (located_second n ps bs once) in
      let names : ScopePlaced (function_layout p.declarations g) ps = scope_located ps front in
      let lets : LetsPlaced (function_layout p.declarations g) bs = lets_located bs behind in
      let many = length-append ps bs in
      record {
        fine = fine_of_two (function_layout p.declarations g) ps bs n one (omega arith) (omega (arith, many));
        parameters = parameters_located g.parameters front;
        well = well_block {p = p} g.body (typed.functions f g is) names lets (omega arith) (function_handled p.declarations f g is);
        room = function_room p.declarations g;
        few = keeps.few;
      }

-- ## Clauses

-- of clauses, each one's body takes no more temporaries than all
clause_high : (cs : List Clause) (j : ℕ) (c : Clause) → slice_get cs j ≡ Some c → high_block c.body ≤ high_clauses cs
clause_high [] j c e = absurd (cc)
clause_high (d ∷ cs) zero c e =
    let same : d ≡ c = cc in subst (λ (x : Clause). high_block x.body ≤ high_clauses (d ∷ cs)) same (let z : high_block d.body ≤ max (high_block d.body) (high_clauses cs) = omega arith in z)
clause_high (d ∷ cs) (suc j) c e = let h = clause_high cs j c e in omega (arith, h)

-- what it handles is handled where what all of them handle is
clause_handled : (ds : List Declaration) (cs : List Clause) (j : ℕ) (c : Clause) → AllHandled ds (handled_in_clauses cs) → slice_get cs j ≡ Some c → AllHandled ds (handled_in_block c.body)
clause_handled ds [] j c a e = absurd (cc)
clause_handled ds (d ∷ cs) zero c a e =
    let same : d ≡ c = cc in subst (λ (x : Clause). AllHandled ds (handled_in_block x.body)) same (handled_left (handled_in_block d.body) (handled_in_clauses cs) a)
clause_handled ds (d ∷ cs) (suc j) c a e = clause_handled ds cs j c (handled_right (handled_in_block d.body) (handled_in_clauses cs) a) e

-- where clause j of these is, of which the names of the first are from the local n on
record PlacedAt (ds : List Declaration) (h : Name) (i : Handler) (n : ℕ) (cs : List Clause) (j : ℕ) (q : Placed) : Type 0 where
  is : slice_get cs j ≡ Some q.clause
  first : ℕ
  behind : n ≤ first
  within : first + length (clause_names ds h q.clause) ≤ n + length (clauses_names ds h cs)
  layout : q.layout ≡ layout_at ds h i first (clause_names ds h q.clause)

placed_at : (ds : List Declaration) (h : Name) (i : Handler) (n : ℕ) (cs : List Clause) (j : ℕ) (q : Placed) → slice_get (placed_from ds h i n cs) j ≡ Some q → PlacedAt ds h i n cs j q
placed_at ds h i n [] j q e = absurd (cc)
placed_at ds h i n (c ∷ cs) zero q e =
    let one : Placed = record { clause = c; layout = layout_at ds h i n (clause_names ds h c) } in
    let same : one ≡ q = cc in
    let many = length-append (clause_names ds h c) (clauses_names ds h cs) in
    subst (λ (r : Placed). PlacedAt ds h i n (c ∷ cs) 0 r) same (record { is = refl; first = n; behind = omega arith; within = omega (arith, many); layout = refl })
placed_at ds h i n (c ∷ cs) (suc j) q e =
    let r = placed_at ds h i (n + length (clause_names ds h c)) cs j q e in
    let many = length-append (clause_names ds h c) (clauses_names ds h cs) in
    let low = r.behind in let room = r.within in
    record { is = r.is; first = r.first; behind = omega (arith, low); within = omega (arith, many, room); layout = r.layout }

-- ## Handlers

-- a body of a handler, whose names bs are those of its front, and its lets
module _ (p : Script) (h : Name) (i : Handler) (n : ℕ) (bs front : List Bound) (b : BlockTree) (is : bs ≡ front ++ binds_in p.declarations b)
    (keeps : in_body p.declarations (map parameter i.parameters ++ front) b ≡ []) where
  body_names_once : Once (map parameter i.parameters ++ bs)
  body_names_once =
      let ps = map parameter i.parameters in
      subst (λ (cs : List Bound). Once cs) (append_assoc ps front (binds_in p.declarations b) ∙ ap (λ (cs : List Bound). ps ++ cs) (sym is)) (body_once p.declarations (ps ++ front) b keeps)

  body_parameters : Parameters (layout_at p.declarations h i n bs) i.parameters
  body_parameters = parameters_located i.parameters (located_first n (map parameter i.parameters) bs body_names_once)

  body_located : Located (layout_at p.declarations h i n bs).names n bs
  body_located = located_second n (map parameter i.parameters) bs body_names_once

  body_well : BlockTyped p (map parameter i.parameters ++ front) b → high_block b ≤ handler_high i → AllHandled p.declarations (handled_in_block b)
      → WellBlock p.declarations (layout_at p.declarations h i n bs) (handler_high i) b
  body_well typed high handled =
      let ps = map parameter i.parameters in let Γ = layout_at p.declarations h i n bs in
      let all : Located Γ.names n (front ++ binds_in p.declarations b) = subst (λ (cs : List Bound). Located Γ.names n cs) is body_located in
      let parameters : ScopePlaced Γ ps = scope_located ps (located_first n ps bs body_names_once) in
      let fronts : ScopePlaced Γ front = scope_located front (located_left front (binds_in p.declarations b) all) in
      let lets : LetsPlaced Γ (binds_in p.declarations b) = lets_located (binds_in p.declarations b) (located_right front (binds_in p.declarations b) all) in
      well_block {p = p} b typed (scope_appended ps front parameters fronts) lets high handled

-- names that lie behind the parameters and what is handled, and below the temporaries
fine_at : (ds : List Declaration) (h : Name) (i : Handler) (n : ℕ) (bs : List Bound) → length i.parameters < n → n + length bs ≤ handler_temporaries ds h i → Fine (layout_at ds h i n bs)
fine_at ds h i n bs behind room =
    let many = many_parameters i.parameters in
    fine_of_two (layout_at ds h i n bs) (map parameter i.parameters) bs n refl (omega (arith, many, behind)) room

module _ (p : Script) (good : Good p) (h : Name) (i : Handler) (is : handler_of p.declarations h ≡ Some i) where
  keeps : HandlerKeeps p.declarations h i
  keeps = handler_keeps p good h i is

  typed : HandlerTyped p h i
  typed = good_handler p good h i is

  return_facts : ReturnFacts p.declarations h i
  return_facts =
      let n = return_place i in let bs = return_names p.declarations i in let v = number_name i.return_clause.value in let b = i.return_clause.body in
      let handled = handled_left (handled_in_block b) (handled_in_clauses i.clauses) (handler_handled p.declarations h i is) in
      record {
        fine = fine_at p.declarations h i n bs (omega arith) (omega arith);
        parameters = body_parameters p h i n bs (v ∷ []) b refl keeps.returned;
        value = located_at 0 n v (body_located p h i n bs (v ∷ []) b refl keeps.returned) refl (omega arith);
        well = body_well p h i n bs (v ∷ []) b refl keeps.returned typed.returns (omega arith) handled;
      }

  -- a clause whose names are from the local n on
  clause_facts : (j : ℕ) (c : Clause) (n : ℕ) → slice_get i.clauses j ≡ Some c → clauses_place p.declarations i ≤ n → n + length (clause_names p.declarations h c) ≤ handler_temporaries p.declarations h i
      → ClauseFacts p.declarations h i c (layout_at p.declarations h i n (clause_names p.declarations h c))
  clause_facts j c n at behind room =
      let xs = map number_name c.arguments in let k = resumption h c.resumption in
      let one : clause_names p.declarations h c ≡ (xs ++ k ∷ []) ++ binds_in p.declarations c.body = sym (append_assoc xs (k ∷ []) (binds_in p.declarations c.body)) in
      let body = keeps.clauses j c at in
      let located = body_located p h i n (clause_names p.declarations h c) (xs ++ k ∷ []) c.body one body in
      let handled = clause_handled p.declarations i.clauses j c (handled_right (handled_in_block i.return_clause.body) (handled_in_clauses i.clauses) (handler_handled p.declarations h i is)) at in
      let high = clause_high i.clauses j c at in
      let clause = typed.clauses j c at in
      let many = many_numbers c.arguments in
      record {
        fine = fine_at p.declarations h i n (clause_names p.declarations h c) (omega (arith, behind)) room;
        owner = refl;
        temporaries = refl;
        parameters = body_parameters p h i n (clause_names p.declarations h c) (xs ++ k ∷ []) c.body one body;
        first = n;
        behind = omega (arith, behind);
        arguments = names_located c.arguments (located_left xs (k ∷ binds_in p.declarations c.body) located);
        resumption = located_at (length xs + 0) (n + length c.arguments) k located (get-behind xs (k ∷ binds_in p.declarations c.body) 0) (omega (arith, many));
        well = body_well p h i n (clause_names p.declarations h c) (xs ++ k ∷ []) c.body one body clause.body (omega (arith, high)) handled;
        few = effect_few p good c.effect (length c.arguments) clause.is_effect;
        effect = clause.is_effect;
      }
    where
      many_numbers : (xs : List Name) → length (map number_name xs) ≡ length xs
      many_numbers [] = refl
      many_numbers (x ∷ xs) = ap suc (many_numbers xs)

  -- each clause, where it is placed
  placed_facts : (j : ℕ) (q : Placed) → slice_get (placed_clauses p.declarations h i) j ≡ Some q → ClauseFacts p.declarations h i q.clause q.layout
  placed_facts j q e =
      let r = placed_at p.declarations h i (clauses_place p.declarations i) i.clauses j q e in
      subst (λ (Γ : Layout). ClauseFacts p.declarations h i q.clause Γ) (sym r.layout) (clause_facts j q.clause r.first r.is r.behind r.within)

  handler_facts : HandlerFacts p.declarations h i
  handler_facts = record {
    returns = return_facts;
    clauses = placed_facts;
    room = handler_room_is p.declarations h i;
    few = keeps.few;
    few_clauses = keeps.few_clauses;
  }

-- slots
slots_few : (p : Script) → Good p → (s : Name) (d : Slots) → slots_of p.declarations s ≡ Some d → d.places.value ≤ 65536
slots_few p good s d e =
    let k = declares p.declarations s (definition.Slots d) (is_slots (definition_of p.declarations s) d e) in
    subst (λ (b : Definition). IsSmall b) k.defines (small p good k.place k.declaration k.is)

-- a script that breaks no rule
pub facts : (p : Script) → Good p → Facts p.declarations
facts p good = record { functions = function_facts p good; handlers = handler_facts p good; slots = slots_few p good }
