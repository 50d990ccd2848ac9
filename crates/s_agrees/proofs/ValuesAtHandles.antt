-- A value at a handle: the handle is left, and the return clause runs in the handler's function. A value at a group leaves its handle.
use Rattle.std.proofs.Common.{◌≡◌, ℕ, ◌+◌, ◌<◌, ◌≤◌, Bool, ℤ, List, [], ◌∷◌, ◌++◌, length, Option, Some, refl, sym, ap, subst, arith}
use Rattle.std.specs.Prelude.{slice_set}
use Rattle.std.proofs.lemmas.Option.{slice_get_within}
use Rattle.lists.specs.Rows.{Row, ε, ◌▹◌}
use Rattle.w_syntax.specs.Code.{Code, Done, Plain}
use Rattle.w_reduce.specs.Values.{Val}
use Rattle.w_reduce.specs.Store.{Store}
use Rattle.w_reduce.specs.Terms.{Handle, Context, Term}
use Rattle.s_syntax.specs.declared.name.Name.{Name}
use Rattle.s_syntax.specs.declared.script.VariableType.TheVariants.{Int}
use Rattle.s_syntax.specs.declared.script.Handler.{Handler}
use Rattle.s_syntax.specs.declared.script.Script.{Script}
use Rattle.s_check.specs.Definitions.{handler_of}
use Rattle.s_code.specs.Handlers.{labels as clause_answers, return_code}
use Rattle.s_code.specs.Instructions.{local_set}
use Rattle.s_code.specs.Layouts.{number_in}
use Rattle.s_code.specs.Places.{return_layout, placed_clauses}
use Rattle.s_code.specs.Statements.{body}
use Rattle.s_meaning.specs.Terms as script
use Rattle.s_meaning.specs.Terms.{Value, Number, Variable, Gives, Handle as Handled, Group}
use Rattle.s_meaning.specs.Steps.{or_wrong, bind, enters, step_at}
use Rattle.s_meaning.proofs.Lists.{length_set}
use Rattle.s_agrees.proofs.StandsFor.{config, Same, Locals, LocalIs, Held, Active, Rest, clause_labels, in_loop, handler_high, handler_room, clause, group_clauses, Waits, runs, Stores}
use Rattle.s_agrees.proofs.MoreResumptions.{get_set_same, local_kept}
use Rattle.s_agrees.proofs.CountedContexts.{weight, clauses_labels, clauses_frames, clauses_handles}
use Rattle.s_agrees.proofs.Paths.{program_of, Path, stay, go}
use Rattle.s_agrees.proofs.Matches.{caps_of, Matches, went, under_last}
use Rattle.s_agrees.proofs.EnteredBodies.{many_placed}
use Rattle.s_agrees.proofs.Facts.{ReturnFacts, Facts}
use Rattle.s_agrees.proofs.BoundValues.{bind_known, holds_bound, holds_append, holds_one}
use Rattle.s_agrees.proofs.Bodies.{rest_body}
use Rattle.s_agrees.proofs.Captures.{in_range, Around, in_blocks, set_path}
use Rattle.s_agrees.proofs.UsesOfValues.{left_with}

module _ {p : Script} (matches : ℕ → ℕ → Bool) (facts : Facts p.declarations) {ρ : List ℕ} {σ : script.Store} {s : Store} (stores : Stores p.declarations ρ σ s)
    (h : Name) {i : Handler} {L : Locals} {ps : List Value} {κ : script.Context} {below : Row Val} {c : Code} {e : Context} (is : handler_of p.declarations h ≡ Some i) (room : handler_room p.declarations h i ≤ length L)
    (long : length ps ≡ length i.parameters) (held : Held ρ L ps) (waits : Waits p.declarations ρ κ below c e) {z : ℤ} {a : Val} (value : Same ρ (Number z) a) where
  of_return : ReturnFacts p.declarations h i
  of_return = (facts.handlers h i is).returns

  -- the local of the return clause's value
  abbrev place : ℕ
  place = length i.parameters + 1

  -- it is one of the frame's
  place_below : place < length L
  place_below = let b = of_return.fine.below i.return_clause.value (record { name = i.return_clause.value; ty = Int; number = place }) of_return.value in omega (arith, b, room)

  abbrev locals_then : Locals
  locals_then = slice_set L place (Some a)

  abbrev result : Variable
  result = record { name = i.return_clause.value; ty = Int; value = Number z }

  -- the handler's parameters are still there
  parameters_held : Held ρ locals_then ps
  parameters_held = record {
    each = λ j v q. let lt = slice_get_within ps j v q in local_kept place (Some a) (omega (arith, lt, long)) (held.each j v q);
  }

  -- and the value is
  result_held : LocalIs ρ locals_then place (Number z)
  result_held = let old = in_range L place place_below in record { value = a; is = get_set_same L place (Some a) old.0 old.1; same = value }

  -- the return clause has its variables
  return_active : {params : List Variable} → bind i.parameters ps ≡ Some params → Active ρ (return_layout p.declarations h i) (handler_high i) locals_then (params ++ result ∷ [])
  return_active q = record {
    fine = of_return.fine;
    room = let l = length_set L place (Some a) in omega (arith, l, room);
    holds = holds_append (holds_bound of_return.parameters q parameters_held)
        (holds_one result (record { name = i.return_clause.value; ty = Int; number = place }) of_return.value refl result_held);
  }

  -- the handler's function in its loop and the blocks of all clauses
  abbrev frame_with : Locals → Context
  frame_with K = clause_labels p.declarations (placed_clauses p.declarations h i) (in_loop p.declarations h i K below c e)

  abbrev clause_code : Code
  clause_code = body p.declarations (return_layout p.declarations h i) (length i.clauses) i.return_clause.body

  -- the code of the return clause does its body
  return_rest : Rest p.declarations (return_layout p.declarations h i) (handler_high i) (length (placed_clauses p.declarations h i)) (frame_with locals_then) (length (placed_clauses p.declarations h i)) i.return_clause.body clause_code (frame_with locals_then)
  return_rest =
      subst (λ (n : ℕ). Rest p.declarations (return_layout p.declarations h i) (handler_high i) (length (placed_clauses p.declarations h i)) (frame_with locals_then) (length (placed_clauses p.declarations h i)) i.return_clause.body
      (body p.declarations (return_layout p.declarations h i) n i.return_clause.body) (frame_with locals_then)) (many_placed p.declarations h i) (rest_body of_return.well)

  abbrev handle_term : Term
  handle_term = config (Handle ε (clause_answers p.declarations 0 i.clauses) (return_code p.declarations (return_layout p.declarations h i) (length i.clauses) i) ∷ frame_with L) (ε ▹ a) Done

  abbrev clause_term : Term
  clause_term = config (frame_with locals_then) ε clause_code

  -- the handle is left, and the value is set
  return_path : Path (program_of p matches) (caps_of s handle_term clause_term) 2 s handle_term s clause_term
  return_path =
      let x = clauses_frames p.declarations (placed_clauses p.declarations h i) (in_loop p.declarations h i L below c e) in
      let y = clauses_handles p.declarations (placed_clauses p.declarations h i) (in_loop p.declarations h i L below c e) in
      let around : Around (caps_of s handle_term clause_term) s frame_with = in_blocks p.declarations h i (placed_clauses p.declarations h i) below c e (omega (arith, x)) (omega (arith, y)) (omega arith) in
      go refl (around.under L)
      (subst (λ (n : ℕ). Path (program_of p matches) (caps_of s handle_term clause_term) 1 s (config (frame_with L) (ε ▹ a) (Plain (local_set n) clause_code)) s clause_term) (sym (ap number_in of_return.value))
      (set_path (program_of p matches) (caps_of s handle_term clause_term) s frame_with around L ε a place clause_code place_below stay))

  -- no label is added
  return_weight : 2 + weight s clause_term ≤ 52 + weight s handle_term
  return_weight =
      let x = clauses_labels p.declarations (placed_clauses p.declarations h i) (in_loop p.declarations h i L below c e) in
      let y = clauses_labels p.declarations (placed_clauses p.declarations h i) (in_loop p.declarations h i locals_then below c e) in omega (arith, x, y)

  -- where the parameters are bound
  return_bound : {params : List Variable} → bind i.parameters ps ≡ Some params → Matches p matches 52 s handle_term (enters σ i.return_clause.body (params ++ result ∷ []) (Some h) κ)
  return_bound q =
      let few = (facts.handlers h i is).few_clauses in let n = many_placed p.declarations h i in let l = length_set L place (Some a) in
      went return_path (omega arith) return_weight (record {
        stands = runs (return_active q) return_rest (clause (placed_clauses p.declarations h i) is refl (omega (arith, few, n)) (omega (arith, l, room))) waits;
        stores = stores;
      })

  -- a value at a handle
  pub sim_return : Matches p matches 52 s
      (config (Handle ε (clause_answers p.declarations 0 i.clauses) (return_code p.declarations (return_layout p.declarations h i) (length i.clauses) i) ∷ clause_labels p.declarations (placed_clauses p.declarations h i) (in_loop p.declarations h i L below c e)) (ε ▹ a) Done)
      (step_at p σ (Gives (Number z)) (Handled h ps ∷ κ))
  sim_return =
      let b = bind_known i.parameters ps (sym long) in
      subst (λ (o : Option Handler). Matches p matches 52 s handle_term (or_wrong o (λ (g : Handler). or_wrong (bind g.parameters ps) (λ (params : List Variable).
      enters σ g.return_clause.body (params ++ record { name = g.return_clause.value; ty = Int; value = Number z } ∷ []) (Some h) κ)))) (sym is)
      (subst (λ (o : Option (List Variable)). Matches p matches 52 s handle_term (or_wrong o (λ (params : List Variable). enters σ i.return_clause.body (params ++ result ∷ []) (Some h) κ))) (sym b.1) (return_bound b.1))

-- a value at a group: its handle is left
pub sim_group_left : {p : Script} (matches : ℕ → ℕ → Bool) {ρ : List ℕ} {σ : script.Store} {s : Store} → Stores p.declarations ρ σ s → {κ : script.Context} {ops : Row Val} {c : Code} {e : Context}
    → Waits p.declarations ρ κ ops c e → {z : ℤ} {a : Val} → Same ρ (Number z) a
    → Matches p matches 52 s (config (Handle ops (group_clauses p.declarations) c ∷ e) (ε ▹ a) Done) (step_at p σ (Gives (Number z)) (Group ∷ κ))
sim_group_left {p} matches {s = s} stores {ops = ops} {c = c} {e = e} waits {a = a} value =
    let t : Term = config (Handle ops (group_clauses p.declarations) c ∷ e) (ε ▹ a) Done in
    left_with stores waits value (go refl (under_last s s t (config e (ops ▹ a) c) (omega arith)) stay) (omega arith) (omega arith)
