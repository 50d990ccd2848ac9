-- Each rule of the script is matched where its redex stands ready and is typed.
use Rattle.std.proofs.Common.{◌≡◌, ℕ, zero, suc, ◌+◌, Bool, List, [], ◌∷◌, length, Option, Some, refl, ap, ◌∙◌, arith, length-append}
use Rattle.std.specs.Prelude.{slice_get}
use Rattle.lists.specs.Rows.{Row}
use Rattle.w_syntax.specs.Code.{Code}
use Rattle.w_reduce.specs.Values.{Val}
use Rattle.w_reduce.specs.Store.{Store}
use Rattle.w_reduce.specs.Terms.{Context}
use Rattle.s_syntax.specs.declared.name.Name.{Name}
use Rattle.s_syntax.specs.declared.script.VariableType.{VariableType}
use Rattle.s_syntax.specs.declared.script.VariableType.TheVariants.{Resumption}
use Rattle.s_syntax.specs.declared.script.Parameter.{Parameter}
use Rattle.s_syntax.specs.declared.script.Script.{Script}
use Rattle.s_check.specs.Scopes.{Scope}
use Rattle.s_code.specs.Layouts.{Layout}
use Rattle.s_meaning.specs.Terms.{Variable, Work}
use Rattle.s_meaning.specs.Terms as script
use Rattle.s_meaning.specs.Typing.{kinds, numbers}
use Rattle.s_meaning.specs.Typed.{World, int, FirstHave, begun, further, calling, doing, handling, resuming, tail_resuming, tail_calling, grouping, StoreTyped, Covers}
use Rattle.s_meaning.specs.Focus.{Redex}
use Rattle.s_meaning.specs.Steps.{rule}
use Rattle.s_meaning.proofs.TypedFocus.{RedexTyped, constant, lookup, on_unary, on_binary, decides, applying, using, failing, spawning, ending}
use Rattle.s_agrees.proofs.ScriptRows.{Values, no_values, ◌▸◌, many, both_many}
use Rattle.s_agrees.proofs.StandsFor.{config, Active, Base, Waits, Stores}
use Rattle.s_agrees.proofs.StandsFor as standing
use Rattle.s_agrees.proofs.Facts.{Facts}
use Rattle.s_agrees.proofs.Matches.{Matches}
use Rattle.s_agrees.proofs.Ready.{Ready, constant_ready, lookup_ready, aside_ready, unary_ready, comparison_ready, arithmetic_ready, truth_ready, decides_ready, call_ready, do_ready, handle_ready, resume_ready, group_ready, tail_ready, tail_call_ready, use_ready, fail_ready, spawn_ready, end_ready}
use Rattle.s_agrees.proofs.StepsInPlace.{sim_constant, sim_lookup, sim_aside, sim_unary, sim_comparison, sim_arithmetic, sim_truth, sim_decides}
use Rattle.s_agrees.proofs.Calls.{sim_call, sim_tail_call}
use Rattle.s_agrees.proofs.Captures.{sim_do}
use Rattle.s_agrees.proofs.Handles.{sim_handling}
use Rattle.s_agrees.proofs.Resumptions.{sim_resuming}
use Rattle.s_agrees.proofs.TailResumptions.{sim_tail}
use Rattle.s_agrees.proofs.GroupCalls.{group_applies}
use Rattle.s_agrees.proofs.Spawns.{spawns_step}
use Rattle.s_agrees.proofs.UsesOfSlots.{referred}
use Rattle.s_agrees.proofs.UsesOfValues.{sim_use, sim_fail, sim_end}
use Rattle.s_agrees.proofs.EachStep.{RulesMatched}

-- ## How many arguments there are

first_many : {Ξ : World} {ks todo : List VariableType} {vs : Values} → FirstHave Ξ ks vs todo → many vs + length todo ≡ length ks
first_many {todo = todo} begun = let z : 0 + length todo ≡ length todo = omega arith in z
first_many (further {vs = vs} {todo = todo} h k) = let q = first_many h in let z : suc (many vs) + length todo ≡ _ = omega (arith, q) in z

all_many : {Ξ : World} {ks : List VariableType} {vs : Values} → FirstHave Ξ ks vs [] → many vs ≡ length ks
all_many {ks = ks} {vs = vs} h = let q = first_many h in omega (arith, q)

kinds_many : (ps : List Parameter) → length (kinds ps) ≡ length ps
kinds_many [] = refl
kinds_many (q ∷ ps) = ap suc (kinds_many ps)

numbers_many : (n : ℕ) → length (numbers n) ≡ n
numbers_many zero = refl
numbers_many (suc n) = ap suc (numbers_many n)

-- ## A resumption

-- an entry of another list that is as long
entry_there : {A B : Type 0} (xs : List A) (ys : List B) (a : ℕ) (y : B) → length xs ≡ length ys → slice_get ys a ≡ Some y → (x : A) × (slice_get xs a ≡ Some x)
entry_there [] [] a y e q = absurd (cc)
entry_there [] (z ∷ ys) a y e q = absurd (cc)
entry_there (x ∷ xs) [] a y e q = absurd (cc)
entry_there (x ∷ xs) (z ∷ ys) zero y e q = (x, refl)
entry_there (x ∷ xs) (z ∷ ys) (suc a) y e q = entry_there xs ys a y (cc e) q

-- ## All rules

module _ (p : Script) (matches : ℕ → ℕ → Bool) (facts : Facts p.declarations) where
  matched : {ρ : List ℕ} {σ : script.Store} {s : Store} {Γ : Layout} {n D0 t : ℕ} {L : standing.Locals} {vars : List Variable} {owner : Option Name} {κ : script.Context} {below : Row Val} {c' : Code} {e' f : Context}
      {w : List Work} {ops : Row Val} {c : Code} {e : Context} {Ξ : World} {scope : Scope} (r : Redex)
      → Stores p.declarations ρ σ s → Active ρ Γ n L vars → Base p.declarations Γ L below c' e' owner D0 f → Waits p.declarations ρ κ below c' e' → StoreTyped p Ξ σ → Covers Ξ scope vars
      → Ready p.declarations ρ Γ n D0 f r t L w ops c e → RedexTyped p Ξ scope r w
      → Matches p matches 52 s (config e ops c) (rule p (record { store = σ; variables = vars; owner = owner; work = w; outer = κ }) r)
  matched r stores active base waits typed covers (constant_ready {k = k} w) (constant t) = sim_constant matches stores active base waits k w
  matched r stores active base waits typed covers (lookup_ready {x = x} w) (lookup {k = k} q t) = let v = covers.covers x k q in sim_lookup matches stores active base waits x v.variable v.there w
  matched r stores active base waits typed covers (aside_ready {x = x} {h = h} ns stays le a w) (lookup {k = k} q t) =
      let v = covers.covers x k q in sim_aside matches stores active base waits h ns x v.variable v.there le a w
  matched r stores active base waits typed covers (unary_ready {o = o} v w) (on_unary int t) = sim_unary matches stores active base waits o v w
  matched r stores active base waits typed covers (comparison_ready {o = o} u v w) (on_binary int int t) = sim_comparison matches stores active base waits o u v w
  matched r stores active base waits typed covers (arithmetic_ready {o = o} u v w) (on_binary int int t) = sim_arithmetic matches stores active base waits o u v w
  matched r stores active base waits typed covers (truth_ready {o = o} {z = z} d v w) (on_binary x int t) = sim_truth matches stores active base waits o z d v w
  matched r stores active base waits typed covers (decides_ready {o = o} v x y w) (decides int a b t) = sim_decides matches stores active base waits o v x y w
  matched r stores active base waits typed covers (call_ready {g = g} values w) (applying (calling {g = fn} is t) firsts) =
      sim_call matches facts stores active base waits g fn is (all_many firsts ∙ kinds_many fn.parameters) values w
  matched r stores active base waits typed covers (do_ready {op = op} values w) (applying (doing {n = k} is t) firsts) =
      sim_do matches facts stores active base waits op is (all_many firsts ∙ numbers_many k) values w
  matched r stores active base waits typed covers (handle_ready {g = g} {h = h} {us = us} {vs = vs} ns m among held values w) (applying (handling {g = fn} {i = i} is_g is_h enough t) firsts) =
      let a = all_many firsts in let b = both_many us vs in let d = kinds_many fn.parameters in let e = kinds_many i.parameters in let l = length-append (kinds fn.parameters) (kinds i.parameters) in
      sim_handling matches facts stores active base waits g h fn i ns is_g is_h among m (omega (arith, m, enough)) (omega (arith, m, enough, a, b, d, e, l)) held values w
  matched r stores active base waits typed covers (resume_ready {x = x} {u = u} {vs = vs} number values w) (applying (resuming {h = h} {i = i} q is t) firsts) =
      let v = covers.covers x (Resumption h) q in let to = referred v.has in let entry = entry_there _ _ to.address (Resumption h) typed.as_many to.there in
      let a = all_many firsts in let b = both_many (no_values ▸ u) vs in let d = kinds_many i.parameters in
      sim_resuming matches facts stores active base waits h x v.variable to.address entry.0 v.there v.of_kind to.is entry.1 (typed.each to.address (Resumption h) entry.0 to.there entry.1) is (omega (arith, a, b, d)) number values w
  matched r stores active base waits typed covers (group_ready {g = g} among v w) (applying (grouping {g = fn} is one t) firsts) = group_applies matches facts stores active base waits g fn is one among v w
  matched r stores active base waits typed covers (tail_ready {x = x} {u = u} {vs = vs} c own number values deep D) (applying (tail_resuming {h = h} {i = i} q is) firsts) =
      let v = covers.covers x (Resumption h) q in let to = referred v.has in let entry = entry_there _ _ to.address (Resumption h) typed.as_many to.there in
      let a = all_many firsts in let b = both_many (no_values ▸ u) vs in let d = kinds_many i.parameters in
      sim_tail matches facts stores active base waits h x v.variable to.address entry.0 v.there v.of_kind to.is entry.1 (typed.each to.address (Resumption h) entry.0 to.there entry.1) is (omega (arith, a, b, d)) number values own deep D c
  matched r stores active base waits typed covers (tail_call_ready {g = g} c values deep) (applying (tail_calling {g = fn} is) firsts) =
      sim_tail_call matches facts stores active base waits g fn is (all_many firsts ∙ kinds_many fn.parameters) values deep c
  matched r stores active base waits typed covers (use_ready v u) (using t b int) = sim_use matches facts stores active base waits v u typed covers t
  matched r stores active base waits typed covers (fail_ready c deep) failing = sim_fail matches facts stores active base waits deep
  matched r stores active base waits typed covers (spawn_ready {k = k} {g = g} h among rest) (spawning {g = fn} is two b) = spawns_step matches facts stores active base waits k g fn is two among h rest
  matched r stores active base waits typed covers end_ready ending = sim_end matches facts stores active base waits

  pub rules : RulesMatched p matches
  rules = record { matched = matched }
