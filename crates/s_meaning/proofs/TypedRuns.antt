-- Typed configurations along a run of a script.
use Rattle.std.proofs.Common.{◌≡◌, ◌≢◌, ℕ, zero, suc, Bool, true, false, List, [], ◌∷◌, ◌++◌, codes, map, replicate, slice_get, Option, Some, None, if◌then◌else◌, refl, subst}
use Rattle.std.proofs.lemmas.List.{length-replicate}
use Rattle.std.specs.Str.{bytes_eq}
use Rattle.s_syntax.specs.declared.name.Name.{Name}
use Rattle.s_syntax.specs.declared.script.Slots.{Slots}
use Rattle.s_syntax.specs.declared.script.Definition.{Definition}
use Rattle.s_syntax.specs.declared.script.Definition.TheVariants as definition
use Rattle.s_syntax.specs.declared.script.Declaration.{Declaration}
use Rattle.s_check.specs.Definitions.{definition_of, as_slots, slots_of}
use Rattle.s_syntax.specs.declared.script.Script.{Script}
use Rattle.s_check.specs.Scopes.{parameter}
use Rattle.s_meaning.specs.Typing.{BlockTyped, ScriptTyped}
use Rattle.following.specs.Follows.{Outcome, Going, Value, Fault}
use Rattle.following.specs.Steps.{Goes, Returns, Faults, Wrong, came, go_on}
use Rattle.s_meaning.specs.Terms.{Configuration}
use Rattle.s_meaning.specs.Steps.{contents_of, Step, step}
use Rattle.s_meaning.specs.Typed.{World, Typed, ContentsTyped, SlotsThere, nothing, runs, in_activation}
use Rattle.s_meaning.specs.Eval.{Evaluated, Eval, contents_for, first_contents, start}
use Rattle.s_meaning.proofs.Good.{good_typed}
use Rattle.s_meaning.specs.Laws.{StepGood, on, over, faulty, Preserved, NeverWrong}
use Rattle.s_meaning.proofs.Scopes.{bool_of, block_rest}
use Rattle.s_meaning.proofs.Worlds.{match_covers, no_names}
use Rattle.s_meaning.proofs.Sound.{step_good}

-- ## Slots at the start

no_places : (n m a : ℕ) → slice_get (replicate n None) m ≢ Some (Some a)
no_places zero m a e = cc e
no_places (suc n) zero a e = cc e
no_places (suc n) (suc m) a e = no_places n m a e

first_slots : (x : Name) (d : Slots) → ContentsTyped [] d (record { name = x; handler = d.handler; places = replicate d.places.value None })
first_slots x d = record {
  handler = refl;
  as_many = length-replicate d.places.value None;
  holds = record { each = λ n a q. absurd (no_places d.places.value n a q) };
}

not_slots : (b : Bool) (y : Definition) (o : Option Definition) (d : Slots) → as_slots (Some y) ≡ None → as_slots (if b then Some y else o) ≡ Some d → as_slots o ≡ Some d
not_slots true y o d n e = absurd (cc (n, e))
not_slots false y o d n e = e

start_by : (x : Name) (y : Definition) (ds : List Declaration) (s : Name) (d : Slots) → as_slots (if bytes_eq x s then Some y else definition_of ds s) ≡ Some d
    → (slots_of ds s ≡ Some d → SlotsThere [] d (contents_of s (first_contents ds))) → SlotsThere [] d (contents_of s (contents_for x y ++ first_contents ds))
start_by x (definition.Slots c) ds s d e r = bool_of (bytes_eq x s)
    (λ b. as_slots (if b then Some (definition.Slots c) else definition_of ds s) ≡ Some d
    → SlotsThere [] d (if b then Some (record { name = x; handler = c.handler; places = replicate c.places.value None }) else contents_of s (first_contents ds)))
    (λ q f. let same : c ≡ d = cc f in record { contents = _; is = refl; typed = subst (λ (z : Slots). ContentsTyped [] z (record { name = x; handler = c.handler; places = replicate c.places.value None })) same (first_slots x c) })
    (λ q f. r f) e
start_by x (definition.Effect n) ds s d e r = r (not_slots (bytes_eq x s) (definition.Effect n) (definition_of ds s) d refl e)
start_by x (definition.Function g) ds s d e r = r (not_slots (bytes_eq x s) (definition.Function g) (definition_of ds s) d refl e)
start_by x (definition.Handler h) ds s d e r = r (not_slots (bytes_eq x s) (definition.Handler h) (definition_of ds s) d refl e)

pub slots_start : (ds : List Declaration) (s : Name) (d : Slots) → slots_of ds s ≡ Some d → SlotsThere [] d (contents_of s (first_contents ds))
slots_start [] s d e = absurd (cc)
slots_start (c ∷ ds) s d e = start_by c.name c.definition ds s d e (slots_start ds s d)

-- ## Runs

pub preserved : Preserved
preserved p Ξ c typed t = step_good p typed c t

pub record Kept_typed (p : Script) (c : Configuration) : Type 0 where
  pub world : World
  pub typed : Typed p world c

came_typed : (p : Script) (r : Evaluated) (s : Step) → StepGood p s → Kept_typed p r.term → Kept_typed p (came r s).term
came_typed p r (Goes o c) (on Ξ t) k = record { world = Ξ; typed = t }
came_typed p r (Returns n) over k = k
came_typed p r (Faults f) faulty k = k
came_typed p r Wrong good k = elim good [ ]

on_typed : (p : Script) (r : Evaluated) → ScriptTyped p → (o : Outcome _ _) → Kept_typed p r.term → Kept_typed p (go_on (step p) r o).term
on_typed p r typed Going k = came_typed p r (step p r.term) (step_good p typed r.term k.typed) k
on_typed p r typed (Value n) k = k
on_typed p r typed (Fault f) k = k

pub start_typed : (p : Script) → ScriptTyped p → Kept_typed p (start p)
start_typed p typed =
    let e = typed.entry in
    let b : BlockTyped p (map parameter e.0.parameters) e.0.body = typed.functions (codes "main") e.0 e.1 in
    let b' : BlockTyped p [] e.0.body = rw e.2 at b in
    record {
      world = [];
      typed = record {
        store = record { as_many = refl; each = λ a t e q r. absurd (cc); slots = slots_start p.declarations };
        term = in_activation (runs (match_covers no_names) (block_rest (rw e.1 b'))) nothing;
      };
    }

eval_typed : (p : Script) → ScriptTyped p → (n : ℕ) → Kept_typed p (Eval p n).term
eval_typed p typed zero = start_typed p typed
eval_typed p typed (suc n) = on_typed p (Eval p n) typed (Eval p n).outcome (eval_typed p typed n)

not_wrong : {p : Script} (s : Step) → StepGood p s → s ≢ Wrong
not_wrong (Goes o c) (on Ξ t) e = cc e
not_wrong (Returns n) over e = cc e
not_wrong (Faults f) faulty e = cc e
not_wrong Wrong good e = elim good [ ]

pub never_wrong : NeverWrong
never_wrong p good n =
    let k = eval_typed p (good_typed p good) n in
    not_wrong (step p (Eval p n).term) (step_good p (good_typed p good) (Eval p n).term k.typed)
