-- The event of the next reduction is seen from the innermost segment.
use Rattle.std.proofs.Common.{◌≡◌, ◌≢◌, ◌⊎◌, inl, inr, ℕ, false, ◌-◌, List, [], ◌∷◌, length, Option, Some, None, refl, sym, ap, subst, ◌∙◌, arith}
use Rattle.lists.specs.Rows.{Row}
use Rattle.w_syntax.specs.Code.{Code, Done, Plain}
use Rattle.w_syntax.specs.declared.instructions.Clause.{Clause}
use Rattle.w_syntax.specs.declared.instructions.Instr.{Instr}
use Rattle.w_syntax.specs.declared.instructions.Instr.TheVariants as flat
use Rattle.w_syntax.specs.declared.instructions.Op.{Op}
use Rattle.w_syntax.specs.declared.instructions.Op.TheVariants as op
use Rattle.w_syntax.specs.declared.module.Module.{Module}
use Rattle.w_segment.specs.declared.entry.Stage.{Stage}
use Rattle.w_segment.specs.declared.entry.Stage.TheVariants.{Fresh, Body, Branch, Values}
use Rattle.w_segment.specs.Shape.{Shape, Level}
use Rattle.w_segment.specs.Link.{Link, top}
use Rattle.w_reduce.specs.Values.{Val}
use Rattle.w_reduce.specs.Store.{Store, next_cont}
use Rattle.w_reduce.specs.Terms.{Rest, rest_of, Handle, Context}
use Rattle.w_stands.specs.Code.{instr_of}
use Rattle.w_stands.specs.Stands.{LevelsAre, label, frame, outermost, StackIs, body, left, fresh, values}
use Rattle.w_stands.specs.Values.{stack}
use Rattle.w_plain.specs.Plainness.{switches_at}
use Rattle.w_switching.specs.Standing.{Chained, only, around}
use Rattle.w_switching.proofs.SegmentsInOthers.{kept_long}
use Rattle.w_trace.specs.declared.event.EventKind.{EventKind}
use Rattle.w_trace.specs.declared.event.EventKind.TheVariants.{Exit}
use Rattle.w_trace.specs.Events.{leaving_event, next_event}
use Rattle.w_configuration.specs.Parts.{Parts, whole}
use Rattle.w_configuration.specs.Standing.{behind_of}
use Rattle.w_configuration.specs.NextEvents.{event_at, TellsEvent}
use Rattle.w_configuration.proofs.NextCode.{read_seen}
use Rattle.w_configuration.proofs.PartsOfRuns.{head}

-- ## In a body

-- around code there is a label or a frame, and so no handle is left
code_stays : {m : Module} {outer : Context} {behind : Rest} {f q : ℕ} {ls : List Level} {e : Context} → LevelsAre m outer behind f q ls e → leaving_event e ≡ None
code_stays (label h k j w) = refl
code_stays (frame h k w) = refl
code_stays (outermost h) = refl

plain_event : (s : Store) (e : Context) (vs : Row Val) (o : Op) (c : Code) → next_event s e vs [] (Plain o c) ≡ event_at s vs (Some (flat.Plain o))
plain_event s e vs (op.Control o) c = refl
plain_event s e vs (op.Parametric o) c = refl
plain_event s e vs (op.Variable o) c = refl
plain_event s e vs (op.Memory o) c = refl
plain_event s e vs (op.Table o) c = refl
plain_event s e vs (op.Numeric o) c = refl
plain_event s e vs (op.Reference o) c = refl
plain_event s e vs (op.Switching o) c = refl

-- the event is that of the instruction at the place
body_event : {m : Module} {outer : Context} {behind : Rest} {x : Shape} {e : Context} {r : Rest} (s : Store) (vs : Row Val) → StackIs m outer behind x e r → x.stage ≡ Body
    → next_event s e vs r.ahead r.code ≡ event_at s vs (instr_of m x.func x.place)
body_event {e = e} s vs (body h k w) b =
    read_seen {g = next_event s e vs []} {f = event_at s vs}
    (record {
      done = code_stays w;
      at_end = refl;
      at_else = refl;
      at_plain = plain_event s e vs;
      at_block = λ kind t z x k. refl;
      at_if = λ t z x k. refl;
      at_if_else = λ t y z x w k. refl;
    }) k
body_event s vs (left h k w) b = absurd (cc)
body_event s vs (fresh h k) b = absurd (cc)
body_event s vs (values h k) b = absurd (cc)

-- one that switches no stacks has none
plain_is_silent : (s : Store) (vs : Row Val) (i : Option Instr) → switches_at i ≡ false → None ≡ event_at s vs i
plain_is_silent s vs None plain = refl
plain_is_silent s vs (Some (flat.Plain (op.Control o))) plain = refl
plain_is_silent s vs (Some (flat.Plain (op.Parametric o))) plain = refl
plain_is_silent s vs (Some (flat.Plain (op.Variable o))) plain = refl
plain_is_silent s vs (Some (flat.Plain (op.Memory o))) plain = refl
plain_is_silent s vs (Some (flat.Plain (op.Table o))) plain = refl
plain_is_silent s vs (Some (flat.Plain (op.Numeric o))) plain = refl
plain_is_silent s vs (Some (flat.Plain (op.Reference o))) plain = refl
plain_is_silent s vs (Some (flat.Plain (op.Switching o))) plain = absurd (cc)
plain_is_silent s vs (Some (flat.Block kind t z)) plain = refl
plain_is_silent s vs (Some (flat.If t y z)) plain = refl
plain_is_silent s vs (Some flat.Else) plain = refl
plain_is_silent s vs (Some flat.End) plain = refl

-- ## Before code

no_code : (g : Stage) → (g ≡ Fresh) ⊎ ((l : ℕ) × (g ≡ Branch l)) → (g ≢ Body) × (g ≢ Values)
no_code g (inl e) = (λ b. absurd (cc), λ v. absurd (cc))
no_code g (inr (l, e)) = (λ b. absurd (cc), λ v. absurd (cc))

-- where a function is invoked or a branch is taken there is none
before_event : {m : Module} {outer : Context} {behind : Rest} {x : Shape} {e : Context} {r : Rest} (s : Store) (vs : Row Val) → StackIs m outer behind x e r → x.stage ≢ Body → x.stage ≢ Values
    → next_event s e vs r.ahead r.code ≡ None
before_event s vs (body h k w) code ends = absurd (code h)
before_event s vs (left h k w) code ends = refl
before_event s vs (fresh h k) code ends = refl
before_event s vs (values h k) code ends = absurd (ends h)

-- ## Values

-- with nothing around there is none
alone_event : (s : Store) (vs : Row Val) (waiting : List ℕ) → next_event s [] vs (behind_of waiting).ahead (behind_of waiting).code ≡ None
alone_event s vs [] = refl
alone_event s vs (f ∷ fs) = refl

last_event : {m : Module} (waiting : List ℕ) {x : Shape} {e : Context} {r : Rest} (s : Store) (vs : Row Val) → StackIs m [] (behind_of waiting) x e r → x.stage ≡ Values
    → next_event s e vs r.ahead r.code ≡ None
last_event waiting s vs (body h k w) b = absurd (cc)
last_event waiting s vs (left h k w) b = absurd (cc)
last_event waiting s vs (fresh h k) b = absurd (cc)
last_event waiting s vs (values h k) b = alone_event s vs waiting

-- inside a handle that is left
inside_event : {m : Module} {below : Row Val} {hs : List Clause} {c : Code} {outer : Context} {x : Shape} {e : Context} {r : Rest} (s : Store) (vs : Row Val)
    → StackIs m (Handle below hs c ∷ outer) (rest_of Done) x e r → x.stage ≡ Values → next_event s e vs r.ahead r.code ≡ Some Exit
inside_event s vs (body h k w) b = absurd (cc)
inside_event s vs (left h k w) b = absurd (cc)
inside_event s vs (fresh h k) b = absurd (cc)
inside_event s vs (values h k) b = refl

-- by how many segments there are
one_event : {m : Module} (waiting : List ℕ) {chain : List Link} {e : Context} {vs : Row Val} {r : Rest} (s : Store) → Chained m [] (behind_of waiting) chain e vs r → length chain - 1 ≡ 0
    → (top chain).shape.stage ≡ Values → next_event s e vs r.ahead r.code ≡ None
one_event waiting {vs = vs} s (only h q) one b = last_event waiting s vs h b
one_event waiting s (around h q g c k) one b = absurd (omega (arith, one))

more_event : {m : Module} {outer : Context} {behind : Rest} {chain : List Link} {e : Context} {vs : Row Val} {r : Rest} (s : Store) → Chained m outer behind chain e vs r → length chain - 1 ≢ 0
    → (top chain).shape.stage ≡ Values → next_event s e vs r.ahead r.code ≡ Some Exit
more_event s (only h q) more b = absurd (more refl)
more_event {vs = vs} s (around h q g c k) more b = inside_event s vs h b

-- ## What is told of the parts

module _ {m : Module} {x : Parts} (inner : Shape) (is : inner ≡ (top x.chain).shape) where
  -- in a body it is what the instruction at the place does
  pub tells_instr : (o : Option EventKind) (i : Option Instr) → inner.stage ≡ Body → i ≡ instr_of m inner.func inner.place
      → ((s : Store) → next_cont s ≡ length x.conts.entries → o ≡ event_at s (stack inner.operands) i) → TellsEvent o m x
  tells_instr o i b found tells waiting p ks t h =
      let s = whole x.store ks in
      let vs = stack inner.operands in
      let operands : t.operands ≡ vs = (head h).operands ∙ ap (λ (y : Shape). stack y.operands) (sym is) in
      let stands = subst (λ (y : Shape). StackIs m (head h).o.outer (head h).o.behind y t.around t.rest) (sym is) (head h).stands in
      tells s (kept_long h.stand.store)
      ∙ ap (event_at s vs) found
      ∙ sym (ap (λ (us : Row Val). next_event s t.around us t.rest.ahead t.rest.code) operands ∙ body_event s vs stands b)

  -- where that switches no stacks there is none
  pub tells_plain : inner.stage ≡ Body → switches_at (instr_of m inner.func inner.place) ≡ false → TellsEvent None m x
  tells_plain b plain = tells_instr None (instr_of m inner.func inner.place) b refl (λ s next. plain_is_silent s (stack inner.operands) (instr_of m inner.func inner.place) plain)

  -- before code there is none
  pub tells_nothing : (g : Stage) → g ≡ inner.stage → (g ≡ Fresh) ⊎ ((l : ℕ) × (g ≡ Branch l)) → TellsEvent None m x
  tells_nothing g at b waiting p ks t h =
      let stage : g ≡ (top x.chain).shape.stage = at ∙ ap (λ (y : Shape). y.stage) is in
      let none = no_code g b in
      sym (before_event (whole x.store ks) t.operands (head h).stands (λ e. none.0 (stage ∙ e)) (λ e. none.1 (stage ∙ e)))

  -- of values a handle is left, where there is one
  pub tells_end : (n : ℕ) → n ≡ length x.chain - 1 → n ≡ 0 → inner.stage ≡ Values → TellsEvent None m x
  tells_end n count none b waiting p ks t h = sym (one_event waiting (whole x.store ks) h.stand.term (sym count ∙ none) (ap (λ (y : Shape). y.stage) (sym is) ∙ b))

  pub tells_exit : (n : ℕ) → n ≡ length x.chain - 1 → n ≢ 0 → inner.stage ≡ Values → TellsEvent (Some Exit) m x
  tells_exit n count some b waiting p ks t h = sym (more_event (whole x.store ks) h.stand.term (λ e. some (count ∙ e)) (ap (λ (y : Shape). y.stage) (sym is) ∙ b))
