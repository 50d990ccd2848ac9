-- The run of a sound module from its start: no continuation is there at first, so its events are one-shot; and the numbers of its trace
-- are in their ranges, reductions and addresses since they are counted, and tags since their instructions are typed.
use Rattle.std.proofs.Common.{◌≡◌, ◌≤◌, ◌<◌, ◌^◌, ℕ, zero, suc, Bool, false, List, [], ◌∷◌, ◌++◌, length, map, Option, Some, None, refl, arith}
use Rattle.std.specs.Prelude.{⊤, slice_get, option_to_list}
use Rattle.std.proofs.lemmas.Option.{slice_get_within}
use Rattle.w_types.specs.declared.types.FuncType.{FuncType}
use Rattle.w_types.specs.declared.types.RecGroup.{RecGroup}
use Rattle.lists.specs.Rows.{Row}
use Rattle.w_syntax.specs.Code.{Code, Done, Plain, Block, If, IfElse}
use Rattle.w_syntax.specs.declared.instructions.Op.TheVariants as op
use Rattle.w_syntax.specs.declared.instructions.SwitchingOp.{SwitchingOp}
use Rattle.w_syntax.specs.declared.instructions.SwitchingOp.TheVariants as switching
use Rattle.w_syntax.specs.declared.module.Module.{Module}
use Rattle.w_syntax.specs.declared.module.Tag.{Tag}
use Rattle.w_rules.specs.Conditions.{SwitchingCondition}
use Rattle.w_rules.specs.Context as rules
use Rattle.w_rules.specs.Context.{cont_of, tag_in, type_of_tag}
use Rattle.w_rules.specs.InstructionTypes.{call_type, switching_op_type}
use Rattle.w_rules.specs.Operands.{Operand}
use Rattle.w_rules.specs.Sound.{Sound}
use Rattle.w_rules.specs.Spaces.{context_of, tags_of}
use Rattle.w_rules.specs.Typing.{HasInstrType}
use Rattle.w_words.specs.Words.{Each}
use Rattle.w_reduce.specs.declared.limit.RunLimit.{RunLimit}
use Rattle.w_reduce.specs.declared.trap.Trap.{Trap}
use Rattle.w_reduce.specs.declared.trap.Trap.TheVariants as trap
use Rattle.w_reduce.specs.Apart.{switches, PlainReductionsGoApart}
use Rattle.w_reduce.specs.Handlers.{Handler, find, label_clause, switch_clause}
use Rattle.w_reduce.specs.Limits.{passed}
use Rattle.w_reduce.specs.Program.{Program, IsProgram}
use Rattle.w_reduce.specs.Reduce.{next, reduce, limited, unless_passed}
use Rattle.w_reduce.specs.Reduced.{Reduced, Went, Trapped, Limited, Ended, Stuck, or_stuck, take_value, take_values, as_function, as_continuation}
use Rattle.w_reduce.specs.Run.{RunState, Outcome, Running, Values, Traps, Limit, NoRule, outcome_by, after_reduction, continued, Run}
use Rattle.w_reduce.specs.Store.{Store}
use Rattle.w_reduce.specs.Switching.{switching_op, or_unhandled, back_type}
use Rattle.w_reduce.specs.Terms.{Administrative, Context, Label, Frame, Handle, Term, Continuation}
use Rattle.w_reduce.specs.Unhandled.{is_unhandled, OnlySwitchesAreUnhandled}
use Rattle.w_reduce.specs.Values.{Val}
use Rattle.w_reduce.proofs.GoesOn.{Relates, both_or_stuck, both_take_value, both_take_values, both_as_function, both_as_continuation}
use Rattle.w_typed.specs.Configurations.{Typed, StartsAreTyped, RunsAreTyped}
use Rattle.w_typed.specs.Contexts.{Scope, RestTyped, code_alone, in_scope}
use Rattle.w_typed.specs.Values.{Arrows}
use Rattle.w_once.proofs.EmptiedByRuns.{no_arrows}
use Rattle.w_trace.specs.declared.event.Event.{Event}
use Rattle.w_trace.specs.declared.event.EventKind.{EventKind}
use Rattle.w_trace.specs.declared.event.EventKind.TheVariants.{New, Bind, Resume, Suspend, Switch, Exit}
use Rattle.w_trace.specs.declared.line.Line.{Line}
use Rattle.w_trace.specs.declared.line.Line.TheVariants as line
use Rattle.w_trace.specs.Once.{Use, uses}
use Rattle.w_trace.specs.Events.{top_cont, switching_event, leaving_event, next_event, event_of, where_went, with_step, while_running, event_after, Events, address_of, AreWithin}
use Rattle.w_trace.specs.Lines.{KindFits, TrapFits, EndingFits, LineFits}
use Rattle.w_trace.specs.Traces.{ending_of}
use Rattle.w_trace.specs.Fitting.{RunsAreOneShot, TracesFit}
use Rattle.w_trace.proofs.Runs.{events_are_one_shot, events_are_within}

-- ## Tags of instructions

-- the tag that an instruction names is one of the first n
abbrev NamesTag : ℕ → SwitchingOp → Type 0
NamesTag n (switching.ContNew x) = ⊤
NamesTag n (switching.ContBind x y) = ⊤
NamesTag n (switching.Resume x hs) = ⊤
NamesTag n (switching.Suspend x) = x < n
NamesTag n (switching.Switch x y) = y < n

-- so does what comes next
abbrev NextNamesTag : ℕ → List Administrative → Code → Type 0
NextNamesTag n [] (Plain (op.Switching o) k) = NamesTag n o
NextNamesTag n ahead k = ⊤

-- a tag that has a type is there
tag_there : (c : rules.Context) (x : ℕ) (tag : Option Tag) (t : FuncType) → slice_get c.tags x ≡ tag → tag_in c tag ≡ Some t → x < length c.tags
tag_there c x (Some tag) t at is = slice_get_within c.tags x tag at
tag_there c x None t at is = absurd (cc)

tag_below : (c : rules.Context) (x : ℕ) (t : FuncType) → type_of_tag c x ≡ Some t → x < length c.tags
tag_below c x t is = tag_there c x (slice_get c.tags x) t refl is

-- a suspend has the type of a call only where its tag has one
has_call_type : (gs : List RecGroup) (c : rules.Context) (x : ℕ) (o : Option FuncType) (ts us : Row Operand) → type_of_tag c x ≡ o → HasInstrType gs (call_type o) ts us → x < length c.tags
has_call_type gs c x (Some t) ts us is h = tag_below c x t is
has_call_type gs c x None ts us is h = absurd h

typed_tag : (m : Module) (scope : Scope) (o : SwitchingOp) (ts us : Row Operand) → SwitchingCondition (in_scope m scope) o → HasInstrType m.types (switching_op_type (in_scope m scope) o) ts us
    → NamesTag (length (tags_of m)) o
typed_tag m scope (switching.ContNew x) ts us c h = tt
typed_tag m scope (switching.ContBind x y) ts us c h = tt
typed_tag m scope (switching.Resume x hs) ts us c h = tt
typed_tag m scope (switching.Suspend x) ts us c h = has_call_type m.types (in_scope m scope) x (type_of_tag (in_scope m scope) x) ts us refl h
typed_tag m scope (switching.Switch x y) ts us c h = tag_below (in_scope m scope) y c.tag c.has_tag

-- what comes next in a typed configuration names a tag of the module
next_names : {m : Module} {scope : Scope} {set : List Bool} (ahead : List Administrative) (k : Code) (ts us : Row Operand) → RestTyped m scope set ahead k ts us
    → NextNamesTag (length (tags_of m)) ahead k
next_names {m = m} {scope = scope} [] (Plain (op.Switching o) k) ts us (code_alone h) = typed_tag m scope o ts h.derives.1.0 h.derives.0 h.derives.1.1
next_names [] (Plain (op.Control o) k) ts us h = tt
next_names [] (Plain (op.Parametric o) k) ts us h = tt
next_names [] (Plain (op.Variable o) k) ts us h = tt
next_names [] (Plain (op.Memory o) k) ts us h = tt
next_names [] (Plain (op.Table o) k) ts us h = tt
next_names [] (Plain (op.Numeric o) k) ts us h = tt
next_names [] (Plain (op.Reference o) k) ts us h = tt
next_names [] (Block b x i k) ts us h = tt
next_names [] (If x i k) ts us h = tt
next_names [] (IfElse x i j k) ts us h = tt
next_names [] Done ts us h = tt
next_names (a ∷ ahead) k ts us h = tt

typed_names : (m : Module) (K : Arrows) (us : Row Operand) (s : Store) (t : Term) → Typed m K us s t → NextNamesTag (length (tags_of m)) t.rest.ahead t.rest.code
typed_names m K us s t h = next_names t.rest.ahead t.rest.code h.term.before h.term.after h.term.rest

-- ## Tags of events

-- the tag that an event names is one of the first n
abbrev TellsTag : ℕ → EventKind → Type 0
TellsTag n (New b) = ⊤
TellsTag n (Bind a b) = ⊤
TellsTag n (Resume a) = ⊤
TellsTag n (Suspend x b) = x < n
TellsTag n (Switch a x b) = x < n
TellsTag n Exit = ⊤

abbrev TellsTagIf : ℕ → Option EventKind → Type 0
TellsTagIf n (Some kind) = TellsTag n kind
TellsTagIf n None = ⊤

switching_tells : (n : ℕ) (s : Store) (vs : Row Val) (o : SwitchingOp) (a : Option ℕ) → top_cont vs ≡ a → NamesTag n o → TellsTagIf n (switching_event s vs o)
switching_tells n s vs (switching.ContNew x) a is h = tt
switching_tells n s vs (switching.ContBind x y) (Some a) is h = rw is tt
switching_tells n s vs (switching.ContBind x y) None is h = rw is tt
switching_tells n s vs (switching.Resume x hs) (Some a) is h = rw is tt
switching_tells n s vs (switching.Resume x hs) None is h = rw is tt
switching_tells n s vs (switching.Suspend x) a is h = h
switching_tells n s vs (switching.Switch x y) (Some a) is h = rw is h
switching_tells n s vs (switching.Switch x y) None is h = rw is tt

leaving_tells : (n : ℕ) (e : Context) → TellsTagIf n (leaving_event e)
leaving_tells n [] = tt
leaving_tells n (Label below a again rest ∷ e) = tt
leaving_tells n (Frame below a g locals rest ∷ e) = tt
leaving_tells n (Handle below hs rest ∷ e) = tt

next_tells : (n : ℕ) (s : Store) (e : Context) (vs : Row Val) (ahead : List Administrative) (k : Code) → NextNamesTag n ahead k → TellsTagIf n (next_event s e vs ahead k)
next_tells n s e vs [] (Plain (op.Switching o) k) h = switching_tells n s vs o (top_cont vs) refl h
next_tells n s e vs [] (Plain (op.Control o) k) h = tt
next_tells n s e vs [] (Plain (op.Parametric o) k) h = tt
next_tells n s e vs [] (Plain (op.Variable o) k) h = tt
next_tells n s e vs [] (Plain (op.Memory o) k) h = tt
next_tells n s e vs [] (Plain (op.Table o) k) h = tt
next_tells n s e vs [] (Plain (op.Numeric o) k) h = tt
next_tells n s e vs [] (Plain (op.Reference o) k) h = tt
next_tells n s e vs [] (Block b x i k) h = tt
next_tells n s e vs [] (If x i k) h = tt
next_tells n s e vs [] (IfElse x i j k) h = tt
next_tells n s e vs [] Done h = leaving_tells n e
next_tells n s e vs (a ∷ ahead) k h = tt

-- of an event that a run tells
abbrev Told : ℕ → List Event → Type 0
Told n es = Each (λ (e : Event). TellsTag n e.kind) es

told_append : (n : ℕ) (es fs : List Event) → Told n es → Told n fs → Told n (es ++ fs)
told_append n [] fs h k = k
told_append n (e ∷ es) fs h k = (h.0, told_append n es fs h.1 k)

told_step : (n step : ℕ) (kind : Option EventKind) → TellsTagIf n kind → Told n (option_to_list (with_step step kind))
told_step n step (Some kind) h = (h, tt)
told_step n step None h = tt

told_went : (n step : ℕ) (r : Reduced) (kind : Option EventKind) → TellsTagIf n kind → Told n (option_to_list (with_step step (where_went r kind)))
told_went n step (Went out s t) kind h = told_step n step kind h
told_went n step (Trapped t) kind h = tt
told_went n step (Limited l) kind h = tt
told_went n step (Ended vs) kind h = tt
told_went n step Stuck kind h = tt

told_running : (n step : ℕ) (o : Outcome) (r : Reduced) (kind : Option EventKind) → TellsTagIf n kind → Told n (option_to_list (while_running o (with_step step (where_went r kind))))
told_running n step Running r kind h = told_went n step r kind h
told_running n step (Values vs) r kind h = tt
told_running n step (Traps t) r kind h = tt
told_running n step (Limit l) r kind h = tt
told_running n step NoRule r kind h = tt

-- ## Tags of traps

-- the tag that a trap names is one of the first n
abbrev TrapNames : ℕ → Trap → Type 0
TrapNames n (trap.Unhandled x) = x < n
TrapNames n t = ⊤

own_names : (n : ℕ) (t : Trap) → is_unhandled t ≡ false → TrapNames n t
own_names n trap.Unreachable is = tt
own_names n trap.DivideByZero is = tt
own_names n trap.IntegerOverflow is = tt
own_names n trap.MemoryOutOfBounds is = tt
own_names n trap.TableOutOfBounds is = tt
own_names n trap.UndefinedElement is = tt
own_names n trap.NullElement is = tt
own_names n trap.CallTypeMismatch is = tt
own_names n trap.NullReference is = tt
own_names n trap.ConsumedContinuation is = tt
own_names n (trap.Unhandled x) is = absurd (cc)

-- where it traps, the trap does so
data Names (n : ℕ) : Reduced → Type 0 where
  went : {out : List ℕ} {s : Store} {t : Term} → Names n (Went out s t)
  trapped : {t : Trap} → TrapNames n t → Names n (Trapped t)
  passed_one : {l : RunLimit} → Names n (Limited l)
  ended : {vs : Row Val} → Names n (Ended vs)
  stuck : Names n Stuck

closed : (n : ℕ) → Relates (λ r r'. Names n r)
closed n = record { stuck = stuck; traps = λ t is. trapped (own_names n t is) }

names_or_stuck : {A : Type 0} (n : ℕ) (o : Option A) (go : A → Reduced) → ((a : A) → Names n (go a)) → Names n (or_stuck o go)
names_or_stuck n o go h = both_or_stuck (closed n) o go go h

names_take_value : (n : ℕ) (vs : Row Val) (go : Row Val × Val → Reduced) → ((q : Row Val × Val) → Names n (go q)) → Names n (take_value vs go)
names_take_value n vs go h = both_take_value (closed n) vs go go h

names_take_values : (n k : ℕ) (vs : Row Val) (go : Row Val × Row Val → Reduced) → ((q : Row Val × Row Val) → Names n (go q)) → Names n (take_values k vs go)
names_take_values n k vs go h = both_take_values (closed n) k vs go go h

names_as_function : (n : ℕ) (v : Val) (go : ℕ → Reduced) → ((a : ℕ) → Names n (go a)) → Names n (as_function trap.NullReference v go)
names_as_function n v go h = both_as_function (closed n) trap.NullReference refl v go go h

names_as_continuation : (n : ℕ) (s : Store) (v : Val) (go : ℕ × Continuation → Reduced) → ((q : ℕ × Continuation) → Names n (go q)) → Names n (as_continuation s v go)
names_as_continuation n s v go h = both_as_continuation (closed n) s v go go h

names_or_unhandled : {A : Type 0} (n x : ℕ) (o : Option (Handler A)) (go : Handler A → Reduced) → x < n → ((a : Handler A) → Names n (go a)) → Names n (or_unhandled x o go)
names_or_unhandled n x None go less h = trapped less
names_or_unhandled n x (Some a) go less h = h a

names_switching : (n : ℕ) (p : Program) (s : Store) (e : Context) (vs : Row Val) (o : SwitchingOp) (k : Code) → NamesTag n o → Names n (switching_op p s e vs o k)
names_switching n p s e vs (switching.ContNew x) k h =
    names_take_value n vs _ (λ q. names_as_function n q.1 _ (λ f. names_or_stuck n (cont_of (context_of p.source) x) _ (λ t. went)))
names_switching n p s e vs (switching.ContBind x y) k h =
    names_take_value n vs _ (λ q. names_as_continuation n s q.1 _ (λ a. names_or_stuck n (cont_of (context_of p.source) y) _ (λ t. names_take_values n _ q.0 _ (λ us. went))))
names_switching n p s e vs (switching.Resume x hs) k h = names_take_value n vs _ (λ q. names_as_continuation n s q.1 _ (λ a. names_take_values n _ q.0 _ (λ us. went)))
names_switching n p s e vs (switching.Suspend x) k h =
    names_or_stuck n (type_of_tag (context_of p.source) x) _ (λ t. names_take_values n _ vs _ (λ us. names_or_unhandled n x (find (label_clause x) e) _ h (λ a. went)))
names_switching n p s e vs (switching.Switch x y) k h =
    names_take_value n vs _ (λ q. names_as_continuation n s q.1 _ (λ a. names_or_unhandled n y (find (switch_clause y) e) _ h (λ f.
    names_or_stuck n (cont_of (context_of p.source) x) _ (λ t. names_or_stuck n (back_type _) _ (λ back.
    names_or_stuck n (cont_of (context_of p.source) back) _ (λ u. names_take_values n _ q.0 _ (λ us. went)))))))

-- and so where it is none of a switch
names_own : (n : ℕ) (r : Reduced) → ((t : Trap) → r ≡ Trapped t → is_unhandled t ≡ false) → Names n r
names_own n (Trapped t) h = trapped (own_names n t (h t refl))
names_own n (Went out s t) h = went
names_own n (Limited l) h = passed_one
names_own n (Ended vs) h = ended
names_own n Stuck h = stuck

names_unless : (n : ℕ) (o : Option RunLimit) (r : Reduced) → Names n r → Names n (unless_passed o r)
names_unless n (Some l) r h = passed_one
names_unless n None r h = h

names_limited : (n : ℕ) (r : Reduced) → Names n r → Names n (limited r)
names_limited n (Went out s t) h = names_unless n (passed s t.around) (Went out s t) h
names_limited n (Trapped t) h = h
names_limited n (Limited l) h = h
names_limited n (Ended vs) h = h
names_limited n Stuck h = h

-- ## Runs

-- where a run trapped, the trap does so
abbrev OutcomeNames : ℕ → Outcome → Type 0
OutcomeNames n (Traps t) = TrapNames n t
OutcomeNames n o = ⊤

-- what is told without a further reduction is no trap
told_names : (n : ℕ) (r : Reduced) → OutcomeNames n (outcome_by r)
told_names n (Went out s t) = tt
told_names n (Trapped t) = tt
told_names n (Limited l) = tt
told_names n (Ended vs) = tt
told_names n Stuck = tt

after_names : (n : ℕ) (p : Program) (r : RunState) (d : Reduced) → Names n d → OutcomeNames n r.outcome → OutcomeNames n (after_reduction p r d).outcome
after_names n p r (Went out s t) h k = told_names n (reduce p s t)
after_names n p r (Trapped t) (trapped h) k = h
after_names n p r (Limited l) h k = tt
after_names n p r (Ended vs) h k = k
after_names n p r Stuck h k = k

continued_names : (n : ℕ) (p : Program) (r : RunState) (o : Outcome) → Names n (reduce p r.store r.term) → OutcomeNames n r.outcome → OutcomeNames n (continued p r o).outcome
continued_names n p r Running h k = after_names n p r (reduce p r.store r.term) h k
continued_names n p r (Values vs) h k = k
continued_names n p r (Traps t) h k = k
continued_names n p r (Limit l) h k = k
continued_names n p r NoRule h k = k

-- ## Ranges

kind_fits : (tags n : ℕ) → tags ≤ 2 ^ 32 → n < 2 ^ 64 → (kind : EventKind) → Each (λ (u : Use). address_of u < n) (uses kind) → TellsTag tags kind → KindFits kind
kind_fits tags n few short (New b) used h = let b_in = used.0 in omega (arith, short, b_in)
kind_fits tags n few short (Bind a b) used h = let a_in = used.0 in let b_in = used.1.0 in (omega (arith, short, a_in), omega (arith, short, b_in))
kind_fits tags n few short (Resume a) used h = let a_in = used.0 in omega (arith, short, a_in)
kind_fits tags n few short (Suspend x b) used h = let b_in = used.0 in (omega (arith, few, h), omega (arith, short, b_in))
kind_fits tags n few short (Switch a x b) used h =
    let a_in = used.0 in let b_in = used.1.0 in (omega (arith, short, a_in), omega (arith, few, h), omega (arith, short, b_in))
kind_fits tags n few short Exit used h = tt

trap_fits : (tags : ℕ) → tags ≤ 2 ^ 32 → (t : Trap) → TrapNames tags t → TrapFits t
trap_fits tags few trap.Unreachable h = tt
trap_fits tags few trap.DivideByZero h = tt
trap_fits tags few trap.IntegerOverflow h = tt
trap_fits tags few trap.MemoryOutOfBounds h = tt
trap_fits tags few trap.TableOutOfBounds h = tt
trap_fits tags few trap.UndefinedElement h = tt
trap_fits tags few trap.NullElement h = tt
trap_fits tags few trap.CallTypeMismatch h = tt
trap_fits tags few trap.NullReference h = tt
trap_fits tags few trap.ConsumedContinuation h = tt
trap_fits tags few (trap.Unhandled x) h = omega (arith, few, h)

ending_fits : (tags : ℕ) → tags ≤ 2 ^ 32 → (o : Outcome) → OutcomeNames tags o → EndingFits (ending_of o)
ending_fits tags few Running h = tt
ending_fits tags few (Values vs) h = tt
ending_fits tags few (Traps t) h = trap_fits tags few t h
ending_fits tags few (Limit l) h = tt
ending_fits tags few NoRule h = tt

lines_fit : (tags n : ℕ) → tags ≤ 2 ^ 32 → n < 2 ^ 64 → (es : List Event) (last : Line) → AreWithin n es → Told tags es → LineFits last → Each LineFits (map line.Event es ++ last ∷ [])
lines_fit tags n few short [] last within told h = (h, tt)
lines_fit tags n few short (e ∷ es) last within told h =
    let among = within.0 in let step = among.to_last in
    ((omega (arith, short, step), kind_fits tags n few short e.kind among.addresses told.0), lines_fit tags n few short es last within.1 told.1 h)

-- what is known of a run after n reductions
record RunTells (tags n : ℕ) (r : RunState) (es : List Event) : Type 0 where
  taken : r.taken ≤ n
  told : Told tags es
  ends : OutcomeNames tags r.outcome

taken_after : (p : Program) (r : RunState) (d : Reduced) (n : ℕ) → r.taken ≤ n → (after_reduction p r d).taken ≤ suc n
taken_after p r (Went out s t) n h = omega (arith, h)
taken_after p r (Trapped t) n h = omega (arith, h)
taken_after p r (Limited l) n h = omega (arith, h)
taken_after p r (Ended vs) n h = omega (arith, h)
taken_after p r Stuck n h = omega (arith, h)

taken_continued : (p : Program) (r : RunState) (o : Outcome) (n : ℕ) → r.taken ≤ n → (continued p r o).taken ≤ suc n
taken_continued p r Running n h = taken_after p r (reduce p r.store r.term) n h
taken_continued p r (Values vs) n h = omega (arith, h)
taken_continued p r (Traps t) n h = omega (arith, h)
taken_continued p r (Limit l) n h = omega (arith, h)
taken_continued p r NoRule n h = omega (arith, h)

module _ (only : OnlySwitchesAreUnhandled) where
  own_next : (n : ℕ) (p : Program) (s : Store) (e : Context) (vs : Row Val) (ahead : List Administrative) (k : Code) → switches ahead k ≡ false → Names n (next p s e vs ahead k)
  own_next n p s e vs ahead k is = names_own n (next p s e vs ahead k) (only p s e vs ahead k is)

  names_next : (n : ℕ) (p : Program) (s : Store) (e : Context) (vs : Row Val) (ahead : List Administrative) (k : Code) → NextNamesTag n ahead k → Names n (next p s e vs ahead k)
  names_next n p s e vs [] (Plain (op.Switching o) k) h = names_switching n p s e vs o k h
  names_next n p s e vs [] (Plain (op.Control o) k) h = own_next n p s e vs [] (Plain (op.Control o) k) refl
  names_next n p s e vs [] (Plain (op.Parametric o) k) h = own_next n p s e vs [] (Plain (op.Parametric o) k) refl
  names_next n p s e vs [] (Plain (op.Variable o) k) h = own_next n p s e vs [] (Plain (op.Variable o) k) refl
  names_next n p s e vs [] (Plain (op.Memory o) k) h = own_next n p s e vs [] (Plain (op.Memory o) k) refl
  names_next n p s e vs [] (Plain (op.Table o) k) h = own_next n p s e vs [] (Plain (op.Table o) k) refl
  names_next n p s e vs [] (Plain (op.Numeric o) k) h = own_next n p s e vs [] (Plain (op.Numeric o) k) refl
  names_next n p s e vs [] (Plain (op.Reference o) k) h = own_next n p s e vs [] (Plain (op.Reference o) k) refl
  names_next n p s e vs [] (Block b x i k) h = own_next n p s e vs [] (Block b x i k) refl
  names_next n p s e vs [] (If x i k) h = own_next n p s e vs [] (If x i k) refl
  names_next n p s e vs [] (IfElse x i j k) h = own_next n p s e vs [] (IfElse x i j k) refl
  names_next n p s e vs [] Done h = own_next n p s e vs [] Done refl
  names_next n p s e vs (a ∷ ahead) k h = own_next n p s e vs (a ∷ ahead) k refl

  reduction_names : (n : ℕ) (p : Program) (s : Store) (t : Term) → NextNamesTag n t.rest.ahead t.rest.code → Names n (reduce p s t)
  reduction_names n p s t h = names_limited n (next p s t.around t.operands t.rest.ahead t.rest.code) (names_next n p s t.around t.operands t.rest.ahead t.rest.code h)

  one_more : (tags n : ℕ) (p : Program) (r : RunState) (es : List Event) → NextNamesTag tags r.term.rest.ahead r.term.rest.code → RunTells tags n r es
      → RunTells tags (suc n) (continued p r r.outcome) (es ++ option_to_list (event_after p r))
  one_more tags n p r es next h = record {
    taken = taken_continued p r r.outcome n h.taken;
    told = told_append tags es (option_to_list (event_after p r)) h.told
        (told_running tags (suc r.taken) r.outcome (reduce p r.store r.term) (event_of r.store r.term) (next_tells tags r.store r.term.around r.term.operands r.term.rest.ahead r.term.rest.code next));
    ends = continued_names tags p r r.outcome (reduction_names tags p r.store r.term next) h.ends;
  }

  module _ (runs : RunsAreTyped) (p : Program) (program : IsProgram p) (sound : Sound p.source) (K : Arrows) (us : Row Operand) (s : Store) (t : Term) (typed : Typed p.source K us s t) where
    names_at : (n : ℕ) → NextNamesTag (length (tags_of p.source)) (Run p s t n).term.rest.ahead (Run p s t n).term.rest.code
    names_at n = let at = runs p K us s t program sound typed n in typed_names p.source at.arrows us (Run p s t n).store (Run p s t n).term at.typed

    run_tells : (n : ℕ) → RunTells (length (tags_of p.source)) n (Run p s t n) (Events p s t n)
    run_tells zero = record { taken = omega arith; told = tt; ends = told_names (length (tags_of p.source)) (reduce p s t) }
    run_tells (suc n) = one_more (length (tags_of p.source)) n p (Run p s t n) (Events p s t n) (names_at n) (run_tells n)

-- the numbers of a trace are in their ranges
pub traces_fit : StartsAreTyped → RunsAreTyped → PlainReductionsGoApart → OnlySwitchesAreUnhandled → TracesFit
traces_fit starts runs plain only p s t program sound ready few n short =
    let start = starts p s t program sound ready in
    let told = run_tells only runs p program sound [] _ s t start.typed n in
    let within = events_are_within plain p s t n (no_arrows start.typed.store.conts) in
    let taken = told.taken in
    lines_fit (length (tags_of p.source)) n few short (Events p s t n) (line.End (Run p s t n).taken (ending_of (Run p s t n).outcome)) within.1 told.told
    (omega (arith, short, taken), ending_fits (length (tags_of p.source)) few (Run p s t n).outcome told.ends)

pub runs_one_shot : StartsAreTyped → PlainReductionsGoApart → RunsAreOneShot
runs_one_shot starts plain p s t program sound ready n = events_are_one_shot plain p s t n (no_arrows (starts p s t program sound ready).typed.store.conts)
