-- The same of a machine's own fields.
use Rattle.std.proofs.Common.{◌≡◌, ℕ, ◌+◌, ◌-◌, ◌<◌, ◌≤◌, false, is_some, List, length, Option, Some, None, refl, sym, subst, subst₂, ◌∙◌, arith}
use Rattle.std.specs.Prelude.{Box}
use Rattle.std.specs.declared.alloc.Global.{Global}
use Rattle.w_syntax.specs.declared.module.Module.{Module}
use Rattle.w_canon.specs.declared.entry.Entry.{Entry}
use Rattle.w_canon.specs.IsClassesOf.{IsClassesOf}
use Rattle.w_rules.specs.Sound.{Sound}
use Rattle.w_segment.specs.declared.segment.Segment.{Segment}
use Rattle.w_segment.specs.Link.{Link}
use Rattle.w_conts.specs.Conts.{live_of}
use Rattle.w_configuration.specs.declared.stop.RunStop.{RunStop}
use Rattle.w_configuration.specs.declared.configuration.Configuration.{Configuration as Parts}
use Rattle.w_configuration.specs.Standing.{StandsSomewhere}
use Rattle.w_configuration.specs.Reducing.{PartsReduce}
use Rattle.w_machine.specs.Position.{Position, counted, Steps, most_reductions}
use Rattle.w_machine.specs.Beginning.{Origin}
use Rattle.w_machine.specs.Reached.{IsReached}
use Rattle.w_machine.proofs.OneMoreReduction.{stands_somewhere}
use Rattle.w_configuration.proofs.PartsOfRuns.{stopped_as}
use Rattle.w_configuration.proofs.ReductionsTaken.{chained_long}
use Rattle.w_machine.proofs.RunsGoOn.{with_chain, HasTurned, advanced, stepped}
use Rattle.w_machine.proofs.StoppedMachines.{stopped, step_stopped}

none_stopped : (k : Option RunStop) → false ≡ is_some k → k ≡ None
none_stopped None e = refl
none_stopped (Some k) e = absurd (cc)

reduces_here : (r : Option RunStop) {m m' : Module} (x x' : Parts) (before now : Option (List ℕ)) → m' ≡ m → PartsReduce r m' x x' before now → PartsReduce r m x x' before now
reduces_here r x x' before now program h = subst (λ (y : Module). PartsReduce r y x x' before now) program h

module _ {from : Origin} {m' : Module} {functions : List ℕ} {x : Parts} {waiting : List (Box Segment Global)} {n a b : ℕ}
    (k : Option RunStop) (program : m' ≡ from.source) (none : false ≡ is_some k) (h : IsReached from functions x waiting k n a b) where
  reached : IsReached from functions x waiting None n a b
  reached = subst (λ (o : Option RunStop). IsReached from functions x waiting o n a b) (none_stopped k none) h

  -- it stands somewhere
  pub machine_stands : (es : List Entry) → IsClassesOf from.source.types es → StandsSomewhere m' x
  machine_stands es classes = subst (λ (y : Module). StandsSomewhere y x) (sym program) (stands_somewhere es classes reached)

  -- it has made few continuations
  pub machine_few : n < most_reductions → length x.conts.entries < most_reductions
  machine_few lt = let few = reached.usable.1 in omega (arith, few, lt)

  -- and will have made few once it has taken as many reductions as it may
  pub machine_few_more : (end : ℕ) → n < end → end ≤ most_reductions → length x.conts.entries + (end - n) ≤ most_reductions
  machine_few_more end lt le = let few = reached.usable.1 in omega (arith, few, lt, le)

  -- where it took a reduction there are segments
  pub machine_went_long : (x' : Parts) (before now : Option (List ℕ)) (es : List Entry) → IsClassesOf from.source.types es → PartsReduce None m' x x' before now → 0 < length x'.chain
  machine_went_long x' before now es classes goes =
      let here = stands_somewhere es classes reached in
      chained_long (reduces_here None x x' before now program goes here.waiting here.p here.ks here.t here.stands).stand.term

  -- it took a reduction
  pub machine_advanced : (x' : Parts) (before now : Option (List ℕ)) {chain : List Link} {waiting' : List (Box Segment Global)} (es : List Entry) → IsClassesOf from.source.types es → Sound from.source
      → n < most_reductions → PartsReduce None m' x x' before now → HasTurned waiting x'.chain chain waiting' → IsReached from functions (with_chain chain x') waiting' k (n + 1) a b
  machine_advanced x' before now {chain = chain} {waiting' = waiting'} es classes sound lt goes t =
      subst (λ (o : Option RunStop). IsReached from functions (with_chain chain x') waiting' o (n + 1) a b) (sym (none_stopped k none))
      (advanced es classes sound reached lt (reduces_here None x x' before now program goes) t)

  -- it was stopped
  pub machine_stopped : (x' : Parts) (before now : Option (List ℕ)) (y : RunStop) (c made_then live_then : ℕ) → c ≡ counted y → made_then ≡ length x.conts.entries → live_then ≡ live_of x.conts
      → (es : List Entry) → IsClassesOf from.source.types es → n < most_reductions → PartsReduce (Some y) m' x x' before now
      → IsReached from functions x' waiting (Some y) (n + c) made_then live_then
  machine_stopped x' before now y c made_then live_then count made_is live_is es classes lt goes =
      stopped x' before now y c count made_is live_is (stands_somewhere es classes reached) reached lt (reduces_here (Some y) x x' before now program goes)

  -- its step
  pub machine_steps : (x' : Parts) (before now : Option (List ℕ)) (q : Position) (r : Option RunStop) → record { origin = from; taken = n; stop = k } ≡ q → r ≡ None
      → Sound from.source → PartsReduce None m' x x' before now → Steps q r (record { origin = from; taken = n + 1; stop = k }) before now
  machine_steps x' before now q r view is sound goes =
      subst₂ (λ (y : Position) (z : Option RunStop). Steps y z (record { origin = from; taken = n + 1; stop = k }) before now) view (sym is)
      (subst (λ (o : Option RunStop). Steps (record { origin = from; taken = n; stop = o }) None (record { origin = from; taken = n + 1; stop = o }) before now) (sym (none_stopped k none))
      (stepped (record { origin = from; taken = n; stop = None }) sound reached (reduces_here None x x' before now program goes)))

  pub machine_step_stopped : (x' : Parts) (before now : Option (List ℕ)) (q : Position) (y : RunStop) (c : ℕ) → record { origin = from; taken = n; stop = k } ≡ q
      → c ≡ counted y → PartsReduce (Some y) m' x x' before now → Steps q (Some y) (record { origin = from; taken = n + c; stop = Some y }) before now
  machine_step_stopped x' before now q y c view count goes =
      subst (λ (z : Position). Steps z (Some y) (record { origin = from; taken = n + c; stop = Some y }) before now) view
      (subst (λ (o : Option RunStop). Steps (record { origin = from; taken = n; stop = o }) (Some y) (record { origin = from; taken = n + c; stop = Some y }) before now) (sym (none_stopped k none))
      (step_stopped x' before now (record { origin = from; taken = n; stop = None }) y c count reached (reduces_here (Some y) x x' before now program goes)))

-- ## Where what stops a machine is kept as it comes

-- nothing is there, or something
pub nothing_stopped : (k : Option RunStop) → is_some k ≡ false → k ≡ None
nothing_stopped None e = refl
nothing_stopped (Some k) e = absurd (cc)

module _ {from : Origin} {m' : Module} {functions : List ℕ} {x : Parts} {waiting : List (Box Segment Global)} {n a b : ℕ}
    (k : Option RunStop) (program : m' ≡ from.source) (none : false ≡ is_some k) (h : IsReached from functions x waiting k n a b) (r : Option RunStop) where
  -- where it took a reduction there are segments
  pub segments_stay : (x' : Parts) (before now : Option (List ℕ)) (es : List Entry) → IsClassesOf from.source.types es → r ≡ None → PartsReduce r m' x x' before now → 0 < length x'.chain
  segments_stay x' before now es classes nothing goes = machine_went_long k program none h x' before now es classes (stopped_as m' x x' before now r None nothing goes)

  -- it took a reduction, and keeps nothing
  pub keeps_nothing : (x' : Parts) (before now : Option (List ℕ)) {chain : List Link} {waiting' : List (Box Segment Global)} (es : List Entry) → IsClassesOf from.source.types es → Sound from.source
      → n < most_reductions → r ≡ None → PartsReduce r m' x x' before now → HasTurned waiting x'.chain chain waiting' → IsReached from functions (with_chain chain x') waiting' r (n + 1) a b
  keeps_nothing x' before now {chain = chain} {waiting' = waiting'} es classes sound lt nothing goes t =
      subst (λ (o : Option RunStop). IsReached from functions (with_chain chain x') waiting' o (n + 1) a b) (none_stopped k none ∙ sym nothing)
      (machine_advanced k program none h x' before now es classes sound lt (stopped_as m' x x' before now r None nothing goes) t)

  -- it was stopped, and keeps why
  pub keeps_something : (x' : Parts) (before now : Option (List ℕ)) (y : RunStop) (c made_then live_then : ℕ) → c ≡ counted y → made_then ≡ length x.conts.entries → live_then ≡ live_of x.conts
      → (es : List Entry) → IsClassesOf from.source.types es → n < most_reductions → r ≡ Some y → PartsReduce r m' x x' before now
      → IsReached from functions x' waiting r (n + c) made_then live_then
  keeps_something x' before now y c made_then live_then count made_is live_is es classes lt is goes =
      subst (λ (o : Option RunStop). IsReached from functions x' waiting o (n + c) made_then live_then) (sym is)
      (machine_stopped k program none h x' before now y c made_then live_then count made_is live_is es classes lt (stopped_as m' x x' before now r (Some y) is goes))

  -- its step
  pub steps_on : (x' : Parts) (before now : Option (List ℕ)) (q : Position) → record { origin = from; taken = n; stop = k } ≡ q → r ≡ None
      → Sound from.source → PartsReduce r m' x x' before now → Steps q r (record { origin = from; taken = n + 1; stop = r }) before now
  steps_on x' before now q view nothing sound goes =
      subst (λ (o : Option RunStop). Steps q r (record { origin = from; taken = n + 1; stop = o }) before now) (none_stopped k none ∙ sym nothing)
      (machine_steps k program none h x' before now q r view nothing sound (stopped_as m' x x' before now r None nothing goes))

  pub steps_last : (x' : Parts) (before now : Option (List ℕ)) (q : Position) (y : RunStop) (c : ℕ) → record { origin = from; taken = n; stop = k } ≡ q
      → c ≡ counted y → r ≡ Some y → PartsReduce r m' x x' before now → Steps q r (record { origin = from; taken = n + c; stop = r }) before now
  steps_last x' before now q y c view count is goes =
      subst (λ (o : Option RunStop). Steps q o (record { origin = from; taken = n + c; stop = o }) before now) (sym is)
      (machine_step_stopped k program none h x' before now q y c view count (stopped_as m' x x' before now r (Some y) is goes))
