-- What a machine stands for after common reductions.
use Rattle.std.proofs.Common.{◌≡◌, ◌⊎◌, inl, inr, ◌+◌, ◌<◌, ◌≤◌, ℕ, Bool, true, false, List, [], ◌∷◌, length, All, Option, Some, None, refl, sym, ap, subst, subst₂, ◌∙◌, arith}
use Rattle.std.specs.Prelude.{Box}
use Rattle.std.specs.declared.alloc.Global.{Global}
use Rattle.w_canon.specs.declared.entry.Entry.{Entry}
use Rattle.w_canon.specs.IsClassesOf.{IsClassesOf}
use Rattle.w_conts.specs.Conts.{live_of}
use Rattle.w_rules.specs.Sound.{Sound}
use Rattle.w_syntax.specs.declared.module.Module.{Module}
use Rattle.w_segment.specs.declared.entry.Stage.{Stage}
use Rattle.w_segment.specs.declared.entry.Stage.TheVariants.{Fresh, Body, Branch, Values as AtValues}
use Rattle.w_segment.specs.declared.segment.Segment.{Segment}
use Rattle.w_segment.specs.Link.{Link, top, with_top}
use Rattle.w_segment.specs.Shape.{Shape, SameParts}
use Rattle.w_stands.specs.Room.{Roomier}
use Rattle.w_switching.proofs.References.{long_top}
use Rattle.w_configuration.specs.declared.stop.RunStop.{RunStop}
use Rattle.w_configuration.specs.declared.configuration.Configuration.{Configuration as Parts}
use Rattle.w_configuration.specs.Parts.{parts}
use Rattle.w_machine.specs.Beginning.{Origin}
use Rattle.w_machine.specs.Position.{Position, counted, most_reductions}
use Rattle.w_machine.specs.Reached.{IsFresh, IsTurned, is_values, is_last, IsReached}
use Rattle.w_configuration.specs.CommonReductions.{EndsBy, IsInRun, LeavesAlone, TakesAtMost, TakesOne, TakesMany, nothing, one_more, HastensParts}
use Rattle.w_configuration.specs.declared.hastened.Hastened.{Hastened}
use Rattle.w_configuration.specs.declared.hastened.Then.{Then}
use Rattle.w_configuration.specs.declared.hastened.Then.TheVariants as then
use Rattle.w_machine.specs.GoingOn.{GoesSilently, Hastens}
use Rattle.w_machine.proofs.OneMoreReduction.{stands_somewhere, is_last_true}
use Rattle.w_machine.proofs.RunsGoOn.{stays_on, with_chain, HasTurned, turned, advanced, stepped}
use Rattle.w_machine.proofs.StoppedMachines.{stopped, step_stopped}
use Rattle.w_configuration.proofs.CommonReductions.{in_run_in_body, left_as_it_was, stands_same}
use Rattle.w_configuration.proofs.ReductionsTaken.{chained_long}
use Rattle.w_machine.proofs.GoingOn.{one_without, goes_one, goes_further, same_further, silently_nowhere}

-- ## Whose turn it is

not_values : (k : Stage) → (k ≡ AtValues → ⊥) → is_values k ≡ false
not_values AtValues h = absurd (h refl)
not_values Fresh h = refl
not_values Body h = refl
not_values (Branch l) h = refl

-- a segment that isn't values, or for which another waits, isn't left
not_last : (xs : List Link) → IsInRun xs → is_last xs ≡ false
not_last [] inside = refl
not_last (x ∷ []) inside = not_values x.shape.stage (λ e. absurd (let some = inside e in omega (arith, some)))
not_last (x ∷ y ∷ ys) inside = refl

-- nor is it with other room
last_with : (s : Shape) (xs : List Link) → SameParts (top xs).shape s → is_last (with_top s xs) ≡ is_last xs
last_with s [] h = refl
last_with s (x ∷ []) h = ap is_values h.stage
last_with s (x ∷ y ∷ ys) h = refl

-- so it runs on
runs_on : {waiting : List (Box Segment Global)} (xs : List Link) → 0 < length xs → All IsFresh waiting → is_last xs ≡ false → HasTurned waiting xs xs waiting
runs_on xs some fresh not = record { some = some; fresh = fresh; turn = stays_on (λ e. absurd (let is = is_last_true xs e in cc)) }

-- ## With other room

-- the parts stand for the run that they stood for
pub reached_same : {from : Origin} {functions : List ℕ} {x : Parts} {waiting : List (Box Segment Global)} {n a b : ℕ} (s : Shape) → Roomier (top x.chain).shape s
    → IsReached from functions x waiting None n a b → IsReached from functions (parts x.store (with_top s x.chain) x.conts) waiting None n a b
reached_same {x = x} s same h = record {
  functions_are = h.functions_are;
  fresh = h.fresh;
  bound = h.bound;
  usable = ((let long = long_top s x.chain in let some = h.usable.0 in omega (arith, long, some)), h.usable.1);
  started = h.started;
  fewer = h.fewer;
  reached = λ p s₀ t₀ begins. let at = h.reached p s₀ t₀ begins in record { ks = at.ks; t = at.t; stands = stands_same s same at.stands; is = at.is };
}

-- ## What is behind those that were taken

-- so many were taken, and no other was
pub record LeavesBehind (quiet : Bool) (n : ℕ) (m : Module) (x x' : Parts) : Type 0 where
  pub between : Parts
  pub many : TakesMany quiet m x n between
  pub left : LeavesAlone between x'

-- or the next one stopped the run
pub record StopsBehind (quiet : Bool) (k : RunStop) (made_then live_then n : ℕ) (m : Module) (x x' : Parts) : Type 0 where
  pub between : Parts
  pub many : TakesMany quiet m x n between
  pub one : TakesOne quiet (Some k) m between x'
  pub made : made_then ≡ length between.conts.entries
  pub live : live_then ≡ live_of between.conts

module _ {quiet : Bool} {m : Module} {x x' : Parts} (done : Hastened) (h : HastensParts quiet done m x x') where
  ends_by : (e : Then) → done.then ≡ e → EndsBy e quiet m h.between x'
  ends_by e is = subst (λ (y : Then). EndsBy y quiet m h.between x') is h.last

  pub leaves_behind : (done.then ≡ then.On) ⊎ (done.then ≡ then.Left) → LeavesBehind quiet done.taken m x x'
  leaves_behind (inl on) = record { between = h.between; many = h.many; left = subst (LeavesAlone h.between) (sym (ends_by then.On on)) (left_as_it_was h.between) }
  leaves_behind (inr left) = record { between = h.between; many = h.many; left = ends_by then.Left left }

  pub stops_behind : (k : RunStop) (made_then live_then : ℕ) → done.then ≡ then.Stopped k made_then live_then → StopsBehind quiet k made_then live_then done.taken m x x'
  stops_behind k made_then live_then is =
      let last = ends_by (then.Stopped k made_then live_then) is in
      record { between = h.between; many = h.many; one = last.0; made = last.1; live = last.2 }

-- how many were taken
pub few_taken : (e : Then) (taken most : ℕ) → (e ≡ then.On) ⊎ (e ≡ then.Left) → TakesAtMost e taken most → taken ≤ most
few_taken e taken most (inl on) h = (subst (λ (y : Then). TakesAtMost y taken most) on h).0
few_taken e taken most (inr left) h = subst (λ (y : Then). TakesAtMost y taken most) left h

pub fewer_taken : (e : Then) (taken most : ℕ) (k : RunStop) (made_then live_then : ℕ) → e ≡ then.Stopped k made_then live_then → TakesAtMost e taken most → taken < most
fewer_taken e taken most k made_then live_then is h = subst (λ (y : Then). TakesAtMost y taken most) is h

-- ## From where a machine stands

module _ {from : Origin} {functions : List ℕ} {x : Parts} {waiting : List (Box Segment Global)} {n a b : ℕ} (es : List Entry) (classes : IsClassesOf from.source.types es)
    (sound : Sound from.source) (k : Option RunStop) (none : k ≡ None) (h : IsReached from functions x waiting k n a b) where
  abbrev At : ℕ → Position
  At i = record { origin = from; taken = i; stop = None }

  abbrev Reached : Parts → ℕ → Type 0
  Reached y i = IsReached from functions y waiting None i a b

  -- where one was taken there are segments
  long_after : {quiet : Bool} {y z : Parts} {i : ℕ} → Reached y i → TakesOne quiet None from.source y z → 0 < length z.chain
  long_after before one =
      let here = stands_somewhere es classes before in
      chained_long (one.reduces None here.waiting here.p here.ks here.t here.stands).stand.term

  -- where no other's turn comes it stands for the run after as many
  reached_many : {quiet : Bool} {i : ℕ} {y : Parts} → TakesMany quiet from.source x i y → IsInRun y.chain → n + i ≤ most_reductions → Reached y (n + i)
  reached_many nothing inside few = subst (Reached x) (let e : n ≡ n + 0 = omega arith in e) (subst (λ (o : Option RunStop). IsReached from functions x waiting o n a b) none h)
  reached_many (one_more {n = i} {y = y} {z = z} many one) inside few =
      let before = reached_many many one.inside (omega (arith, few)) in
      subst (Reached z) (let e : n + i + 1 ≡ n + (i + 1) = omega arith in e)
      (advanced es classes sound before (omega (arith, few)) (one.reduces None) (runs_on z.chain (long_after before one) before.fresh (not_last z.chain inside)))

  -- each of them prints nothing, and has no event where it is quiet
  silent_one : {quiet : Bool} {i : ℕ} {y z : Parts} → Reached y i → TakesOne quiet None from.source y z → GoesSilently quiet (At i) (At (i + 1))
  silent_one {i = i} before one = record {
    goes = λ held. goes_one {old = At i} {new = At (i + 1)} None refl refl (stepped (At i) sound before (one.reduces held));
    events = λ quiet. one_without None refl refl (one.quietly quiet).silent before refl (i + 1) refl;
  }

  silent_further : (quiet : Bool) (p q r : Position) → GoesSilently quiet p q → GoesSilently quiet q r → GoesSilently quiet p r
  silent_further quiet p q r f g = record { goes = λ held. goes_further (f.goes held) (g.goes held); events = λ e. same_further p q r (f.goes None).is (f.events e) (g.events e) }

  silent_many : {quiet : Bool} {i : ℕ} {y : Parts} → TakesMany quiet from.source x i y → n + i ≤ most_reductions → GoesSilently quiet (At n) (At (n + i))
  silent_many {quiet = quiet} nothing few = subst (λ (j : ℕ). GoesSilently quiet (At n) (At j)) (let e : n ≡ n + 0 = omega arith in e) (silently_nowhere quiet (At n))
  silent_many {quiet = quiet} (one_more {n = i} many one) few =
      subst (λ (j : ℕ). GoesSilently quiet (At n) (At j)) (let e : n + i + 1 ≡ n + (i + 1) = omega arith in e)
      (silent_further quiet (At n) (At (n + i)) (At (n + i + 1)) (silent_many many (omega (arith, few))) (silent_one (reached_many many one.inside (omega (arith, few))) one))

  -- ## Where nothing stopped it

  -- where none was taken it stands where it stood
  pub reached_still : {quiet : Bool} {i : ℕ} {x' : Parts} → i ≡ 0 → LeavesBehind quiet i from.source x x' → IsReached from functions x' waiting k (n + i) a b
  reached_still {quiet = quiet} {i = i} {x' = x'} zero g = by zero g.many g.left
    where
      by : {j : ℕ} {y : Parts} → j ≡ 0 → TakesMany quiet from.source x j y → LeavesAlone y x' → IsReached from functions x' waiting k (n + j) a b
      by e nothing left =
          subst (λ (o : Option RunStop). IsReached from functions x' waiting o (n + 0) a b) (sym none)
          (subst (λ (z : Parts). Reached z (n + 0)) (sym left.is)
          (reached_same left.shape left.same
          (subst (Reached x) (let same : n ≡ n + 0 = omega arith in same) (subst (λ (o : Option RunStop). IsReached from functions x waiting o n a b) none h))))
      by e (one_more {n = j} many one) left = absurd (omega (arith, e))

  -- and else it has segments
  long_many : {quiet : Bool} {i : ℕ} {y x' : Parts} → 0 < i → n + i ≤ most_reductions → TakesMany quiet from.source x i y → LeavesAlone y x' → 0 < length x'.chain
  long_many some few nothing left = absurd (omega (arith, some))
  long_many {x' = x'} some few (one_more {n = i} {y = y} {z = z} many one) left =
      let long = long_after (reached_many many one.inside (omega (arith, few))) one in
      let same = ap (λ (u : Parts). length u.chain) left.is in
      let kept = long_top left.shape z.chain in
      omega (arith, long, same, kept)

  pub hastened_long : {quiet : Bool} {i : ℕ} {x' : Parts} → 0 < i → n + i ≤ most_reductions → LeavesBehind quiet i from.source x x' → 0 < length x'.chain
  hastened_long some few g = long_many some few g.many g.left

  -- by whether a segment was left, behind which the turn of the next one comes
  module _ (x' : Parts) (chain : List Link) {waiting' : List (Box Segment Global)} (stays : is_last x'.chain ≡ false → (chain ≡ x'.chain) × (waiting' ≡ waiting))
      (turns : is_last x'.chain ≡ true → IsTurned waiting x'.chain chain waiting') where
    abbrev After : ℕ → Type 0
    After i = IsReached from functions (with_chain chain x') waiting' None i a b

    turned_after : {quiet : Bool} {i : ℕ} {y z : Parts} → Reached y i → i < most_reductions → TakesOne quiet None from.source y z → LeavesAlone z x' → (last : Bool) → is_last z.chain ≡ last → After (i + 1)
    turned_after {quiet = quiet} {i = i} {y = y} {z = z} before few one left true is =
        let same : x' ≡ z = left.outside (λ body. absurd (let not = not_last z.chain (in_run_in_body z.chain body) in cc)) in
        let goes = subst (λ (u : Parts). TakesOne quiet None from.source y u) (sym same) one in
        advanced es classes sound before few (goes.reduces None) (turned x'.chain chain before.fresh (long_after before goes) stays turns)
    turned_after {i = i} {z = z} before few one left false is =
        let on = advanced es classes sound before few (one.reduces None) (runs_on z.chain (long_after before one) before.fresh is) in
        let roomier : Reached x' (i + 1) = subst (λ (u : Parts). Reached u (i + 1)) (sym left.is) (reached_same left.shape left.same on) in
        let not : is_last x'.chain ≡ false = ap (λ (u : Parts). is_last u.chain) left.is ∙ last_with left.shape z.chain left.same.same ∙ is in
        let stay = stays not in
        subst₂ (λ (xs : List Link) (w : List (Box Segment Global)). IsReached from functions (with_chain xs x') w None (i + 1) a b) (sym stay.0) (sym stay.1) roomier

    many_turned : {quiet : Bool} {i : ℕ} {y : Parts} → 0 < i → n + i ≤ most_reductions → TakesMany quiet from.source x i y → LeavesAlone y x' → After (n + i)
    many_turned some few nothing left = absurd (omega (arith, some))
    many_turned some few (one_more {n = i} {z = z} many one) left =
        subst After (let e : n + i + 1 ≡ n + (i + 1) = omega arith in e)
        (turned_after (reached_many many one.inside (omega (arith, few))) (omega (arith, few)) one left (is_last z.chain) refl)

    pub reached_turned : {quiet : Bool} {i : ℕ} → 0 < i → n + i ≤ most_reductions → LeavesBehind quiet i from.source x x' → IsReached from functions (with_chain chain x') waiting' k (n + i) a b
    reached_turned {i = i} some few g =
        subst (λ (o : Option RunStop). IsReached from functions (with_chain chain x') waiting' o (n + i) a b) (sym none) (many_turned some few g.many g.left)

  -- ## Where the next one stopped it

  pub reached_stopped : {quiet : Bool} {i : ℕ} {x' : Parts} (k : RunStop) (c made_then live_then : ℕ) → c ≡ counted k → n + i < most_reductions → StopsBehind quiet k made_then live_then i from.source x x'
      → IsReached from functions x' waiting (Some k) (n + i + c) made_then live_then
  reached_stopped {x' = x'} k c made_then live_then count few g =
      let one = g.one in
      let before = reached_many g.many one.inside (omega (arith, few)) in
      stopped x' None None k c count g.made g.live (stands_somewhere es classes before) before few (one.reduces None)

  -- ## What is seen of it

  module _ (q : Position) (view : record { origin = from; taken = n; stop = k } ≡ q) where
    from_here : At n ≡ q
    from_here = ap (λ (o : Option RunStop). let z : Position = record { origin = from; taken = n; stop = o } in z) (sym none) ∙ view

    pub hastened_within : {quiet : Bool} {i : ℕ} {x' : Parts} (end : ℕ) → end ≤ most_reductions → n + i ≤ end → LeavesBehind quiet i from.source x x'
        → Hastens quiet false end q (record { origin = from; taken = n + i; stop = k })
    hastened_within {quiet = quiet} {i = i} end few most g = record {
      between = At (n + i);
      silently = subst (λ (z : Position). GoesSilently quiet z (At (n + i))) from_here (silent_many g.many (omega (arith, few, most)));
      last = (most, ap (λ (o : Option RunStop). let z : Position = record { origin = from; taken = n + i; stop = o } in z) none);
    }

    pub hastened_past : {quiet : Bool} {i : ℕ} {x' : Parts} (end : ℕ) (y : RunStop) (c made_then live_then : ℕ) → c ≡ counted y → end ≤ most_reductions → n + i < end
        → StopsBehind quiet y made_then live_then i from.source x x' → Hastens quiet true end q (record { origin = from; taken = n + i + c; stop = Some y })
    hastened_past {quiet = quiet} {i = i} {x' = x'} end y c made_then live_then count few most g =
        let one = g.one in
        let before = reached_many g.many one.inside (omega (arith, few, most)) in
        record {
          between = At (n + i);
          silently = subst (λ (z : Position). GoesSilently quiet z (At (n + i))) from_here (silent_many g.many (omega (arith, few, most)));
          last = (
            most,
            record {
              stops = refl;
              no_fault = one.no_fault;
              steps = λ held. step_stopped x' held held (At (n + i)) y c count before (one.reduces held);
            },
          );
        }
