-- A machine that took a reduction stands for the run with one reduction more.
use Rattle.std.proofs.Common.{◌≡◌, ℕ, ◌+◌, ◌<◌, Bool, true, false, List, [], ◌∷◌, ◌++◌, length, map, reverse, All, Option, Some, None, refl, sym, ap, subst, subst₂, ◌∙◌, arith}
use Rattle.std.proofs.lemmas.List.{map-append, reverse-append}
use Rattle.std.proofs.lemmas.List.Elements.{All-nil, All-pop}
use Rattle.std.specs.Prelude.{Box}
use Rattle.std.specs.declared.alloc.Global.{Global}
use Rattle.lists.specs.Rows.{Row, ε}
use Rattle.w_syntax.specs.declared.module.Module.{Module}
use Rattle.w_canon.specs.declared.entry.Entry.{Entry}
use Rattle.w_canon.specs.IsClassesOf.{IsClassesOf}
use Rattle.w_rules.specs.Operands.{Operand}
use Rattle.w_rules.specs.Sound.{Sound as SoundModule}
use Rattle.w_segment.specs.declared.segment.Segment.{Segment}
use Rattle.w_segment.specs.Link.{Link, top, rest, one}
use Rattle.w_segment.specs.Shape.{Capacity, fresh_shape}
use Rattle.w_conts.specs.Conts.{Conts}
use Rattle.w_reduce.specs.Values.{Val}
use Rattle.w_reduce.specs.Store.{Store}
use Rattle.w_reduce.specs.Terms.{Rest, Context, Term}
use Rattle.w_reduce.specs.Program.{Program}
use Rattle.w_reduce.specs.Reduce.{next, reduce}
use Rattle.w_reduce.specs.Run.{Running, RunState, state_at, Run}
use Rattle.w_switching.specs.declared.stored.Stored.{Stored}
use Rattle.w_switching.specs.Standing.{Chained, only}
use Rattle.w_switching.specs.Sound.{Sound}
use Rattle.w_configuration.specs.declared.configuration.Configuration.{Configuration as Parts}
use Rattle.w_configuration.specs.Parts.{parts, whole}
use Rattle.w_machine.specs.Beginning.{Origin}
use Rattle.w_configuration.specs.Standing.{behind_of, MayWait, IsLast}
use Rattle.w_configuration.specs.Reducing.{TakesReduction, PartsReduce}
use Rattle.w_machine.specs.Position.{Position, PrintedBetween, StepsFrom, most_reductions}
use Rattle.w_machine.specs.Reached.{function_of, waiting_of, IsFresh, IsTurned, none_waits, next_runs, is_last, IsReachedAt, IsReached}
use Rattle.w_configuration.proofs.ReductionsTaken.{limited_within, went_typed, stands_after}
use Rattle.w_machine.proofs.OneMoreReduction.{stands_somewhere, state_went, next_run, fresh_in, last_there, is_last_true, is_last_one, turn_empty}

-- which segments run next, and which functions wait: where the last one is left, the turn of the next one comes
pub data Turn : List ℕ → List Link → List ℕ → List Link → Type 0 where
  stays_on : {waiting : List ℕ} {xs : List Link} → (IsLast xs → waiting ≡ []) → Turn waiting xs waiting xs
  takes_over : {f : ℕ} {fs : List ℕ} {c : Capacity} {xs : List Link} → is_last xs ≡ true → Turn (f ∷ fs) xs fs (one (fresh_shape f c) 0)

-- the parts with other segments
abbrev pub with_chain : List Link → Parts → Parts
with_chain xs x = parts x.store xs x.conts

-- one fresh segment in place of another is as sound
turn_sound : (main : ℕ) (c : Capacity) (xs : List Link) (conts : Conts Stored) → length xs ≡ 1 → Sound xs conts → Sound (one (fresh_shape main c) 0) conts
turn_sound main c xs conts long h = record {
  references = (record { operands = tt; levels = tt }, tt);
  stored = h.stored;
  slots = (let e = h.slots in omega (arith, e, long));
}

-- the next one's segment alone stands where the one before it ended
turn_chained : {m : Module} (f : ℕ) (fs : List ℕ) (c : Capacity) {e : Context} {vs : Row Val} {r : Rest} → e ≡ [] → vs ≡ ε → r ≡ behind_of (f ∷ fs)
    → Chained m [] (behind_of fs) (one (fresh_shape f c) 0) e vs r
turn_chained f fs c outer empty behind = only (fresh_in f fs c outer behind) empty

-- what is known of those that still wait then
pub others_wait : (m : Module) (us : Row Operand) (f : ℕ) (fs : List ℕ) → MayWait m us (f ∷ fs) → MayWait m us fs
others_wait m us f [] h = tt
others_wait m us f (g ∷ fs) h = h.1

-- ## One run

module _ {m : Module} {waiting : List ℕ} {x : Parts} {n : ℕ} {p : Program} {x' : Parts} {k : ℕ} {before now : Option (List ℕ)} (s₀ : Store) (t₀ : Term)
    (valid : SoundModule m) (at : IsReachedAt m waiting x n p (Run p s₀ t₀ n)) (went : TakesReduction m waiting p (reduce p (whole x.store at.ks) at.t) k x' before now) where
  -- it was running
  pub was_running : (Run p s₀ t₀ n).outcome ≡ Running
  was_running = (state_went p at.is went.is).0

  went_to : Run p s₀ t₀ (n + 1) ≡ state_at p (n + 1) ((Run p s₀ t₀ n).output ++ went.text) (whole x'.store went.ks) went.t
  went_to = next_run p s₀ t₀ n ∙ (state_went p at.is went.is).1

  -- what was printed
  pub has_printed : PrintedBetween (Run p s₀ t₀ n) (Run p s₀ t₀ (n + 1)) before now
  has_printed = record { text = went.text; is = ap (λ (q : RunState). q.output) went_to; grew = went.grew }

  went_at : Run p s₀ t₀ (n + 1) ≡ state_at p (n + 1) (Run p s₀ t₀ (n + 1)).output (whole x'.store went.ks) went.t
  went_at =
      let output : (Run p s₀ t₀ n).output ++ went.text ≡ (Run p s₀ t₀ (n + 1)).output = sym (ap (λ (q : RunState). q.output) went_to) in
      went_to ∙ ap (λ (o : List ℕ). state_at p (n + 1) o (whole x'.store went.ks) went.t) output

-- the segments that run next stand for the next state of the run
pub next_at : {m : Module} {waiting waiting' : List ℕ} {x : Parts} {n : ℕ} {p : Program} {x' : Parts} {chain : List Link} {k : ℕ} {before now : Option (List ℕ)}
    (s₀ : Store) (t₀ : Term) → SoundModule m → (at : IsReachedAt m waiting x n p (Run p s₀ t₀ n)) → TakesReduction m waiting p (reduce p (whole x.store at.ks) at.t) k x' before now
    → Turn waiting x'.chain waiting' chain → IsReachedAt m waiting' (with_chain chain x') (n + 1) p (Run p s₀ t₀ (n + 1))
next_at s₀ t₀ valid at went (stays_on done) = record { ks = went.ks; t = went.t; stands = stands_after valid at.stands went done; is = went_at s₀ t₀ valid at went }
next_at {m = m} {x = x} {p = p} {x' = x'} s₀ t₀ valid at went (takes_over {f = f} {fs = fs} {c = c} last) =
    let there = last_there went.stand.term last in
    let typed = went_typed valid at.stands went.is in
    let empty = turn_empty went.t f fs at.stands.ends typed.typed there.0 there.1 in
    record {
      ks = went.ks;
      t = went.t;
      stands = record {
        stand = record {
          source = went.stand.source;
          program = went.stand.program;
          short = went.stand.short;
          narrow = went.stand.narrow;
          term = turn_chained f fs c there.0 empty there.1;
          store = went.stand.store;
        };
        results = at.stands.results;
        arrows = typed.arrows;
        typed = typed.typed;
        ends = others_wait m at.stands.results f fs at.stands.ends;
        within = limited_within (next p (whole x.store at.ks) at.t.around at.t.operands at.t.rest.ahead at.t.rest.code) went.text (whole x'.store went.ks) went.t went.is;
        room = record { running = (tt, tt); stored = went.room.stored };
        sound = turn_sound f c x'.chain x'.conts (is_last_one x'.chain last).0 went.sound;
        held = went.held;
        done = λ e. let is = e.1 in absurd (cc);
      };
      is = went_at s₀ t₀ valid at went;
    }

-- ## The machine's parts

last_or : (b : Bool) {A : Type 0} → (b ≡ true → A) → (b ≡ false → A) → A
last_or true f g = f refl
last_or false f g = g refl

-- what the segments are where a reduction was taken
pub record HasTurned (waiting : List (Box Segment Global)) (xs chain : List Link) (waiting' : List (Box Segment Global)) : Type 0 where
  pub some : 0 < length chain
  pub fresh : All IsFresh waiting'
  pub turn : Turn (waiting_of waiting) xs (waiting_of waiting') chain

-- of segments that wait the last one runs next
pub last_next : (waiting : List (Box Segment Global)) (b : Box Segment Global) → waiting_of (waiting ++ b ∷ []) ≡ function_of b ∷ waiting_of waiting
last_next waiting b = ap reverse (map-append function_of waiting (b ∷ [])) ∙ reverse-append (map function_of waiting) (function_of b ∷ [])

-- where the last one is left, the next one runs alone
next_alone : (chain left after : List Link) (b : Box Segment Global) → is_last chain ≡ true → IsFresh b → left ≡ rest chain → after ≡ top b.value ∷ left → after ≡ b.value
next_alone [] left after b is fresh left_is after_is = absurd (cc)
next_alone (x ∷ []) left after b is (f, c, one_is) left_is after_is =
    after_is ∙ ap (λ (l : List Link). top b.value ∷ l) left_is ∙ ap (λ (l : List Link). top l ∷ []) one_is ∙ sym one_is
next_alone (x ∷ y ∷ ys) left after b is fresh left_is after_is = absurd (cc)

-- and so its turn came
pub took_turn : (waiting waiting' : List (Box Segment Global)) (b : Box Segment Global) (chain left after : List Link) → All IsFresh waiting → waiting ≡ waiting' ++ b ∷ []
    → left ≡ rest chain → after ≡ top b.value ∷ left → is_last chain ≡ true → IsTurned waiting chain after waiting'
took_turn waiting waiting' b chain left after fresh order left_is after_is is =
    next_runs b order (next_alone chain left after b is (All-pop IsFresh waiting waiting' (Some b) order fresh).1 left_is after_is)

-- where the last one was left
turned_by : {waiting : List (Box Segment Global)} {xs chain : List Link} {waiting' : List (Box Segment Global)} → All IsFresh waiting → 0 < length xs → is_last xs ≡ true
    → IsTurned waiting xs chain waiting' → HasTurned waiting xs chain waiting'
turned_by {xs = xs} {chain = chain} {waiting' = waiting'} fresh some is (none_waits before after same) =
    subst (λ (w : List (Box Segment Global)). HasTurned w xs chain waiting') (sym before)
    (subst₂ (λ (l : List Link) (w : List (Box Segment Global)). HasTurned [] xs l w) (sym same) (sym after)
    (record { some = some; fresh = All-nil IsFresh; turn = stays_on (λ e. refl) }))
turned_by {waiting = waiting} {xs = xs} {waiting' = waiting'} fresh some is (next_runs b order same) =
    let still = All-pop IsFresh waiting waiting' (Some b) order fresh in
    let next : IsFresh b = still.1 in
    let func : function_of b ≡ next.0 = ap (λ (l : List Link). (top l).shape.func) next.2 in
    let waits : waiting_of waiting ≡ next.0 ∷ waiting_of waiting' = ap waiting_of order ∙ last_next waiting' b ∙ ap (λ (f : ℕ). f ∷ waiting_of waiting') func in
    subst (λ (l : List Link). HasTurned waiting xs l waiting') (sym (same ∙ next.2))
    (record {
      some = omega arith;
      fresh = still.0;
      turn = subst (λ (fs : List ℕ). Turn fs xs (waiting_of waiting') (one (fresh_shape next.0 next.1) 0)) (sym waits) (takes_over is);
    })

-- what the turn did
pub turned : {waiting : List (Box Segment Global)} (xs chain : List Link) {waiting' : List (Box Segment Global)} → All IsFresh waiting → 0 < length xs
    → (is_last xs ≡ false → (chain ≡ xs) × (waiting' ≡ waiting)) → (is_last xs ≡ true → IsTurned waiting xs chain waiting') → HasTurned waiting xs chain waiting'
turned {waiting = waiting} xs chain {waiting' = waiting'} fresh some stays turns =
    last_or (is_last xs)
    (λ is. turned_by fresh some is (turns is))
    (λ not. let t = stays not in
    subst₂ (λ (l : List Link) (w : List (Box Segment Global)). HasTurned waiting xs l w) (sym t.0) (sym t.1)
    (record { some = some; fresh = fresh; turn = stays_on (λ e. let is = is_last_true xs e in absurd (cc)) }))

-- the machine stands for the run with one reduction more
pub advanced : {from : Origin} {functions : List ℕ} {x : Parts} {waiting : List (Box Segment Global)} {n a b : ℕ} {x' : Parts}
    {before now : Option (List ℕ)} {chain : List Link} {waiting' : List (Box Segment Global)} (es : List Entry) → IsClassesOf from.source.types es → SoundModule from.source
    → IsReached from functions x waiting None n a b → n < most_reductions → PartsReduce None from.source x x' before now → HasTurned waiting x'.chain chain waiting'
    → IsReached from functions (with_chain chain x') waiting' None (n + 1) a b
advanced {waiting = waiting} {n = n} es classes valid h lt goes t =
    let here = stands_somewhere es classes h in
    let made = (goes here.waiting here.p here.ks here.t here.stands).made in
    let few = h.usable.1 in
    record {
      functions_are = h.functions_are;
      fresh = t.fresh;
      bound = omega (arith, lt);
      usable = (t.some, omega (arith, made, few));
      started = h.started;
      fewer = h.fewer;
      reached = λ p s₀ t₀ begins.
          let at = h.reached p s₀ t₀ begins in
          next_at s₀ t₀ valid at (goes (waiting_of waiting) p at.ks at.t at.stands) t.turn;
    }

-- and so it took a step
pub stepped : {functions : List ℕ} {x : Parts} {waiting : List (Box Segment Global)} {a b : ℕ} {x' : Parts}
    {before now : Option (List ℕ)} (old : Position) → SoundModule old.origin.source → IsReached old.origin functions x waiting None old.taken a b
    → PartsReduce None old.origin.source x x' before now → StepsFrom None old None (record old { taken = old.taken + 1 }) before now
stepped {waiting = waiting} old valid h goes = (
  refl,
  λ p s₀ t₀ begins.
      let at = h.reached p s₀ t₀ begins in
      let went = goes (waiting_of waiting) p at.ks at.t at.stands in
      (was_running s₀ t₀ valid at went, has_printed s₀ t₀ valid at went),
)
