-- Common reductions of what stands for a configuration.
use Rattle.std.proofs.Common.{◌≡◌, ◌≢◌, ◌⊎◌, inl, inr, ◌<◌, ◌≤◌, ◌+◌, ◌-◌, subst, ℕ, Bool, true, false, nat_le, if◌then◌else◌, List, [], ◌∷◌, length, Option, Some, None, Ok, refl, sym, ap, ◌∙◌, arith}
use Rattle.w_outside.proofs.Growth.{grew_nothing}
use Rattle.w_syntax.specs.declared.module.Module.{Module}
use Rattle.w_rules.specs.Sound.{Sound}
use Rattle.w_tables.specs.Store as instances
use Rattle.w_segment.specs.declared.entry.Stage.TheVariants.{Body, Branch}
use Rattle.w_segment.specs.Shape.{Shape, SameParts}
use Rattle.w_segment.specs.Link.{Link, top, with_top}
use Rattle.w_chain.specs.Counts.{frames_in_all}
use Rattle.w_reduce.specs.declared.limit.RunLimit.TheVariants.{Frames}
use Rattle.w_reduce.specs.Limits.{most_frames}
use Rattle.w_reduce.specs.Program.{Program}
use Rattle.w_reduce.specs.Reduce.{reduce}
use Rattle.w_reduce.specs.Terms.{Term, Continuation}
use Rattle.w_stands.specs.declared.did.Did.TheVariants as did
use Rattle.w_stands.specs.Code.{instr_of}
use Rattle.w_stands.specs.Room.{Roomier}
use Rattle.w_stands.specs.Values.{stack}
use Rattle.w_stands.proofs.RoomOfFrames.{roomier_fit}
use Rattle.w_conts.specs.Conts.{Conts, live_of}
use Rattle.w_switching.specs.declared.stored.Stored.{Stored}
use Rattle.w_plain.specs.Attempted.{Attempted, goes_on, was_made}
use Rattle.w_plain.specs.declared.progress.Progress.{Progress}
use Rattle.w_plain.specs.declared.progress.Progress.TheVariants as progress
use Rattle.w_plain.specs.Meets.{Applies}
use Rattle.w_plain.specs.Plainness.{switches_at, calls_at}
use Rattle.w_plain.specs.Stepped.{Takes}
use Rattle.w_switching.proofs.Rooms.{links_top, links_with}
use Rattle.w_switching.proofs.SameButRoom.{same_shape, same_sound, same_top}
use Rattle.w_switching.proofs.SegmentsInOthers.{in_same, inside_top}
use Rattle.w_configuration.specs.declared.stop.RunStop.{RunStop}
use Rattle.w_configuration.specs.declared.stop.RunStop.TheVariants as run_stop
use Rattle.w_configuration.specs.Parts.{Parts, parts, whole}
use Rattle.w_configuration.specs.Standing.{IsLast, Stands, StandsSomewhere}
use Rattle.w_configuration.specs.Reducing.{IsPlainAt, TakesReduction}
use Rattle.w_configuration.specs.CommonReductions.{AttemptsOne, EndsBy, HastensParts, IsInRun, LeavesAlone, LastIn, RunsInBody, TakesAtMost, TakesOne, TakesMany, nothing, one_more, frames_stop, within_frames}
use Rattle.w_configuration.specs.declared.hastened.Hastened.{Hastened}
use Rattle.w_configuration.specs.declared.hastened.Then.{Then}
use Rattle.w_configuration.specs.declared.hastened.Then.TheVariants as then
use Rattle.w_configuration.proofs.PartsOfRuns.{head, plain_applies}
use Rattle.w_configuration.proofs.PlainReductions.{few_there, stop_reduces}
use Rattle.w_configuration.proofs.ReductionsTaken.{chained_long, stands_after}
use Rattle.w_configuration.proofs.SeenEvents.{tells_plain}

-- ## Where a segment stands in a body

-- at a place that switches no stacks it is plain
plain_at : (m : Module) (s : Shape) → s.stage ≡ Body → switches_at (instr_of m s.func s.place) ≡ false → IsPlainAt m s
plain_at m s body plain = (λ b. plain, λ v. absurd (let e = sym body ∙ v in cc))

-- there a rule applies
pub applies_there : {m : Module} {x : Parts} → Sound m → StandsSomewhere m x → (top x.chain).shape.stage ≡ Body
    → switches_at (instr_of m (top x.chain).shape.func (top x.chain).shape.place) ≡ false → Applies m x.store (top x.chain).shape
applies_there {m = m} {x = x} sound h body plain = plain_applies sound h (plain_at m (top x.chain).shape body plain)

-- ## What an attempt comes to

same_room : (s : Shape) → Roomier s s
same_room s = record { same = same_shape s; grown = record { operands = omega arith; levels = omega arith; locals = omega arith } }

with_own : (xs : List Link) → with_top (top xs).shape xs ≡ xs
with_own [] = refl
with_own (x ∷ xs) = refl

-- where none was attempted all is as it was
pub left_as_it_was : (x : Parts) → LeavesAlone x x
left_as_it_was x = record {
  shape = (top x.chain).shape;
  same = same_room (top x.chain).shape;
  is = ap (λ (c : List Link). parts x.store c x.conts) (sym (with_own x.chain));
  outside = λ not. refl;
}

-- one that was attempted and not taken left all but room
pub left_with_room : (x : Parts) (s : Shape) → (top x.chain).shape.stage ≡ Body → Roomier (top x.chain).shape s → LeavesAlone x (parts x.store (with_top s x.chain) x.conts)
left_with_room x s body room = record { shape = s; same = room; is = refl; outside = λ not. absurd (not body) }

-- where it stands in a body, another's turn doesn't come
pub in_run_in_body : (chain : List Link) → (top chain).shape.stage ≡ Body → IsInRun chain
in_run_in_body chain body values = absurd (let e = sym body ∙ values in cc)

frames_as : (b : Bool) → frames_stop b ≡ (if b then None else Some (run_stop.Limit Frames))
frames_as true = refl
frames_as false = refl

never_fault : (b : Bool) → frames_stop b ≢ Some run_stop.WriteFault
never_fault true e = absurd (cc)
never_fault false e = absurd (cc)

module _ {m : Module} {x : Parts} (sound : Sound m) (body : (top x.chain).shape.stage ≡ Body)
    (plain : switches_at (instr_of m (top x.chain).shape.func (top x.chain).shape.place) ≡ false) where
  -- where a function was called, its result is within the limits or passes that on frames
  pub taken_called : (u' : instances.Store) (s' : Shape) (n : ℕ) (b : Bool) → b ≡ nat_le n most_frames → n ≡ frames_in_all (with_top s' x.chain)
      → Takes did.Went m [] x.store (top x.chain).shape u' s' → TakesOne true (frames_stop b) m x (parts u' (with_top s' x.chain) x.conts)
  taken_called u' s' n b test count takes = record {
    inside = in_run_in_body x.chain body;
    quietly = λ e. record { body = body; silent = tells_plain (top x.chain).shape refl body plain; conts = refl };
    no_fault = never_fault b;
    reduces = λ held.
        stop_reduces sound (plain_at m (top x.chain).shape body plain) u' s' (with_top s' x.chain) held held (Ok did.Went) n (frames_stop b)
        (frames_as b ∙ ap (λ (y : Bool). if y then None else Some (run_stop.Limit Frames)) test) count refl ([], takes, grew_nothing held);
  }

  -- else it is within them
  pub taken_within : StandsSomewhere m x → calls_at (instr_of m (top x.chain).shape.func (top x.chain).shape.place) ≡ false → (u' : instances.Store) (s' : Shape)
      → Takes did.Went m [] x.store (top x.chain).shape u' s' → TakesOne true None m x (parts u' (with_top s' x.chain) x.conts)
  taken_within h none u' s' takes =
      taken_called u' s' (frames_in_all (with_top s' x.chain)) true (sym (few_there sound (plain_at m (top x.chain).shape body plain) h.stands body none takes)) refl takes

-- where parts stand there are segments
pub long_there : {m : Module} {x : Parts} → StandsSomewhere m x → 0 < length x.chain
long_there h = chained_long h.stands.stand.term

-- ## Several of them

-- where one was taken and no other's turn comes, it stands for a configuration again
pub stands_on : {quiet : Bool} {m : Module} {x x' : Parts} → Sound m → StandsSomewhere m x → TakesOne quiet None m x x' → IsInRun x'.chain → StandsSomewhere m x'
stands_on {x' = x'} sound h one inside =
    let went = one.reduces None h.waiting h.p h.ks h.t h.stands in
    record {
      waiting = h.waiting;
      p = h.p;
      ks = went.ks;
      t = went.t;
      stands = stands_after sound h.stands went (λ l. absurd (let long = l.0 in let some = inside l.1 in omega (arith, long, some)));
    }

-- so many were taken, and it stands for a configuration
pub record Reached (m : Module) (n : ℕ) (x x' : Parts) : Type 0 where
  pub many : TakesMany true m x n x'
  pub stands : StandsSomewhere m x'

-- first so many and then so many more
pub takes_more : {quiet : Bool} {m : Module} {x y z : Parts} (n k i : ℕ) → i ≡ n + k → TakesMany quiet m x n y → TakesMany quiet m y k z → TakesMany quiet m x i z
takes_more {quiet} {m} {x} {y} n k i e first nothing = subst (λ (j : ℕ). TakesMany quiet m x j y) (let f : n ≡ i = omega (arith, e) in f) first
takes_more {quiet} {m} {x} {y} {z} n k i e first (one_more {n = l} more one) =
    subst (λ (j : ℕ). TakesMany quiet m x j z) (let f : n + l + 1 ≡ i = omega (arith, e) in f) (one_more (takes_more n l (n + l) refl first more) one)

-- quiet ones are some
any_one : (quiet : Bool) {stop : Option RunStop} {m : Module} {x x' : Parts} → TakesOne true stop m x x' → TakesOne quiet stop m x x'
any_one quiet one = record { inside = one.inside; quietly = λ e. one.quietly refl; no_fault = one.no_fault; reduces = one.reduces }

any_many : (quiet : Bool) {m : Module} {x x' : Parts} {n : ℕ} → TakesMany true m x n x' → TakesMany quiet m x n x'
any_many quiet nothing = nothing
any_many quiet (one_more many one) = one_more (any_many quiet many) (any_one quiet one)

-- ## What stands behind them

module _ {quiet : Bool} {m : Module} {x : Parts} (sound : Sound m) (h : StandsSomewhere m x) where
  -- a configuration, where no other's turn comes
  pub stands_many : {n : ℕ} {y : Parts} → TakesMany quiet m x n y → IsInRun y.chain → StandsSomewhere m y
  stands_many nothing inside = h
  stands_many (one_more many one) inside = stands_on sound (stands_many many one.inside) one inside

  taken_there : {n : ℕ} {y z : Parts} (many : TakesMany quiet m x n y) (one : TakesOne quiet None m y z) → let at = stands_many many one.inside in
      TakesReduction m at.waiting at.p (reduce at.p (whole y.store at.ks) at.t) (length y.conts.entries) z None None
  taken_there many one = let at = stands_many many one.inside in one.reduces None at.waiting at.p at.ks at.t at.stands

  -- some segments
  pub long_many : {n : ℕ} {y : Parts} → TakesMany quiet m x n y → 0 < length y.chain
  long_many nothing = long_there h
  long_many (one_more many one) = chained_long (taken_there many one).stand.term

  -- and no more continuations than reductions were taken
  pub made_many : {n : ℕ} {y : Parts} → TakesMany quiet m x n y → length y.conts.entries ≤ length x.conts.entries + n
  made_many nothing = omega arith
  made_many (one_more many one) = let before = made_many many in let made = (taken_there many one).made in omega (arith, before, made)

-- ## In one body

-- the innermost stack, where it was put in the place of another
pub top_of : (s : Shape) (chain : List Link) → 0 < length chain → (top (with_top s chain)).shape ≡ s
top_of s [] some = absurd (omega (arith, some))
top_of s (x ∷ xs) some = refl

twice : (s s' : Shape) (chain : List Link) → with_top s' (with_top s chain) ≡ with_top s' chain
twice s s' [] = refl
twice s s' (x ∷ xs) = refl

pub body_of : (s : Shape) (chain : List Link) → 0 < length chain → s.stage ≡ Body → (top (with_top s chain)).shape.stage ≡ Body
body_of s chain some body = ap (λ (x : Shape). x.stage) (top_of s chain some) ∙ body

module _ {m : Module} (sound : Sound m) (u : instances.Store) (s : Shape) (chain : List Link) (conts : Conts Stored) (some : 0 < length chain) (body : s.stage ≡ Body)
    (h : StandsSomewhere m (parts u (with_top s chain) conts)) where
  abbrev X : Parts
  X = parts u (with_top s chain) conts

  abbrev at : (top (with_top s chain)).shape ≡ s
  at = top_of s chain some

  pub applies_in : switches_at (instr_of m s.func s.place) ≡ false → Applies m u s
  applies_in = subst (λ (x : Shape). switches_at (instr_of m x.func x.place) ≡ false → Applies m u x) at (applies_there sound h (body_of s chain some body))

  -- none was taken
  alone_in : (s' : Shape) → Roomier s s' → LeavesAlone X (parts u (with_top s' chain) conts)
  alone_in s' room = subst (λ (c : List Link). LeavesAlone X (parts u c conts)) (twice s s' chain)
      (left_with_room X s' (body_of s chain some body) (subst (λ (x : Shape). Roomier x s') (sym at) room))

  module _ (plain : switches_at (instr_of m s.func s.place) ≡ false) (u' : instances.Store) (s' : Shape) (takes : Takes did.Went m [] u s u' s') where
    plain_there : switches_at (instr_of m (top (with_top s chain)).shape.func (top (with_top s chain)).shape.place) ≡ false
    plain_there = subst (λ (x : Shape). switches_at (instr_of m x.func x.place) ≡ false) (sym at) plain

    takes_there : Takes did.Went m [] u (top (with_top s chain)).shape u' s'
    takes_there = subst (λ (x : Shape). Takes did.Went m [] u x u' s') (sym at) takes

    -- one that called a function was
    pub one_called : (within : Bool) → within ≡ nat_le (frames_in_all (with_top s' chain)) most_frames → TakesOne true (frames_stop within) m X (parts u' (with_top s' chain) conts)
    one_called within test = subst (λ (c : List Link). TakesOne true (frames_stop within) m X (parts u' c conts)) (twice s s' chain)
        (taken_called {x = X} sound (body_of s chain some body) plain_there u' s' (frames_in_all (with_top s' (with_top s chain))) within
        (test ∙ ap (λ (c : List Link). nat_le (frames_in_all c) most_frames) (sym (twice s s' chain))) refl takes_there)

    -- one that called none was
    pub one_within : calls_at (instr_of m s.func s.place) ≡ false → TakesOne true None m X (parts u' (with_top s' chain) conts)
    one_within none = subst (λ (c : List Link). TakesOne true None m X (parts u' c conts)) (twice s s' chain)
        (taken_within {x = X} sound (body_of s chain some body) plain_there h (subst (λ (x : Shape). calls_at (instr_of m x.func x.place) ≡ false) (sym at) none) u' s' takes_there)

  -- what the last attempt came to
  pub last_in : (u' : instances.Store) (s' : Shape) (a : Progress) → (a ≡ progress.Went → ⊥) → Attempted a m u s u' s' → (was_made a ≡ true → switches_at (instr_of m s.func s.place) ≡ false)
      → (goes_on a ≡ true → calls_at (instr_of m s.func s.place) ≡ false) → LastIn a m X (parts u' (with_top s' chain) conts)
  last_in u' s' progress.Went not step plain none = absurd (not refl)
  last_in u' s' progress.Moved not step plain none = one_within (plain refl) u' s' step (none refl)
  last_in u' s' progress.Entered not step plain none = one_called (plain refl) u' s' step
  last_in u' s' progress.Trapped not step plain none = subst (λ (v : instances.Store). LeavesAlone X (parts v (with_top s' chain) conts)) (sym step.0) (alone_in s' step.1)
  last_in u' s' progress.NotAttempted not step plain none = ap (λ (v : instances.Store). parts v (with_top s' chain) conts) step.0 ∙ ap (λ (y : Shape). parts u (with_top y chain) conts) step.1
  last_in u' s' progress.NoRoom not step plain none = subst (λ (v : instances.Store). LeavesAlone X (parts v (with_top s' chain) conts)) (sym step.0) (alone_in s' step.1)

-- where none was attempted the stack is as it was
pub untouched : (m : Module) (u u' : instances.Store) (s s' : Shape) (a : Progress) → a ≡ progress.NotAttempted → Attempted a m u s u' s' → s' ≡ s
untouched m u u' s s' a e step = let none = subst (λ (b : Progress). Attempted b m u s u' s') e step in none.1

-- ## From one body to the next

module _ {m : Module} (x : Parts) (s : Shape) (e : s ≡ (top x.chain).shape) (some : 0 < length x.chain) (stands : StandsSomewhere m x) (last : Progress) (n : ℕ) (u' : instances.Store) (s' : Shape) where
  own : with_top s x.chain ≡ x.chain
  own = ap (λ (y : Shape). with_top y x.chain) e ∙ with_own x.chain

  -- what was done whatever stands around was done where the parts stand
  pub in_own_body : ((chain : List Link) (conts : Conts Stored) → 0 < length chain → StandsSomewhere m (parts x.store (with_top s chain) conts)
      → RunsInBody last n m (parts x.store (with_top s chain) conts) (parts u' (with_top s' chain) conts)) → RunsInBody last n m x (parts u' (with_top s' x.chain) x.conts)
  in_own_body runs = subst (λ (c : List Link). RunsInBody last n m (parts x.store c x.conts) (parts u' (with_top s' x.chain) x.conts)) own
      (runs x.chain x.conts some (subst (λ (c : List Link). StandsSomewhere m (parts x.store c x.conts)) (sym own) stands))

-- the same, whatever shows that the program is the module
pub run_there : {m r : Module} → r ≡ m → (x : Parts) (s : Shape) → s ≡ (top x.chain).shape → StandsSomewhere m x → (last : Progress) (n : ℕ) (u' : instances.Store) (s' : Shape)
    → ((chain : List Link) (conts : Conts Stored) → 0 < length chain → StandsSomewhere r (parts x.store (with_top s chain) conts)
    → RunsInBody last n r (parts x.store (with_top s chain) conts) (parts u' (with_top s' chain) conts)) → RunsInBody last n m x (parts u' (with_top s' x.chain) x.conts)
run_there e x s is stands last n u' s' runs =
    in_own_body x s is (long_there stands) stands last n u' s'
    (subst (λ (y : Module). (chain : List Link) (conts : Conts Stored) → 0 < length chain → StandsSomewhere y (parts x.store (with_top s chain) conts)
    → RunsInBody last n y (parts x.store (with_top s chain) conts) (parts u' (with_top s' chain) conts)) e runs)

-- ## Each end in a body

module _ {m : Module} {x x' : Parts} (quiet : Bool) (n most : ℕ) where
  -- all were taken
  pub ends_on : RunsInBody progress.Went n m x x' → HastensParts quiet (record { taken = n; then = then.On }) m x x'
  ends_on run = record { between = run.between; many = any_many quiet run.many; last = run.ends }

  -- and one more
  pub ends_moved : RunsInBody progress.Moved n m x x' → HastensParts quiet (record { taken = n + 1; then = then.On }) m x x'
  ends_moved run = record { between = x'; many = one_more (any_many quiet run.many) (any_one quiet run.ends); last = refl }

  -- and one more, or what stopped the run
  pub ends_called : RunsInBody progress.Entered n m x x' → (within : Bool) → within ≡ nat_le (frames_in_all x'.chain) most_frames → HastensParts quiet (within_frames within n x'.conts) m x x'
  ends_called run true test = record { between = x'; many = one_more (any_many quiet run.many) (any_one quiet (run.ends true test)); last = refl }
  ends_called run false test =
      let one = run.ends false test in
      let same = (one.quietly refl).conts in
      record {
        between = run.between;
        many = any_many quiet run.many;
        last = (any_one quiet one, ap (λ (c : Conts Stored). length c.entries) same, ap (λ (c : Conts Stored). live_of c) same);
      }

  -- the next was left
  pub ends_left : (last : Progress) → (last ≡ progress.Trapped) ⊎ ((last ≡ progress.NotAttempted) ⊎ (last ≡ progress.NoRoom)) → RunsInBody last n m x x'
      → HastensParts quiet (record { taken = n; then = then.Left }) m x x'
  ends_left last (inl e) run = let r = subst (λ (a : Progress). RunsInBody a n m x x') e run in record { between = r.between; many = any_many quiet r.many; last = r.ends }
  ends_left last (inr (inl e)) run =
      let r = subst (λ (a : Progress). RunsInBody a n m x x') e run in
      record { between = r.between; many = any_many quiet r.many; last = subst (LeavesAlone r.between) (sym r.ends) (left_as_it_was r.between) }
  ends_left last (inr (inr e)) run = let r = subst (λ (a : Progress). RunsInBody a n m x x') e run in record { between = r.between; many = any_many quiet r.many; last = r.ends }

-- ## Behind a body, and outside of one

-- where none was attempted the parts are those behind what was taken
module _ {m : Module} {x x' : Parts} {n : ℕ} (last : Progress) (none : last ≡ progress.NotAttempted) (run : RunsInBody last n m x x') where
  there : RunsInBody progress.NotAttempted n m x x'
  there = subst (λ (a : Progress). RunsInBody a n m x x') none run

  pub stands_there : StandsSomewhere m x'
  stands_there = subst (StandsSomewhere m) (sym there.ends) there.stands

  pub many_there : (quiet : Bool) → TakesMany quiet m x n x'
  many_there quiet = subst (TakesMany quiet m x n) (sym there.ends) (any_many quiet there.many)

-- what has as many frames as the limit or fewer was taken, and else stopped the run
pub attempts_within : {m : Module} {x x' : Parts} (b : Bool) (n : ℕ) → x'.conts ≡ x.conts → TakesOne false (frames_stop b) m x x'
    → let done = within_frames b n x'.conts in AttemptsOne done.then false n done.taken m x x'
attempts_within true n same one = (refl, one)
attempts_within false n same one = (refl, (one, ap (λ (c : Conts Stored). length c.entries) same, ap (λ (c : Conts Stored). live_of c) same))

module _ {m : Module} (x : Parts) (sound : Sound m) {l : ℕ} (left : (top x.chain).shape.stage ≡ Branch l) where
  pub in_run_in_branch : IsInRun x.chain
  in_run_in_branch values = absurd (let e = sym left ∙ values in cc)

  branch_plain : IsPlainAt m (top x.chain).shape
  branch_plain = (λ b. absurd (let e = sym left ∙ b in cc), λ v. absurd (let e = sym left ∙ v in cc))

  pub applies_at_branch : StandsSomewhere m x → Applies m x.store (top x.chain).shape
  applies_at_branch h = plain_applies sound h branch_plain

  -- the branch was taken
  pub branch_taken : (u' : instances.Store) (s' : Shape) (b : Bool) → b ≡ nat_le (frames_in_all (with_top s' x.chain)) most_frames → Takes did.Went m [] x.store (top x.chain).shape u' s'
      → TakesOne false (frames_stop b) m x (parts u' (with_top s' x.chain) x.conts)
  branch_taken u' s' b test takes = record {
    inside = in_run_in_branch;
    quietly = λ e. absurd (cc);
    no_fault = never_fault b;
    reduces = λ held.
        stop_reduces sound branch_plain u' s' (with_top s' x.chain) held held (Ok did.Went) (frames_in_all (with_top s' x.chain)) (frames_stop b)
        (frames_as b ∙ ap (λ (y : Bool). if y then None else Some (run_stop.Limit Frames)) test) refl refl ([], takes, grew_nothing held);
  }

-- behind so many one more, or what was there
pub hastens_one : {quiet : Bool} {m : Module} {x y z : Parts} (n taken : ℕ) (end : Then) → TakesMany quiet m x n y → AttemptsOne end quiet n taken m y z
    → HastensParts quiet (record { taken = taken; then = end }) m x z
hastens_one {quiet} {m} {x} {y} {z} n taken then.On many (count, one) =
    record { between = z; many = subst (λ (k : ℕ). TakesMany quiet m x k z) (sym count) (one_more many one); last = refl }
hastens_one {quiet} {m} {x} {y} {z} n taken then.Left many (count, left) = record { between = y; many = subst (λ (k : ℕ). TakesMany quiet m x k y) (sym count) many; last = left }
hastens_one {quiet} {m} {x} {y} {z} n taken (then.Stopped stop made live) many (count, last) =
    record { between = y; many = subst (λ (k : ℕ). TakesMany quiet m x k y) (sym count) many; last = last }

-- how many are taken then
pub one_at_most : (quiet : Bool) (m : Module) (x z : Parts) (taken most : ℕ) (end : Then) → 0 < most → AttemptsOne end quiet 0 taken m x z → TakesAtMost end taken most
one_at_most quiet m x z taken most then.On some (count, one) = (omega (arith, count, some), λ h. omega (arith, count))
one_at_most quiet m x z taken most then.Left some (count, left) = omega (arith, count)
one_at_most quiet m x z taken most (then.Stopped stop made live) some (count, last) = omega (arith, count, some)

pub more_at_most : (k taken most : ℕ) (end : Then) → k < most → TakesAtMost end taken (most - k) → TakesAtMost end (k + taken) most
more_at_most k taken most then.On less (few, some) = (omega (arith, less, few), λ h. let one = some (omega (arith, less)) in omega (arith, one))
more_at_most k taken most then.Left less few = omega (arith, less, few)
more_at_most k taken most (then.Stopped stop made live) less few = omega (arith, less, few)

-- where it goes on the parts are those behind what was taken
pub taken_on : {quiet : Bool} {m : Module} {x z : Parts} (done : Hastened) → done.then ≡ then.On → HastensParts quiet done m x z → TakesMany quiet m x done.taken z
taken_on {quiet} {m} {x} {z} done on h =
    let last : z ≡ h.between = subst (λ (e : Then). EndsBy e quiet m h.between z) on h.last in
    subst (TakesMany quiet m x done.taken) (sym last) h.many

-- first so many, and then others
pub hastens_more : {quiet : Bool} {m : Module} {x y z : Parts} (n k : ℕ) (done : Hastened) → k ≡ n + done.taken → TakesMany quiet m x n y → HastensParts quiet done m y z
    → HastensParts quiet (record { taken = k; then = done.then }) m x z
hastens_more n k done count first more = record { between = more.between; many = takes_more n done.taken k count first more.many; last = more.last }

-- ## With other room

last_same : (s : Shape) (xs : List Link) → SameParts (top xs).shape s → IsLast (with_top s xs) → IsLast xs
last_same s [] h l = l
last_same s (x ∷ xs) h l = (l.0, sym h.stage ∙ l.1)

-- the parts stand where they stood
pub stands_same : {m : Module} {waiting : List ℕ} {x : Parts} {p : Program} {ks : List (Option Continuation)} {t : Term} (s : Shape) → Roomier (top x.chain).shape s
    → Stands m waiting x p ks t → Stands m waiting (parts x.store (with_top s x.chain) x.conts) p ks t
stands_same {m = m} {x = x} s roomier h = let same = roomier.same in record {
  stand = record {
    source = h.stand.source;
    program = h.stand.program;
    short = h.stand.short;
    narrow = h.stand.narrow;
    term = inside_top s (λ q b i. in_same (record { levels = same.levels; func = same.func; place = same.place; stage = same.stage }) i)
        ((head h).operands ∙ ap stack (sym same.operands)) h.stand.term;
    store = h.stand.store;
  };
  results = h.results;
  arrows = h.arrows;
  typed = h.typed;
  ends = h.ends;
  within = h.within;
  sound = same_sound 0 x.chain (with_top s x.chain) x.conts (same_top s x.chain same) h.sound;
  room = record { running = links_with m s x.chain (roomier_fit m (top x.chain).shape s roomier (links_top m x.chain h.room.running)) h.room.running; stored = h.room.stored };
  held = h.held;
  done = λ l. h.done (last_same s x.chain same l);
}
