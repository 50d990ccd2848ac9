-- The limits of a run: the most frames and handles of a term, and the most continuations of a store that aren't consumed.
use Rattle.std.specs.Prelude.{◌≤◌, ℕ, nat_le, Bool, true, false, Option, Some, None}
use Rattle.w_reduce.specs.declared.limit.RunLimit.{RunLimit}
use Rattle.w_reduce.specs.declared.limit.RunLimit.TheVariants.{Frames, Handles, Conts}
use Rattle.w_reduce.specs.Store.{Store, live}
use Rattle.w_reduce.specs.Terms.{Context, frames, handles}

abbrev pub most_frames : ℕ
most_frames = 20000

abbrev pub most_handles : ℕ
most_handles = 1000

abbrev pub most_conts : ℕ
most_conts = 65536

-- the first of the three that isn't kept
abbrev pub first_passed : (few_frames few_handles few_conts : Bool) → Option RunLimit
first_passed false handles conts = Some Frames
first_passed true false conts = Some Handles
first_passed true true false = Some Conts
first_passed true true true = None

-- the first limit that a configuration passes
abbrev pub passed : Store → Context → Option RunLimit
passed s e = first_passed (nat_le (frames e) most_frames) (nat_le (handles e) most_handles) (nat_le (live s) most_conts)

-- it passes none
pub record IsWithin (s : Store) (e : Context) : Type 0 where
  pub few_frames : frames e ≤ most_frames
  pub few_handles : handles e ≤ most_handles
  pub few_conts : live s ≤ most_conts
