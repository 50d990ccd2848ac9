-- Files that `trace` wrote.
use Rattle.std.specs.Prelude.{◌≡◌, ◌≤◌, ◌↔◌, ℕ, List, length}
use Rattle.w_outside.specs.Outside.{Known, holds}
use Rattle.words.specs.declared.request.Action.TheVariants.{Trace}
use Rattle.words.specs.Line.{on_file, audited, most_steps}
use Rattle.replies.specs.Answer.{Reply, Answer, input_limit}

-- `trace` wrote this of a file that is told, by an answer of status 0
pub record WritesTrace (sources : List ℕ → Known) (source : List ℕ) (steps : ℕ) (written : Reply) : Type 0 where
  pub bytes : List ℕ
  pub told : sources source ≡ holds bytes
  pub answer : Answer (on_file source (Trace steps)) sources written
  pub done : written.status ≡ 0

-- where a file of these bytes and one that isn't too long are audited, status 0 is answered just where the second has what `trace` wrote
abbrev pub AuditsAreExact : Type 0
AuditsAreExact =
    (files sources : List ℕ → Known) (name other source : List ℕ) (steps : ℕ) (written : Reply) → steps ≤ most_steps → (h : WritesTrace sources source steps written) → files name ≡ holds h.bytes
    → (bytes : List ℕ) → files other ≡ holds bytes → length bytes ≤ input_limit → (reply : Reply) → Answer (audited name other steps) files reply → (reply.status ≡ 0) ↔ (bytes ≡ written.out)
