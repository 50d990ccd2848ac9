-- Files that `dump` wrote.
use Rattle.std.specs.Prelude.{◌≡◌, ◌≤◌, ◌↔◌, ℕ, List, length}
use Rattle.hex.specs.Hex.{IsBytes}
use Rattle.w_outside.specs.Outside.{Known, holds}
use Rattle.words.specs.declared.request.Action.TheVariants.{Build, Dump, Assemble}
use Rattle.words.specs.Line.{on_file}
use Rattle.replies.specs.Answer.{Reply, Answer, input_limit}

-- the file of this name holds what `dump` wrote of a file that is told, by an answer of status 0
pub record HoldsDumped (files : List ℕ → Known) (name source : List ℕ) (sources : List ℕ → Known) (written : Reply) : Type 0 where
  pub bytes : List ℕ
  pub told : sources source ≡ holds bytes
  pub small : IsBytes bytes
  pub answer : Answer (on_file source Dump) sources written
  pub done : written.status ≡ 0
  pub held : files name ≡ holds written.out

-- where it isn't too long for a file, `asm` answers of it just what `build` answers of that file
abbrev pub DumpedFilesAreBuilt : Type 0
DumpedFilesAreBuilt =
    (files sources : List ℕ → Known) (name source : List ℕ) (written : Reply) → HoldsDumped files name source sources written → length written.out ≤ input_limit
    → (reply : Reply) → Answer (on_file name Assemble) files reply ↔ Answer (on_file source Build) sources reply
