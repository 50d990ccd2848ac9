-- Files that `build` wrote.
use Rattle.std.specs.Prelude.{◌≡◌, ◌≤◌, ◌↔◌, ℕ, List, length, false}
use Rattle.w_outside.specs.Outside.{Known, holds}
use Rattle.words.specs.declared.request.Action.TheVariants.{Check, Build}
use Rattle.words.specs.Line.{on_file}
use Rattle.replies.specs.Answer.{Reply, Answer, is_module, ok_module, input_limit}

-- the file of this name holds what `build` wrote of a file, by an answer of status 0
pub record HoldsBuilt (files : List ℕ → Known) (name : List ℕ) (written : Reply) : Type 0 where
  pub source : List ℕ
  pub sources : List ℕ → Known
  pub answer : Answer (on_file source Build) sources written
  pub done : written.status ≡ 0
  pub held : files name ≡ holds written.out

-- where it isn't too long for a file, `build` writes the same of it, and answers nothing else
abbrev pub BuildIsIdempotent : Type 0
BuildIsIdempotent =
    (files : List ℕ → Known) (name : List ℕ) (written : Reply) → HoldsBuilt files name written → length written.out ≤ input_limit
    → (reply : Reply) → Answer (on_file name Build) files reply ↔ (reply ≡ written)

-- and `check` says that it is a module, and nothing else
abbrev pub BuiltFilesAreAccepted : Type 0
BuiltFilesAreAccepted =
    (files : List ℕ → Known) (name : List ℕ) (written : Reply) → HoldsBuilt files name written → length written.out ≤ input_limit
    → (reply : Reply) → Answer (on_file name Check) files reply ↔ (reply ≡ ok_module)

-- what is written of a script is never too long
abbrev pub BuiltScriptsAreShort : Type 0
BuiltScriptsAreShort =
    (files : List ℕ → Known) (name bytes : List ℕ) (written : Reply) → files name ≡ holds bytes → is_module bytes ≡ false
    → Answer (on_file name Build) files written → length written.out ≤ input_limit
