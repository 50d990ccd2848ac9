-- Laws of answers.
use Rattle.std.specs.Prelude.{◌≢◌, ◌≡◌, ℕ, List}
use Rattle.w_outside.specs.Outside.{Known, untold}
use Rattle.words.specs.Line.{Line}
use Rattle.replies.specs.Answer.{Reply, Answer}

-- where something is told of each name, a line has one answer
abbrev pub OneAnswer : Type 0
OneAnswer =
    (line : Line) (files : List ℕ → Known) → ((name : List ℕ) → files name ≢ untold)
    → (one other : Reply) → Answer line files one → Answer line files other → one ≡ other

-- whatever is told, there can't be none
abbrev pub SomeAnswer : Type 0
SomeAnswer = (line : Line) (files : List ℕ → Known) → ((reply : Reply) → Answer line files reply → ⊥) → ⊥
