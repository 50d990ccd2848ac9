-- Eval: what at most n steps of a script come to, and when a run of a module follows it.
use Rattle.std.specs.Prelude.{ℕ, ◌≤◌, ◌<◌, ◌+◌, ℤ, List, [], ◌∷◌, ◌++◌, replicate, codes, Option, Some, None}
use Rattle.following.specs.Follows.{after, End, Follows as FollowsAny}
use Rattle.following.specs.Steps.{Evaled, step_on, evaluated}
use Rattle.s_syntax.specs.declared.script.Function.{Function}
use Rattle.s_syntax.specs.declared.name.Name.{Name}
use Rattle.s_syntax.specs.declared.script.Definition.{Definition}
use Rattle.s_syntax.specs.declared.script.Definition.TheVariants as definition
use Rattle.s_syntax.specs.declared.script.Declaration.{Declaration}
use Rattle.s_syntax.specs.declared.script.Script.{Script}
use Rattle.s_syntax.specs.BlockTree.{BlockTree, Done}
use Rattle.s_check.specs.Definitions.{function_of}
use Rattle.s_meaning.specs.Numbers.{Fault}
use Rattle.s_meaning.specs.Terms.{Activation, Runs, Contents, Configuration, acts, hands, kept}
use Rattle.s_meaning.specs.Steps.{step}

abbrev pub body_or_none : Option Function → BlockTree
body_or_none None = Done
body_or_none (Some f) = f.body

-- slots at the start: all places are empty
abbrev pub contents_for : Name → Definition → List Contents
contents_for s (definition.Effect n) = []
contents_for s (definition.Function f) = []
contents_for s (definition.Handler h) = []
contents_for s (definition.Slots d) = record { name = s; handler = d.handler; places = replicate d.places.value None } ∷ []

abbrev pub first_contents : List Declaration → List Contents
first_contents [] = []
first_contents (d ∷ ds) = contents_for d.name d.definition ++ first_contents ds

-- the start: an activation of main, no context that is kept, and empty slots
abbrev pub start : Script → Configuration
start p = record {
  store = record { contexts = []; slots = first_contents p.declarations };
  term = record { hole = Runs (body_or_none (function_of p.declarations (codes "main"))); around = Activation [] None [] ∷ [] };
}

abbrev pub Evaluated : Type 0
Evaluated = Evaled ℤ Fault Configuration

-- the output after at most n steps, and whether the script goes on, or ended with a value or a fault
abbrev pub Eval : Script → ℕ → Evaluated
Eval p n = after (step_on (step p)) (evaluated (start p)) n

-- ## Following

pub data RunLimit : Type 0 where
  Frames Handles Conts : RunLimit

-- where a limit may be met
abbrev pub Passes : RunLimit → Configuration → Type 0
Passes Frames c = 20000 < acts c + hands c
Passes Handles c = 1000 < hands c
Passes Conts c = 65536 ≤ kept c

abbrev pub Ended : Type 0
Ended = End ℤ Fault RunLimit

abbrev pub Follows : Script → ℕ → List ℕ → Ended → Type 0
Follows p N out end = FollowsAny ℤ Fault RunLimit Evaluated (Eval p) (λ r. r.printed) (λ r. r.outcome) (λ l r. Passes l r.term) N out end
