-- The run of a sound module from its start: its events are one-shot, and the numbers of its trace are in their ranges.
use Rattle.std.specs.Prelude.{◌≡◌, ℕ, ◌<◌, ◌≤◌, ◌^◌, length}
use Rattle.w_rules.specs.Sound.{Sound}
use Rattle.w_rules.specs.Spaces.{tags_of}
use Rattle.w_words.specs.Words.{Each}
use Rattle.w_reduce.specs.Program.{Program, IsProgram}
use Rattle.w_reduce.specs.Start.{Start, Ready}
use Rattle.w_reduce.specs.Store.{Store}
use Rattle.w_reduce.specs.Terms.{Term}
use Rattle.w_trace.specs.Events.{Events}
use Rattle.w_trace.specs.Lines.{LineFits, lines_of}
use Rattle.w_trace.specs.Once.{IsOneShot, uses_of}
use Rattle.w_trace.specs.Traces.{trace_of}

-- each continuation is used once at most
abbrev pub RunsAreOneShot : Type 0
RunsAreOneShot = (p : Program) (s : Store) (t : Term) → IsProgram p → Sound p.source → Start p ≡ Ready s t → (n : ℕ) → IsOneShot (uses_of (Events p s t n))

-- where tags are numbers of 32 bits
abbrev pub TracesFit : Type 0
TracesFit = (p : Program) (s : Store) (t : Term) → IsProgram p → Sound p.source → Start p ≡ Ready s t → length (tags_of p.source) ≤ 2 ^ 32
    → (n : ℕ) → n < 2 ^ 64 → Each LineFits (lines_of (trace_of p s t n))
