-- The first fault of bytes that are no module (Core, binary format, modules).
use Rattle.std.specs.Prelude.{◌≡◌, ◌≢◌, ◌⊎◌, ℕ, List, [], ◌++◌, length, Some, None, Result, Err}
use Rattle.w_syntax.specs.Sections.{frame, IsSection, next_rank}
use Rattle.w_syntax.specs.Module.{empty_module, with_all_contents, header, count_after, CountsAgree}
use Rattle.w_syntax.specs.Spells.{BeginsWith}
use Rattle.w_syntax.specs.declared.module.Module.{Module}
use Rattle.w_syntax.specs.declared.module.Section.{Section}
use Rattle.w_decode.specs.declared.fault.DecodeFault.{DecodeFault}
use Rattle.w_decode.specs.declared.fault.DecodeFault.TheVariants as fault

-- what follows is framed as f, a section that may come after the rank k and leaves the rank j
abbrev pub FramedInOrder : ℕ → List ℕ → ℕ × List ℕ → ℕ → Type 0
FramedInOrder k rest f j = (a more : List ℕ) × (rest ≡ a ++ more) × frame.Spells a f × (next_rank k f.0 ≡ Some j)

-- When each fault comes. Header: the bytes don't begin with it. Frame: bytes follow i sections, and are not framed in order.
-- Content: they are, and the contents say nothing. Counts: the sections are whole, and their counts don't agree.
abbrev pub HasFault : List ℕ → DecodeFault → Type 0
HasFault b fault.Header = (rest : List ℕ) → b ≡ header ++ rest → ⊥
HasFault b (fault.Frame i) =
    (ps : List Section) × (k : ℕ) × (rest : List ℕ) × BeginsWith b ps k rest × (length ps ≡ i) × (rest ≢ []) × ((f : ℕ × List ℕ) (j : ℕ) → FramedInOrder k rest f j → ⊥)
HasFault b (fault.Content i) =
    (ps : List Section) × (k : ℕ) × (rest : List ℕ) × BeginsWith b ps k rest × (length ps ≡ i) × (f : ℕ × List ℕ) × (j : ℕ) × FramedInOrder k rest f j × ((p : Section) → IsSection f p → ⊥)
HasFault b fault.Counts = (ps : List Section) × (k : ℕ) × BeginsWith b ps k [] × (CountsAgree (count_after None ps) (with_all_contents empty_module ps) → ⊥)
HasFault b fault.OutOfMemory = ⊥

-- this answer, unless memory ran out
abbrev pub IsAnswer : Result Module DecodeFault → Result Module DecodeFault → Type 0
IsAnswer r result = (result ≡ r) ⊎ (result ≡ Err fault.OutOfMemory)
