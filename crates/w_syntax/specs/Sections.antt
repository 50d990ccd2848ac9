-- The sections of a module: what each says, and their order (Core, binary format, modules).
use Rattle.std.specs.Prelude.{ℕ, suc, cond, nat_eq, nat_lt, List, [], ◌∷◌, Option, Some, None}
use Rattle.w_leb.specs.Format.{Format, IsDecided}
use Rattle.w_leb.specs.Formats.{any_byte, ◌⊗◌, number, vec, bytes, meaning}
use Rattle.w_syntax.specs.Types.{rectype, limits}
use Rattle.w_syntax.specs.Fields.{tag, import, export, table_of, global, elem, data_segment, code}
use Rattle.w_syntax.specs.Contents.{Contents, wholly, custom, IsChosen, chosen, chosen_decided}
use Rattle.w_syntax.specs.declared.module.Section.{Section}
use Rattle.w_syntax.specs.declared.module.Section.TheVariants as part

-- ## Sections

-- an id, a size, and so many bytes of contents
unfoldable pub frame : Format (ℕ × List ℕ)
frame = any_byte ⊗ bytes

-- by the id
abbrev pub kinds : List (ℕ × Contents)
kinds =
    (0x00, custom)
    ∷ (0x01, wholly (vec rectype) part.Types)
    ∷ (0x02, wholly (vec import) part.Imports)
    ∷ (0x03, wholly (vec (number 32)) part.Functions)
    ∷ (0x04, wholly (vec table_of) part.Tables)
    ∷ (0x05, wholly (vec limits) part.Memories)
    ∷ (0x0D, wholly (vec tag) part.Tags)
    ∷ (0x06, wholly (vec global) part.Globals)
    ∷ (0x07, wholly (vec export) part.Exports)
    ∷ (0x08, wholly (number 32) part.Start)
    ∷ (0x09, wholly (vec elem) part.Elements)
    ∷ (0x0C, wholly (number 32) part.DataCount)
    ∷ (0x0A, wholly (vec code) part.Codes)
    ∷ (0x0B, wholly (vec data_segment) part.Datas)
    ∷ []

-- what an id and contents say
unfoldable pub IsSection : ℕ × List ℕ → Section → Type 0
IsSection f p = IsChosen kinds f.0 f.1 p

-- the same, read
unfoldable pub section_of : ℕ × List ℕ → Option Section
section_of f = chosen kinds f.0 f.1

pub section_decided : IsDecided IsSection section_of
unfolding IsSection section_of
section_decided = record { found = λ f p. (chosen_decided kinds f.0).found f.1 p; only = λ f p. (chosen_decided kinds f.0).only f.1 p }

-- a section: its frame, and what its id and contents say
unfoldable pub section : Format Section
section = meaning frame IsSection section_of section_decided

-- ## Their order

-- the ids in order, but for custom sections
abbrev pub order : List ℕ
order = 0x01 ∷ 0x02 ∷ 0x03 ∷ 0x04 ∷ 0x05 ∷ 0x0D ∷ 0x06 ∷ 0x07 ∷ 0x08 ∷ 0x09 ∷ 0x0C ∷ 0x0A ∷ 0x0B ∷ []

abbrev pub place : ℕ → List ℕ → ℕ → Option ℕ
place k [] id = None
place k (i ∷ is) id = cond (nat_eq id i) (Some k) (place (suc k) is id)

-- where the section of an id stands among the others
unfoldable pub rank : ℕ → Option ℕ
rank id = place 1 order id

abbrev pub if_some : {A B : Type 0} → Option A → (A → Option B) → Option B
if_some None f = None
if_some (Some x) f = f x

-- after the rank k a section of this id may come, and leaves this rank; a custom section may come anywhere
unfoldable pub next_rank : ℕ → ℕ → Option ℕ
next_rank k id = cond (nat_eq id 0x00) (Some k) (if_some (rank id) (λ j. cond (nat_lt k j) (Some j) None))

abbrev pub id_of : Section → ℕ
id_of part.Custom = 0x00
id_of (part.Types ts) = 0x01
id_of (part.Imports is) = 0x02
id_of (part.Functions xs) = 0x03
id_of (part.Tables ts) = 0x04
id_of (part.Memories ms) = 0x05
id_of (part.Tags xs) = 0x0D
id_of (part.Globals gs) = 0x06
id_of (part.Exports es) = 0x07
id_of (part.Start x) = 0x08
id_of (part.Elements es) = 0x09
id_of (part.DataCount n) = 0x0C
id_of (part.Codes cs) = 0x0A
id_of (part.Datas ds) = 0x0B

-- the rank after these sections, where they stand in order, each at most once
unfoldable pub rank_after : ℕ → List Section → Option ℕ
rank_after k [] = Some k
rank_after k (p ∷ ps) = if_some (next_rank k (id_of p)) (λ j. rank_after j ps)
