-- Which bytes a decoder stands for, whose bytes come in pieces.
use Rattle.std.specs.Prelude.{◌≡◌, ◌≢◌, ◌⊎◌, ℕ, ◌+◌, ◌<◌, ◌≤◌, Bool, true, false, nat_eq, List, [], ◌∷◌, ◌++◌, length, drop, Option, Some, None, option_map}
use Rattle.w_leb.specs.Format.{Each, then, many, whole}
use Rattle.w_leb.specs.Number.{Unsigned, unsigned}
use Rattle.w_syntax.specs.Fields.{code}
use Rattle.w_syntax.specs.Sections.{frame, section_of, next_rank}
use Rattle.w_syntax.specs.Module.{empty_module, with_all_contents, count_after}
use Rattle.w_syntax.specs.Spells.{BeginsWith}
use Rattle.w_syntax.specs.declared.module.Func.{Func}
use Rattle.w_syntax.specs.declared.module.Module.{Module}
use Rattle.w_syntax.specs.declared.module.Section.{Section}
use Rattle.w_syntax.specs.declared.module.Section.TheVariants as part
use Rattle.w_decode.specs.Faults.{FramedInOrder, HasFault}
use Rattle.w_decode.specs.Places.{FrameAt}
use Rattle.w_decode.specs.Reading.{no_sections, with_section}
use Rattle.w_decode.specs.declared.fault.DecodeFault.{DecodeFault}
use Rattle.w_decode.specs.declared.fault.DecodeFault.TheVariants as fault
use Rattle.w_decode.specs.declared.pieces.Inside.{Inside}
use Rattle.w_decode.specs.declared.pieces.Inside.TheVariants as inside
use Rattle.w_decode.specs.declared.pieces.Phase.{Phase}
use Rattle.w_decode.specs.declared.pieces.Phase.TheVariants as phase
use Rattle.w_decode.specs.declared.fronts.Front.{Front}
use Rattle.w_decode.specs.declared.fronts.Front.TheVariants as front
use Rattle.w_decode.specs.declared.pieces.Decoder.{Decoder}
use Rattle.w_decode.specs.declared.sections.PartialModule.{PartialModule}

-- the module and the data count that sections make
abbrev pub gathered : List Section → PartialModule
gathered ps = record { tree = with_all_contents empty_module ps; data_count = count_after None ps }

-- ## The contents of a section, in part

-- these functions, and behind them those that are read
abbrev pub behind_them : List Func → Option (List Func × List ℕ) → Option (List Func × List ℕ)
behind_them fs o = then o (λ gs rest. Some (fs ++ gs, rest))

-- what contents say that end in the bytes e, where the functions fs stand in front of these
abbrev pub says : Inside → List Func → List ℕ → Option Section
says inside.Count fs e = section_of (0x0A, e)
says (inside.Codes n) fs e = option_map part.Codes (whole (behind_them fs (many code.read n e)))
says (inside.Skipped true) fs e = Some part.Custom
says (inside.Skipped false) fs e = None

-- where no more bytes come, they say something
abbrev pub is_ended : Inside → Bool
is_ended inside.Count = false
is_ended (inside.Codes n) = nat_eq n 0
is_ended (inside.Skipped named) = named

-- The bytes b end in the contents of a section with this id, which stands behind the sections ps and leaves the rank j. Of its contents
-- the bytes `taken` were taken, and so many bytes are left; the bytes u were not taken. What the contents say is what `rest` says of the
-- bytes that are left.
pub record InContents (b u : List ℕ) (ps : List Section) (id : ℕ) (taken : List ℕ) (j left : ℕ) (rest : List ℕ → Option Section) : Type 0 where
  pub last : ℕ
  pub head : List ℕ
  pub begins : BeginsWith b ps last (id ∷ (head ++ (taken ++ u)))
  pub sized : Unsigned 32 head (length taken + left)
  pub order : next_rank last id ≡ Some j
  pub says_rest : (e : List ℕ) → length e ≡ left → section_of (id, taken ++ e) ≡ rest e

-- the bytes of a code section spell the count of its functions, of which n are to come, and the functions fs
abbrev pub AreCodes : List ℕ → ℕ → List Func → Type 0
AreCodes taken n fs = (count entries : List ℕ) × (taken ≡ count ++ entries) × Unsigned 32 count (length fs + n) × Each code.Spells entries fs

-- what was taken of the contents
abbrev pub IsTaken : Inside → ℕ → List ℕ → List Func → Type 0
IsTaken inside.Count id taken fs = (id ≡ 0x0A) × (taken ≡ [])
IsTaken (inside.Codes n) id taken fs = (id ≡ 0x0A) × AreCodes taken n fs
IsTaken (inside.Skipped true) id taken fs = id ≡ 0x00
IsTaken (inside.Skipped false) id taken fs = Unit {0}

-- ## Decoders

-- what is kept are these sections, and the functions of the code section that are read
abbrev pub Holds : Inside → List Section → PartialModule → Type 0
Holds inside.Count ps g = g ≡ gathered ps
Holds (inside.Codes n) ps g = g ≡ with_section (part.Codes g.tree.codes) (gathered ps)
Holds (inside.Skipped true) ps g = g ≡ gathered ps
Holds (inside.Skipped false) ps g = Unit {0}

-- the bytes b end in the contents of a section, and u of them wait; n sections are whole, and the codes of c functions
pub record InSection (j left : ℕ) (i : Inside) (g : PartialModule) (n c : ℕ) (u b : List ℕ) : Type 0 where
  pub sections : List Section
  pub id : ℕ
  pub taken : List ℕ
  pub contents : InContents b u sections id taken j left (says i g.tree.codes)
  pub many : length sections ≡ n
  pub holds : Holds i sections g
  pub is_taken : IsTaken i id taken g.tree.codes
  pub closed : c ≡ length g.tree.codes

-- all bytes that begin with these have the fault
abbrev pub IsDoomed : List ℕ → DecodeFault → Type 0
IsDoomed b fault.Header = (c : List ℕ) → HasFault (b ++ c) fault.Header
IsDoomed b (fault.Frame i) = (c : List ℕ) → HasFault (b ++ c) (fault.Frame i)
IsDoomed b (fault.Content i) = (c : List ℕ) → HasFault (b ++ c) (fault.Content i)
IsDoomed b fault.Counts = (c : List ℕ) → HasFault (b ++ c) fault.Counts
IsDoomed b fault.OutOfMemory = Unit {0}

-- nothing came but what may be the front of the header
pub record InHeader (g : PartialModule) (n k c : ℕ) (u b : List ℕ) : Type 0 where
  pub all_wait : b ≡ u
  pub number : n ≡ 0
  pub rank : k ≡ 0
  pub holds : g ≡ no_sections
  pub closed : c ≡ 0

-- the bytes b end behind whole sections, which leave the rank k, and u of them wait
pub record InBetween (g : PartialModule) (n k c : ℕ) (u b : List ℕ) : Type 0 where
  pub sections : List Section
  pub begins : BeginsWith b sections k u
  pub many : length sections ≡ n
  pub holds : g ≡ gathered sections
  pub closed : c ≡ length g.tree.codes

-- the bytes b came, and u of them wait, by where b ends
abbrev pub stands_in : Phase → Decoder → List ℕ → List ℕ → Type 0
stands_in phase.Header d u b = InHeader d.so_far d.number d.rank d.closed u b
stands_in phase.Between d u b = InBetween d.so_far d.number d.rank d.closed u b
stands_in (phase.Contents j left i) d u b = (0 < left) × InSection j left i d.so_far d.number d.closed u b
stands_in (phase.Failed e) d u b = IsDoomed b e

-- the bytes b came, u of them wait, and what the decoder holds is what the others say
abbrev pub Stands : Decoder → List ℕ → List ℕ → Type 0
Stands d u b = stands_in d.phase d u b

-- no code section with its size stands at the front of u
abbrev pub NoCode : List ℕ → Type 0
NoCode u = (x rest : List ℕ) (size : ℕ) → u ≡ 0x0A ∷ (x ++ rest) → Unsigned 32 x size → ⊥

-- no whole section stands at the front of u, and none that is read in part
abbrev pub NoFront : List ℕ → Type 0
NoFront u = (frame.read u ≡ None) × NoCode u

-- what comes next of contents is not at the front of u
abbrev pub Lacks : Inside → List ℕ → Type 0
Lacks inside.Count u = unsigned 32 u ≡ None
Lacks (inside.Codes n) u = (n ≡ 0) ⊎ (code.read u ≡ None)
Lacks (inside.Skipped named) u = Unit {0}

-- more is to come of the contents
abbrev pub IsIncomplete : Inside → Type 0
IsIncomplete inside.Count = Unit {0}
IsIncomplete (inside.Codes n) = n ≢ 0
IsIncomplete (inside.Skipped named) = ⊥

-- no reader can take of the bytes u, by where the bytes so far end
abbrev pub waits_in : Phase → List ℕ → Type 0
waits_in phase.Header u = length u < 8
waits_in phase.Between u = NoFront u
waits_in (phase.Contents j left i) u = (length u < left) × Lacks i u
waits_in (phase.Failed e) u = Unit {0}

-- no reader can take of the bytes u
abbrev pub Waits : Decoder → List ℕ → Type 0
Waits d u = waits_in d.phase u

-- A decoder stands for the bytes b: those that it keeps wait, and no reader can take of them.
pub record StandsFor (d : Decoder) (b : List ℕ) : Type 0 where
  pub stands : Stands d d.kept.items b
  pub waits : Waits d d.kept.items

-- a call answered this fault, by where the bytes end
abbrev pub failed_in : Phase → DecodeFault → Type 0
failed_in (phase.Failed f) e = f ≡ e
failed_in phase.Header e = ⊥
failed_in phase.Between e = ⊥
failed_in (phase.Contents j left i) e = ⊥

-- a call answered this fault
abbrev pub HasFailed : Decoder → DecodeFault → Type 0
HasFailed d e = failed_in d.phase e

-- no call answered a fault
abbrev pub IsSound : Decoder → Type 0
IsSound d = (e : DecodeFault) → HasFailed d e → ⊥

-- the lists that it has read
abbrev pub so_far_of : Decoder → Module
so_far_of d = d.so_far.tree

-- ## Steps

-- how many bytes a step takes
abbrev pub Moves : List ℕ → ℕ → Type 0
Moves u n = (0 < n) × (n ≤ length u)

-- after a step that took so many bytes, or that could take none
abbrev pub Steps : Decoder → List ℕ → List ℕ → Option ℕ → Type 0
Steps d u b None = Stands d u b × Waits d u
Steps d u b (Some n) = Stands d (drop n u) b

-- of the contents, w and all that is to come change nothing more
pub record Skips (i : Inside) (named : Bool) (g : PartialModule) (w : List ℕ) : Type 0 where
  pub same : (e : List ℕ) → says i g.tree.codes (w ++ e) ≡ says (inside.Skipped named) g.tree.codes e
  pub holds : (ps : List Section) → Holds i ps g → Holds (inside.Skipped named) ps g
  pub is_taken : (id : ℕ) (taken more : List ℕ) → IsTaken i id taken g.tree.codes → IsTaken (inside.Skipped named) id more g.tree.codes

-- a custom section of whose name the bytes are all there: `left` bytes of it are to come behind the first `end` bytes. Whatever these are,
-- its contents say that it is custom where `named`, and else nothing.
pub record IsCustom (u : List ℕ) (left end : ℕ) (named : Bool) : Type 0 where
  pub head : List ℕ
  pub taken : List ℕ
  pub whole : u ≡ 0x00 ∷ (head ++ (taken ++ drop end u))
  pub sized : Unsigned 32 head (length taken + left)
  pub says_rest : (e : List ℕ) → section_of (0x00, taken ++ e) ≡ says (inside.Skipped named) [] e
  pub moves : Moves u end

-- a code section, whose contents begin behind the first `start` bytes
pub record IsCode (u : List ℕ) (size start : ℕ) : Type 0 where
  pub head : List ℕ
  pub whole : u ≡ 0x0A ∷ (head ++ drop start u)
  pub sized : Unsigned 32 head size
  pub moves : Moves u start

-- what stands at the front of u, behind sections that leave the rank k
abbrev pub IsFront : List ℕ → ℕ → Front → Type 0
IsFront u k front.Short = NoFront u
IsFront u k front.Bad = (u ≢ []) × ((c : List ℕ) (f : ℕ × List ℕ) (j : ℕ) → FramedInOrder k (u ++ c) f j → ⊥)
IsFront u k (front.Whole f) = FrameAt u 0 k (Some f) × (0 < f.end) × (f.id ≢ 0x0A)
IsFront u k (front.Code c) = (next_rank k 0x0A ≡ Some c.rank) × IsCode u c.size c.start
IsFront u k (front.Custom c) = IsCustom u c.left c.end c.named
