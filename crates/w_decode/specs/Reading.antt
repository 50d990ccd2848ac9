-- Reading a module, section by section.
use Rattle.std.specs.Prelude.{ℕ, zero, suc, ◌+◌, Bool, not, ◌&&◌, cond, nat_eq, List, [], ◌∷◌, length, Option, Some, None, Result, Ok, Err}
use Rattle.w_leb.specs.Format.{then}
use Rattle.w_syntax.specs.Sections.{frame, section_of, next_rank}
use Rattle.w_syntax.specs.Module.{empty_module, with_contents, with_count, any_uses_data, header}
use Rattle.w_decode.specs.declared.sections.PartialModule.{PartialModule}
use Rattle.w_syntax.specs.declared.module.Module.{Module}
use Rattle.w_syntax.specs.declared.module.Section.{Section}
use Rattle.w_decode.specs.declared.fault.DecodeFault.{DecodeFault}
use Rattle.w_decode.specs.declared.fault.DecodeFault.TheVariants as fault

-- the bytes after those of a
unfoldable pub behind : List ℕ → List ℕ → Option (List ℕ)
behind [] b = Some b
behind (h ∷ a) [] = None
behind (h ∷ a) (k ∷ b) = cond (nat_eq k h) (behind a b) None

-- the sections so far
abbrev pub no_sections : PartialModule
no_sections = record { tree = empty_module; data_count = None }

-- and one more
abbrev pub with_section : Section → PartialModule → PartialModule
with_section p g = record { tree = with_contents p g.tree; data_count = with_count p g.data_count }

abbrev pub data_agrees : Option ℕ → Module → Bool
data_agrees (Some n) m = nat_eq n (length m.datas)
data_agrees None m = not (any_uses_data m.codes)

abbrev pub counts_agree : PartialModule → Bool
counts_agree g = nat_eq (length g.tree.functions) (length g.tree.codes) && data_agrees g.data_count g.tree

abbrev pub counted_module : PartialModule → Result Module DecodeFault
counted_module g = cond (counts_agree g) (Ok g.tree) (Err fault.Counts)

-- a section that is framed, in order: the rank after it, its id and its contents
abbrev pub Framed : Type 0
Framed = ℕ × ℕ × List ℕ

abbrev pub cut : ℕ × List ℕ → List ℕ → Option ℕ → Option (Framed × List ℕ)
cut f rest None = None
cut f rest (Some j) = Some ((j, f.0, f.1), rest)

unfoldable pub framed : ℕ → List ℕ → Option (Framed × List ℕ)
framed k bytes = then (frame.read bytes) (λ f rest. cut f rest (next_rank k f.0))

abbrev pub with_frame : ℕ → Option (Framed × List ℕ) → (Framed → List ℕ → Result Module DecodeFault) → Result Module DecodeFault
with_frame i None f = Err (fault.Frame i)
with_frame i (Some s) f = f s.0 s.1

abbrev pub with_content : ℕ → Option Section → (Section → Result Module DecodeFault) → Result Module DecodeFault
with_content i None f = Err (fault.Content i)
with_content i (Some p) f = f p

-- at most n sections, of which the first is section i and comes after the rank k, upon m
unfoldable pub read_sections : ℕ → ℕ → ℕ → PartialModule → List ℕ → Result Module DecodeFault
read_sections n i k m [] = counted_module m
read_sections zero i k m (b ∷ bs) = Err fault.OutOfMemory
read_sections (suc n) i k m (b ∷ bs) =
    with_frame i (framed k (b ∷ bs)) (λ s rest. with_content i (section_of (s.1, s.2)) (λ p. read_sections n (i + 1) s.0 (with_section p m) rest))

abbrev pub with_header : Option (List ℕ) → (List ℕ → Result Module DecodeFault) → Result Module DecodeFault
with_header None f = Err fault.Header
with_header (Some rest) f = f rest

unfoldable pub decoded : List ℕ → Result Module DecodeFault
decoded b = with_header (behind header b) (λ rest. read_sections (length rest) 0 0 no_sections rest)
