-- What a spelling counts has fewer than 2^32 items: so it is of the tags of a module.
use Rattle.std.proofs.Common.{◌≡◌, ◌<◌, ◌^◌, ℕ, List, [], ◌∷◌, length, sym, subst, arith}
use Rattle.std.specs.Prelude.{⊤, nat_eq}
use Rattle.w_leb.specs.Format.{Format, Each, Counted}
use Rattle.w_leb.specs.Formats.{vec}
use Rattle.w_leb.specs.CanonicalTableLaws.{◌&◌}
use Rattle.w_leb.specs.ShortestLaws.{within_bits}
use Rattle.w_syntax.specs.declared.module.Module.{Module}
use Rattle.w_syntax.specs.declared.module.Section.{Section}
use Rattle.w_syntax.specs.declared.module.Section.TheVariants as part
use Rattle.w_syntax.specs.Contents.{Contents, wholly, IsChosen}
use Rattle.w_syntax.specs.Sections.{kinds, IsSection, section}
use Rattle.w_syntax.specs.Module.{empty_module, with_contents, with_all_contents}
use Rattle.w_syntax.specs.Spells.{Spells}
use Rattle.w_spelled.specs.Tags.{TagsAreFew}
use Rattle.w_spelled.proofs.Given.{in_either}

-- the tags of a section are few
abbrev SectionHasFew : Section → Type 0
SectionHasFew (part.Tags ts) = length ts < 2 ^ 32
SectionHasFew p = ⊤

-- what contents say has few tags
record SaysFew (c : Contents) : Type 0 where
  holds : (b : List ℕ) (p : Section) → c.Say b p → SectionHasFew p

of_others : {A : Type 0} (f : Format A) (make : A → Section) → ((x : A) → SectionHasFew (make x)) → SaysFew (wholly f make)
of_others f make any = record { holds = λ b p h. subst SectionHasFew h.2 (any h.0) }

counted_few : {A : Type 0} (f : Format A) (b : List ℕ) (xs : List A) → (vec f).Spells b xs → length xs < 2 ^ 32
unfolding Counted
counted_few f b xs h = within_bits 32 (length xs) h.0 h.3

of_tags : (f : Format _) → SaysFew (wholly (vec f) part.Tags)
of_tags f = record { holds = λ b p h. subst SectionHasFew h.2 (counted_few f b h.0 h.1) }

abbrev AllSayFew : List (ℕ × Contents) → Type 0
AllSayFew [] = ⊤
AllSayFew (e ∷ es) = SaysFew e.1 × AllSayFew es

chosen_few : (es : List (ℕ × Contents)) → AllSayFew es → (id : ℕ) (b : List ℕ) (p : Section) → IsChosen es id b p → SectionHasFew p
chosen_few [] a id b p h = absurd h
chosen_few (e ∷ es) a id b p h = in_either (nat_eq id e.0) (e.1.Say b p) (IsChosen es id b p) (SectionHasFew p) (a.0.holds b p) (chosen_few es a.1 id b p) h

kinds_few : AllSayFew kinds
kinds_few =
    record { holds = λ b p h. subst SectionHasFew (sym h.5) tt }
    & of_others _ _ (λ x. tt)
    & of_others _ _ (λ x. tt)
    & of_others _ _ (λ x. tt)
    & of_others _ _ (λ x. tt)
    & of_others _ _ (λ x. tt)
    & of_tags _
    & of_others _ _ (λ x. tt)
    & of_others _ _ (λ x. tt)
    & of_others _ _ (λ x. tt)
    & of_others _ _ (λ x. tt)
    & of_others _ _ (λ x. tt)
    & of_others _ _ (λ x. tt)
    & of_others _ _ (λ x. tt)
    & tt

section_few : (b : List ℕ) (p : Section) → section.Spells b p → SectionHasFew p
unfolding section IsSection
section_few b p h = chosen_few kinds kinds_few h.0.0 h.0.1 p h.2

-- ## Modules

abbrev HasFewTags : Module → Type 0
HasFewTags m = length m.tags < 2 ^ 32

with_section : (p : Section) (m : Module) → SectionHasFew p → HasFewTags m → HasFewTags (with_contents p m)
with_section part.Custom m h l = l
with_section (part.Types ts) m h l = l
with_section (part.Imports is) m h l = l
with_section (part.Functions xs) m h l = l
with_section (part.Tables ts) m h l = l
with_section (part.Memories ls) m h l = l
with_section (part.Tags ts) m h l = h
with_section (part.Globals gs) m h l = l
with_section (part.Exports es) m h l = l
with_section (part.Start x) m h l = l
with_section (part.Elements es) m h l = l
with_section (part.DataCount n) m h l = l
with_section (part.Codes cs) m h l = l
with_section (part.Datas ds) m h l = l

with_sections : (b : List ℕ) (ps : List Section) (m : Module) → Each section.Spells b ps → HasFewTags m → HasFewTags (with_all_contents m ps)
unfolding Each with_all_contents
with_sections b [] m h l = l
with_sections b (p ∷ ps) m h l = with_sections h.1 ps (with_contents p m) h.4 (with_section p m (section_few h.0 p h.3) l)

pub few_tags : TagsAreFew
few_tags b m h = let s = h.2 in subst HasFewTags h.3 (with_sections s.sections h.0 empty_module s.each (omega arith))
