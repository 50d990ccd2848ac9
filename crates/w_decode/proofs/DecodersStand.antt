-- A decoder stands for the bytes so far, from step to step, and answers at their end what is decoded of them.
use Rattle.std.proofs.Common.{◌≡◌, ◌≢◌, ℕ, ◌+◌, ◌<◌, ◌≤◌, List, [], ◌∷◌, ◌++◌, length, drop, Option, Some, None, Result, Ok, Err, refl, sym, ap, subst, ◌∙◌, append_assoc, Vec, Global}
use Rattle.std.specs.Prelude.{IfOk, IfErr}
use Rattle.std.proofs.lemmas.List.{append-nil}
use Rattle.w_syntax.specs.Module.{with_contents, header}
use Rattle.w_syntax.specs.Sections.{frame, section_of, section_decided, id_of}
use Rattle.w_syntax.specs.Spells.{BeginsWith, Spells}
use Rattle.w_syntax.specs.declared.module.Module.{Module}
use Rattle.w_syntax.specs.declared.module.Section.{Section}
use Rattle.w_syntax.specs.declared.module.Section.TheVariants as part
use Rattle.w_decode.specs.Faults.{FramedInOrder, HasFault}
use Rattle.w_decode.specs.Pieces.{gathered, says, InHeader, InBetween, InSection, IsDoomed, Stands, stands_in, Waits, waits_in, Steps}
use Rattle.w_decode.specs.Places.{Gives}
use Rattle.w_decode.specs.Reading.{no_sections, with_section, counted_module, behind, Framed, framed, read_sections, decoded}
use Rattle.w_decode.specs.declared.fault.DecodeFault.{DecodeFault}
use Rattle.w_decode.specs.declared.fault.DecodeFault.TheVariants as fault
use Rattle.w_decode.specs.declared.pieces.Inside.{Inside}
use Rattle.w_decode.specs.declared.pieces.Phase.{Phase}
use Rattle.w_decode.specs.declared.pieces.Phase.TheVariants as phase
use Rattle.w_decode.specs.declared.pieces.Decoder.{Decoder}
use Rattle.w_decode.specs.declared.sections.PartialModule.{PartialModule}
use Rattle.w_decode.proofs.LongerBytes.{begins_on, header_short, header_first, no_header_ever, none_framed, no_frame_framed, section_added, bad_section, bad_frame}
use Rattle.w_decode.proofs.ContentsInPart.{contents_on, unfinished, gathered_none, gathered_last, one_longer}
use Rattle.w_decode.proofs.ReadingExact.{after_sections, gathered_is, fault_decoded, spelled_decoded, id_is}

-- ## By the phase

pub stands_as : (p q : Phase) (d : Decoder) (u b : List ℕ) → p ≡ q → stands_in p d u b → stands_in q d u b
stands_as p q d u b e h = subst (λ (r : Phase). stands_in r d u b) e h

pub waits_as : (p q : Phase) (u : List ℕ) → p ≡ q → waits_in p u → waits_in q u
waits_as p q u e h = subst (λ (r : Phase). waits_in r u) e h

-- whatever it keeps
pub with_kept : (p : Phase) (d : Decoder) (k : Vec ℕ Global) (u b : List ℕ) → stands_in p d u b → stands_in p (record d { kept = k }) u b
with_kept phase.Header d k u b h = h
with_kept phase.Between d k u b h = h
with_kept (phase.Contents j left i) d k u b h = h
with_kept (phase.Failed e) d k u b h = h

-- it has failed
pub failed : (d : Decoder) (e : DecodeFault) (u b : List ℕ) → d.phase ≡ phase.Failed e → IsDoomed b e → Steps d u b None
failed d e u b h k = (subst (λ (r : Phase). stands_in r d u b) (sym h) k, subst (λ (r : Phase). waits_in r u) (sym h) tt)

-- ## More bytes

pub doomed_on : (b c : List ℕ) (e : DecodeFault) → IsDoomed b e → IsDoomed (b ++ c) e
doomed_on b c fault.Header h = λ d. subst (λ (l : List ℕ). HasFault l fault.Header) (sym (append_assoc b c d)) (h (c ++ d))
doomed_on b c (fault.Frame i) h = λ d. subst (λ (l : List ℕ). HasFault l (fault.Frame i)) (sym (append_assoc b c d)) (h (c ++ d))
doomed_on b c (fault.Content i) h = λ d. subst (λ (l : List ℕ). HasFault l (fault.Content i)) (sym (append_assoc b c d)) (h (c ++ d))
doomed_on b c fault.Counts h = λ d. subst (λ (l : List ℕ). HasFault l fault.Counts) (sym (append_assoc b c d)) (h (c ++ d))
doomed_on b c fault.OutOfMemory h = tt

pub more_in : (p : Phase) (d : Decoder) (u b c : List ℕ) → stands_in p d u b → stands_in p d (u ++ c) (b ++ c)
more_in phase.Header d u b c h = record { all_wait = ap (λ (l : List ℕ). l ++ c) h.all_wait; number = h.number; rank = h.rank; holds = h.holds; closed = h.closed }
more_in phase.Between d u b c h = record { sections = h.sections; begins = begins_on b c h.sections d.rank u h.begins; many = h.many; holds = h.holds; closed = h.closed }
more_in (phase.Contents j left i) d u b c h =
    let s = h.1 in (
      h.0,
      record {
        sections = s.sections;
        id = s.id;
        taken = s.taken;
        contents = contents_on b c u s.sections s.id s.taken j left (says i d.so_far.tree.codes) s.contents;
        many = s.many;
        holds = s.holds;
        is_taken = s.is_taken;
        closed = s.closed;
      },
    )
more_in (phase.Failed e) d u b c h = doomed_on b c e h

-- ## A fault of all bytes that begin so

abbrev pub Dooms : List ℕ → DecodeFault → Type 0
Dooms b e = e ≢ fault.OutOfMemory → (c : List ℕ) → HasFault (b ++ c) e

pub doomed_has : (b : List ℕ) (e : DecodeFault) → IsDoomed b e → Dooms b e
doomed_has b fault.Header h = λ ne. h
doomed_has b (fault.Frame i) h = λ ne. h
doomed_has b (fault.Content i) h = λ ne. h
doomed_has b fault.Counts h = λ ne. h
doomed_has b fault.OutOfMemory h = λ ne. absurd (ne refl)

-- ## The end of the bytes

at_end : (b : List ℕ) (e : DecodeFault) → ((c : List ℕ) → HasFault (b ++ c) e) → decoded b ≡ Err e
at_end b e h = fault_decoded b e (subst (λ (l : List ℕ). HasFault l e) (append-nil b) (h []))

pub doomed_gives : (b : List ℕ) (e : DecodeFault) → IsDoomed b e → Gives (Err e) (decoded b)
doomed_gives b fault.Header h = at_end b fault.Header h
doomed_gives b (fault.Frame i) h = at_end b (fault.Frame i) h
doomed_gives b (fault.Content i) h = at_end b (fault.Content i) h
doomed_gives b fault.Counts h = at_end b fault.Counts h
doomed_gives b fault.OutOfMemory h = tt

pub header_gives : (u b : List ℕ) → b ≡ u → length u < 8 → decoded b ≡ Err fault.Header
header_gives u b e lt = fault_decoded b fault.Header (subst (λ (l : List ℕ). HasFault l fault.Header) (sym e) (header_short u lt))

pub counts_give : (b : List ℕ) (ps : List Section) (k : ℕ) → BeginsWith b ps k [] → decoded b ≡ counted_module (gathered ps)
unfolding read_sections
counts_give b ps k h = after_sections b ps k [] h ∙ ap counted_module (gathered_is ps no_sections)

pub between_gives : (u b : List ℕ) (n k c : ℕ) (g : PartialModule) → InBetween g n k c u b → u ≡ [] → decoded b ≡ counted_module g
between_gives u b n k c g s e = counts_give b s.sections k (subst (BeginsWith b s.sections k) e s.begins) ∙ ap counted_module (sym s.holds)

pub frame_gives : (b u : List ℕ) (ps : List Section) (k n : ℕ) → BeginsWith b ps k u → length ps ≡ n → u ≢ [] → frame.read u ≡ None → decoded b ≡ Err (fault.Frame n)
frame_gives b u ps k n h e ne none =
    fault_decoded b (fault.Frame (length ps)) (ps, k, u, h, refl, ne, λ f j t. none_framed k u f j (no_frame_framed k u none) t) ∙ ap (λ (i : ℕ). Err (fault.Frame i)) e

pub contents_give : (j left n c : ℕ) (i : Inside) (g : PartialModule) (u b : List ℕ) → InSection j left i g n c u b → length u < left → decoded b ≡ Err (fault.Frame n)
contents_give j left n c i g u b s lt =
    fault_decoded b (fault.Frame (length s.sections)) (unfinished b u s.sections s.id s.taken j left (says i g.tree.codes) s.contents lt) ∙ ap (λ (i : ℕ). Err (fault.Frame i)) s.many

-- ## Steps

pub stops : (d : Decoder) (e : DecodeFault) (u b : List ℕ) (r : Option ℕ) → r ≡ None → d.phase ≡ phase.Failed e → IsDoomed b e → Steps d u b r
stops d e u b r n h k = subst (λ (o : Option ℕ). Steps d u b o) (sym n) (failed d e u b h k)

pub stays : (p : Phase) (d : Decoder) (u b : List ℕ) → d.phase ≡ p → Stands d u b → waits_in p u → Stands d u b × Waits d u
stays p d u b e h w = (h, subst (λ (q : Phase). waits_in q u) (sym e) w)

pub past_header : (d : Decoder) (u b : List ℕ) → InHeader d.so_far d.number d.rank d.closed u b → behind header u ≡ Some (drop 8 u) → InBetween d.so_far d.number d.rank d.closed (drop 8 u) b
past_header d u b h e = record {
  sections = [];
  begins = subst (λ (k : ℕ). BeginsWith b [] k (drop 8 u)) (sym h.rank) (header_first u b (drop 8 u) h.all_wait e);
  many = sym h.number;
  holds = h.holds ∙ sym gathered_none;
  closed = h.closed ∙ sym (ap (λ (x : PartialModule). length x.tree.codes) h.holds);
}

pub no_header_in : (d : Decoder) (u b : List ℕ) → InHeader d.so_far d.number d.rank d.closed u b → behind header u ≡ None → 8 ≤ length u → IsDoomed b fault.Header
no_header_in d u b h e le = subst (λ (l : List ℕ). IsDoomed l fault.Header) (sym h.all_wait) (no_header_ever u e le)

-- ## Whole sections

codes_kept : (p : Section) (m : Module) → (id_of p ≡ 0x0A → ⊥) → (with_contents p m).codes ≡ m.codes
codes_kept part.Custom m ne = refl
codes_kept (part.Types ts) m ne = refl
codes_kept (part.Imports is) m ne = refl
codes_kept (part.Functions xs) m ne = refl
codes_kept (part.Tables ts) m ne = refl
codes_kept (part.Memories ms) m ne = refl
codes_kept (part.Tags xs) m ne = refl
codes_kept (part.Globals gs) m ne = refl
codes_kept (part.Exports es) m ne = refl
codes_kept (part.Start x) m ne = refl
codes_kept (part.Elements es) m ne = refl
codes_kept (part.DataCount n) m ne = refl
codes_kept (part.Codes cs) m ne = absurd (ne refl)
codes_kept (part.Datas ds) m ne = refl

pub one_section : (u b : List ℕ) (n k c : ℕ) (g h : PartialModule) (s : Framed) (rest : List ℕ) (p : Section) → InBetween g n k c u b → framed k u ≡ Some (s, rest) → Some p ≡ section_of (s.1, s.2) → s.1 ≢ 0x0A
    → h ≡ with_section p g → InBetween h (n + 1) s.0 c rest b
one_section u b n k c g h s rest p t e o ne a =
    let is : s.1 ≡ id_of p = id_is (s.1, s.2) p (section_decided.found (s.1, s.2) p (sym o)) in record {
      sections = t.sections ++ p ∷ [];
      begins = section_added b u t.sections k s rest p t.begins e (sym o);
      many = one_longer t.sections p n t.many;
      holds = a ∙ ap (with_section p) t.holds ∙ gathered_last t.sections p;
      closed = t.closed ∙ ap length (sym (ap (λ (x : PartialModule). x.tree.codes) a ∙ codes_kept p g.tree (λ i. ne (is ∙ i))));
    }

pub bad_one : (u b : List ℕ) (n k c : ℕ) (g : PartialModule) (s : Framed) (rest : List ℕ) → InBetween g n k c u b → framed k u ≡ Some (s, rest) → None ≡ section_of (s.1, s.2) → IsDoomed b (fault.Content n)
bad_one u b n k c g s rest t e o = subst (λ (m : ℕ). IsDoomed b (fault.Content m)) t.many (bad_section b u t.sections k s rest t.begins e (sym o))

pub bad_id : (u b : List ℕ) (n k c : ℕ) (g : PartialModule) → InBetween g n k c u b → (u ≢ []) × ((e : List ℕ) (f : ℕ × List ℕ) (j : ℕ) → FramedInOrder k (u ++ e) f j → ⊥) → IsDoomed b (fault.Frame n)
bad_id u b n k c g t h = subst (λ (m : ℕ). IsDoomed b (fault.Frame m)) t.many (bad_frame b u t.sections k t.begins h.0 h.1)

-- ## One piece

fault_gives : (b : List ℕ) (e : DecodeFault) → (e ≢ fault.OutOfMemory → HasFault b e) → Gives (Err e) (decoded b)
fault_gives b fault.Header h = fault_decoded b fault.Header (h (λ z. absurd cc))
fault_gives b (fault.Frame i) h = fault_decoded b (fault.Frame i) (h (λ z. absurd cc))
fault_gives b (fault.Content i) h = fault_decoded b (fault.Content i) (h (λ z. absurd cc))
fault_gives b fault.Counts h = fault_decoded b fault.Counts (h (λ z. absurd cc))
fault_gives b fault.OutOfMemory h = tt

pub fed_gives : (b : List ℕ) (e : DecodeFault) → (e ≢ fault.OutOfMemory → HasFault (([] ++ b) ++ []) e) → Gives (Err e) (decoded b)
fed_gives b e h = fault_gives b e (λ ne. subst (λ (l : List ℕ). HasFault l e) (append-nil b) (h ne))

pub finished_gives : (b : List ℕ) (r : Result Module DecodeFault) → IfOk r (λ m. Spells b m) → IfErr r (λ e. e ≢ fault.OutOfMemory → HasFault b e) → Gives r (decoded b)
finished_gives b (Ok m) h k = spelled_decoded b m h
finished_gives b (Err e) h k = fault_gives b e k
