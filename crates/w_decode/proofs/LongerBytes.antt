-- What is read stays so where more bytes come, and what a section lacks.
use Rattle.std.proofs.Common.{◌≡◌, ◌≢◌, ℕ, zero, suc, ◌<◌, ◌≤◌, Bool, true, false, cond, List, [], ◌∷◌, ◌++◌, length, Option, Some, None, refl, sym, ap, ◌∙◌, append_assoc, arith}
use Rattle.std.specs.Prelude.{nat_eq}
use Rattle.std.proofs.lemmas.List.{length-append}
use Rattle.w_leb.specs.Format.{Format, Each, OneByte, Counted, byte, many, counted}
use Rattle.w_leb.specs.Formats.{bytes, number}
use Rattle.w_leb.specs.Number.{Unsigned, unsigned}
use Rattle.w_syntax.specs.Sections.{frame, IsSection, section_of, section_decided, next_rank, rank_after}
use Rattle.w_syntax.specs.Module.{header}
use Rattle.w_syntax.specs.Spells.{BeginsWith}
use Rattle.w_syntax.specs.declared.module.Section.{Section}
use Rattle.w_decode.specs.Faults.{FramedInOrder, HasFault}
use Rattle.w_decode.specs.Pieces.{IsDoomed}
use Rattle.w_decode.specs.Reading.{behind, Framed, framed}
use Rattle.w_decode.specs.declared.fault.DecodeFault.TheVariants as fault
use Rattle.w_decode.proofs.ReadingExact.{behind_all, behind_some, framed_some, framed_again, one_more}

-- ## What is read of bytes is read of all that begin with them

pub reads_on : {A : Type 0} (f : Format A) (l c : List ℕ) (x : A) (rest : List ℕ) → f.read l ≡ Some (x, rest) → f.read (l ++ c) ≡ Some (x, rest ++ c)
reads_on f l c x rest e =
    let s = f.exact.sound l x rest e in
    ap f.read (ap (λ (t : List ℕ). t ++ c) s.1 ∙ append_assoc s.0 rest c) ∙ f.exact.complete s.0 x (rest ++ c) s.2

pub begins_on : (b c : List ℕ) (ps : List Section) (k : ℕ) (rest : List ℕ) → BeginsWith b ps k rest → BeginsWith (b ++ c) ps k (rest ++ c)
begins_on b c ps k rest h = record {
  sections = h.sections;
  parts = ap (λ (l : List ℕ). l ++ c) h.parts ∙ append_assoc header (h.sections ++ rest) c ∙ ap (λ (l : List ℕ). header ++ l) (append_assoc h.sections rest c);
  each = h.each;
  order = h.order;
}

-- ## The header

behind_by : (v : Bool) (a b c : List ℕ) → ◌≡◌ {A = Option (List ℕ)} (cond v (behind a b) None) None → (behind a b ≡ None → behind a (b ++ c) ≡ None) → ◌≡◌ {A = Option (List ℕ)} (cond v (behind a (b ++ c)) None) None
behind_by true a b c e f = f e
behind_by false a b c e f = refl

pub behind_longer : (a b c : List ℕ) → length a ≤ length b → behind a b ≡ None → behind a (b ++ c) ≡ None
unfolding behind
behind_longer [] b c le e = absurd cc
behind_longer (h ∷ a) [] c le e = absurd (omega arith)
behind_longer (h ∷ a) (k ∷ b) c le e = behind_by (nat_eq k h) a b c e (λ g. behind_longer a b c (omega arith) g)

pub no_header_ever : (u : List ℕ) → behind header u ≡ None → 8 ≤ length u → IsDoomed u fault.Header
no_header_ever u e le = λ c rest h. let z : ◌≡◌ {A = Option (List ℕ)} None (Some rest) = sym (behind_longer header u c le e) ∙ ap (behind header) h ∙ behind_all header rest in absurd cc

pub header_short : (u : List ℕ) → length u < 8 → HasFault u fault.Header
header_short u lt = λ rest h. absurd (omega (arith, ap length h, length-append header rest))

pub header_first : (u b : List ℕ) (rest : List ℕ) → b ≡ u → behind header u ≡ Some rest → BeginsWith b [] 0 rest
unfolding Each rank_after
header_first u b rest e h = record { sections = []; parts = e ∙ behind_some header u rest h; each = refl; order = refl }

-- ## Frames

longer_some : (u c : List ℕ) → u ≢ [] → u ++ c ≢ []
longer_some [] c ne = absurd (ne refl)
longer_some (x ∷ u) c ne = λ e. absurd (omega (arith, ap length e))

pub bad_frame : (b u : List ℕ) (ps : List Section) (k : ℕ) → BeginsWith b ps k u → u ≢ [] → ((c : List ℕ) (f : ℕ × List ℕ) (j : ℕ) → FramedInOrder k (u ++ c) f j → ⊥) → IsDoomed b (fault.Frame (length ps))
bad_frame b u ps k h ne miss = λ c. (ps, k, u ++ c, begins_on b c ps k u h, refl, longer_some u c ne, miss c)

-- what begins with an id that may not come
pub unranked : (k id : ℕ) (r : List ℕ) → next_rank k id ≡ None → (c : List ℕ) (f : ℕ × List ℕ) (j : ℕ) → FramedInOrder k ((id ∷ r) ++ c) f j → ⊥
unfolding frame
unranked k id r e c f j t =
    let s = t.3 in
    let whole : id ∷ (r ++ c) ≡ f.0 ∷ (s.1 ++ t.1) = t.2 ∙ ap (λ (l : List ℕ). l ++ t.1) (s.2 ∙ ap (λ (l : List ℕ). l ++ s.1) s.3) in
    let same : id ≡ f.0 = cc in
    let z : ◌≡◌ {A = Option ℕ} None (Some j) = sym e ∙ ap (next_rank k) same ∙ t.4 in absurd cc

short_bytes : (n : ℕ) (l : List ℕ) → length l < n → many byte n l ≡ None
unfolding many
short_bytes zero l h = absurd (omega arith)
short_bytes (suc n) [] h = refl
short_bytes (suc n) (b ∷ l) h = rw (short_bytes n l (omega arith)) refl

pub no_size : (l : List ℕ) → unsigned 32 l ≡ None → bytes.read l ≡ None
unfolding counted
no_size l h = rw h refl

too_short : (l r : List ℕ) (n : ℕ) → unsigned 32 l ≡ Some (n, r) → length r < n → bytes.read l ≡ None
unfolding counted
too_short l r n h lt = rw h (short_bytes n r lt)

pub frame_lacks : (id size : ℕ) (head w : List ℕ) → Unsigned 32 head size → length w < size → frame.read (id ∷ (head ++ w)) ≡ None
unfolding frame
frame_lacks id size head w s lt = let e = too_short (head ++ w) w size ((number 32).exact.complete head size w s) lt in rw e refl

-- a frame that lacks bytes
pub unframed : (k id size : ℕ) (head w : List ℕ) → Unsigned 32 head size → length w < size → framed k (id ∷ (head ++ w)) ≡ None
unfolding framed
unframed k id size head w s lt = rw (frame_lacks id size head w s lt) refl

pub no_frame_framed : (k : ℕ) (u : List ℕ) → frame.read u ≡ None → framed k u ≡ None
unfolding framed
no_frame_framed k u e = rw e refl

pub none_framed : (k : ℕ) (rest : List ℕ) (f : ℕ × List ℕ) (j : ℕ) → framed k rest ≡ None → FramedInOrder k rest f j → ⊥
none_framed k rest f j e t = let z : ◌≡◌ {A = Option (Framed × List ℕ)} None (Some ((j, f.0, f.1), t.1)) = sym e ∙ ap (framed k) t.2 ∙ framed_again k t.0 t.1 f j t.3 t.4 in absurd cc

each_byte : (l : List ℕ) → Each OneByte l l
unfolding Each
each_byte [] = refl
each_byte (x ∷ l) = (x ∷ [], l, refl, refl, each_byte l)

bytes_spelled : (head contents : List ℕ) → Unsigned 32 head (length contents) → bytes.Spells (head ++ contents) contents
unfolding Counted
bytes_spelled head contents s = (head, contents, refl, s, each_byte contents)

pub framed_whole : (id : ℕ) (head contents : List ℕ) → Unsigned 32 head (length contents) → frame.Spells (id ∷ (head ++ contents)) (id, contents)
unfolding frame
framed_whole id head contents s = (id ∷ [], head ++ contents, refl, refl, bytes_spelled head contents s)

-- ## Whole sections

pub section_added : (b u : List ℕ) (ps : List Section) (k : ℕ) (s : Framed) (rest : List ℕ) (p : Section) → BeginsWith b ps k u → framed k u ≡ Some (s, rest) → section_of (s.1, s.2) ≡ Some p → BeginsWith b (ps ++ p ∷ []) s.0 rest
section_added b u ps k s rest p h e t =
    let a = framed_some k u s rest e in
    one_more b ps k s.0 u a.0 rest (s.1, s.2) p h a.1 a.2 a.3 (section_decided.found (s.1, s.2) p t)

no_section : (f : ℕ × List ℕ) → section_of f ≡ None → (p : Section) → IsSection f p → ⊥
no_section f t p g = let z : ◌≡◌ {A = Option Section} None (Some p) = sym t ∙ section_decided.only f p g in absurd cc

-- contents that are framed and say nothing
pub bad_contents : (b w : List ℕ) (ps : List Section) (k j : ℕ) (f : ℕ × List ℕ) → BeginsWith b ps k w → FramedInOrder k w f j → section_of f ≡ None → IsDoomed b (fault.Content (length ps))
bad_contents b w ps k j f h t e = λ c.
    (ps, k, w ++ c, begins_on b c ps k w h, refl, f, j, (t.0, t.1 ++ c, ap (λ (l : List ℕ). l ++ c) t.2 ∙ append_assoc t.0 t.1 c, t.3, t.4), no_section f e)

pub bad_section : (b u : List ℕ) (ps : List Section) (k : ℕ) (s : Framed) (rest : List ℕ) → BeginsWith b ps k u → framed k u ≡ Some (s, rest) → section_of (s.1, s.2) ≡ None → IsDoomed b (fault.Content (length ps))
bad_section b u ps k s rest h e t =
    let a = framed_some k u s rest e in
    bad_contents b u ps k s.0 (s.1, s.2) h (a.0, rest, a.1, a.2, a.3) t
