-- The lists that a decoder has read are just those that end within its bytes.
use Rattle.std.proofs.Common.{◌≡◌, ◌≢◌, ℕ, ◌+◌, ◌<◌, inl, inr, true, false, List, [], ◌∷◌, ◌++◌, length, Option, Some, None, Result, Ok, Err, refl, sym, ap, subst, ◌∙◌, append_assoc, arith}
use Rattle.std.proofs.lemmas.List.{append-nil, length-append}
use Rattle.std.proofs.lemmas.Bool.{cases_lt}
use Rattle.w_leb.specs.Formats.{number, one_reading}
use Rattle.w_leb.specs.Number.{Unsigned, unsigned}
use Rattle.w_syntax.specs.Fields.{code}
use Rattle.w_syntax.specs.Sections.{frame, section}
use Rattle.w_syntax.specs.Module.{empty_module, with_all_contents}
use Rattle.w_syntax.specs.Spells.{Spells}
use Rattle.w_syntax.specs.declared.module.Func.{Func}
use Rattle.w_syntax.specs.declared.module.Module.{Module}
use Rattle.w_syntax.specs.declared.module.Section.{Section}
use Rattle.w_decode.specs.Ends.{NoSection, BeginsCodes, EndsAs}
use Rattle.w_decode.specs.Faults.{HasFault}
use Rattle.w_decode.specs.Pieces.{says, gathered, InContents, InHeader, InBetween, InSection, Lacks, NoCode, NoFront, stands_in, waits_in, failed_in, StandsFor, HasFailed}
use Rattle.w_decode.specs.declared.fault.DecodeFault.{DecodeFault}
use Rattle.w_decode.specs.declared.fault.DecodeFault.TheVariants as fault
use Rattle.w_decode.specs.declared.pieces.Decoder.{Decoder}
use Rattle.w_decode.specs.declared.pieces.Inside.{Inside}
use Rattle.w_decode.specs.declared.pieces.Inside.TheVariants as inside
use Rattle.w_decode.specs.declared.pieces.Phase.{Phase}
use Rattle.w_decode.specs.declared.pieces.Phase.TheVariants as phase
use Rattle.w_decode.specs.declared.sections.PartialModule.{PartialModule}
use Rattle.w_decode.proofs.LongerBytes.{frame_lacks}
use Rattle.w_decode.proofs.ContentsInPart.{contents_on, unfinished, whole_fails}
use Rattle.w_decode.proofs.ReadingExact.{spelled_decoded, fault_decoded}

-- ## Where no frame is read, no section ends

spelled_frame : (a : List ℕ) (p : Section) → section.Spells a p → (f : ℕ × List ℕ) × frame.Spells a f
unfolding section
spelled_frame a p h = (h.0, h.1)

pub no_section : (rest : List ℕ) → frame.read rest ≡ None → NoSection rest
no_section rest e = λ p a more h s.
    let f = spelled_frame a p s in
    let z : ◌≡◌ {A = Option ((ℕ × List ℕ) × List ℕ)} None (Some (f.0, more)) = sym e ∙ ap frame.read h ∙ frame.exact.complete a f.0 more f.1 in absurd cc

lacking : (b u : List ℕ) (ps : List Section) (id : ℕ) (taken : List ℕ) (j left : ℕ) (rest : List ℕ → Option Section) → (h : InContents b u ps id taken j left rest) → length u < left → NoSection (id ∷ (h.head ++ (taken ++ u)))
lacking b u ps id taken j left rest h lt =
    no_section (id ∷ (h.head ++ (taken ++ u))) (frame_lacks id (length taken + left) h.head (taken ++ u) h.sized (omega (arith, length-append taken u)))

-- ## Behind whole sections

none_between : (u : List ℕ) → NoCode u → (fs : List Func) → BeginsCodes u fs → ⊥
none_between u miss fs c = miss c.head (c.counted ++ (c.entries ++ c.more)) c.size c.whole c.sized

tree_of : (g : PartialModule) (ps : List Section) → g ≡ gathered ps → g.tree ≡ with_all_contents empty_module ps
tree_of g ps e = ap (λ (x : PartialModule). x.tree) e

between : (b u : List ℕ) (n k c : ℕ) (g : PartialModule) → InBetween g n k c u b → NoFront u → EndsAs b g.tree
between b u n k c g h w = inr (inl (record {
  sections = h.sections;
  last = k;
  rest = u;
  begins = h.begins;
  no_section = no_section u w.0;
  no_codes = none_between u w.1;
  lists = tree_of g h.sections h.holds;
}))

-- ## In contents

same_head : (x y r s : List ℕ) (m n : ℕ) → Unsigned 32 x m → Unsigned 32 y n → x ++ r ≡ y ++ s → r ≡ s
same_head x y r s m n h k e = (one_reading (number 32) x y r s m n h k e).2

no_count : (id : ℕ) (head taken u : List ℕ) (size : ℕ) → Unsigned 32 head size → taken ≡ [] → unsigned 32 u ≡ None → (fs : List Func) → BeginsCodes (id ∷ (head ++ (taken ++ u))) fs → ⊥
no_count id head taken u size s e n fs c =
    let same : head ++ (taken ++ u) ≡ c.head ++ (c.counted ++ (c.entries ++ c.more)) = tails (c.whole) in
    let left : taken ++ u ≡ c.counted ++ (c.entries ++ c.more) = same_head head c.head (taken ++ u) (c.counted ++ (c.entries ++ c.more)) size c.size s c.sized same in
    let all : u ≡ c.counted ++ (c.entries ++ c.more) = ap (λ (l : List ℕ). l ++ u) (sym e) ∙ left in
    let z : ◌≡◌ {A = Option (ℕ × List ℕ)} None (Some (c.count, c.entries ++ c.more)) = sym n ∙ ap (unsigned 32) all ∙ (number 32).exact.complete c.counted c.count (c.entries ++ c.more) c.counts in absurd cc
  where
    tails : {x y : ℕ} {r s : List ℕ} → x ∷ r ≡ y ∷ s → r ≡ s
    tails e = cc

in_count : (b u : List ℕ) (j left n c : ℕ) (g : PartialModule) → InSection j left inside.Count g n c u b → length u < left → unsigned 32 u ≡ None → EndsAs b g.tree
in_count b u j left n c g s lt miss =
    let h = s.contents in inr (inl (record {
      sections = s.sections;
      last = h.last;
      rest = s.id ∷ (h.head ++ (s.taken ++ u));
      begins = h.begins;
      no_section = lacking b u s.sections s.id s.taken j left (says inside.Count g.tree.codes) h lt;
      no_codes = no_count s.id h.head s.taken u (length s.taken + left) h.sized s.is_taken.1 miss;
      lists = tree_of g s.sections s.holds;
    }))

not_code : (id : ℕ) (r : List ℕ) → id ≡ 0x00 → (fs : List Func) → BeginsCodes (id ∷ r) fs → ⊥
not_code id r e fs c = let same : id ≡ 0x0A = firsts c.whole in absurd (omega (arith, e, same))
  where
    firsts : {x y : ℕ} {r s : List ℕ} → x ∷ r ≡ y ∷ s → x ≡ y
    firsts e = cc

in_custom : (b u : List ℕ) (j left n c : ℕ) (g : PartialModule) → InSection j left (inside.Skipped true) g n c u b → length u < left → EndsAs b g.tree
in_custom b u j left n c g s lt =
    let h = s.contents in inr (inl (record {
      sections = s.sections;
      last = h.last;
      rest = s.id ∷ (h.head ++ (s.taken ++ u));
      begins = h.begins;
      no_section = lacking b u s.sections s.id s.taken j left (says (inside.Skipped true) g.tree.codes) h lt;
      no_codes = not_code s.id (h.head ++ (s.taken ++ u)) s.is_taken;
      lists = tree_of g s.sections s.holds;
    }))

no_more_codes : (n : ℕ) (u : List ℕ) → Lacks (inside.Codes n) u → n ≢ 0 → (f : Func) (a r : List ℕ) → u ≡ a ++ r → code.Spells a f → ⊥
no_more_codes n u (inl z) some f a r e s = some z
no_more_codes n u (inr h) some f a r e s = let z : ◌≡◌ {A = Option (Func × List ℕ)} None (Some (f, r)) = sym h ∙ ap code.read e ∙ code.exact.complete a f r s in absurd cc

in_codes : (b u : List ℕ) (j left n c more : ℕ) (g : PartialModule) → InSection j left (inside.Codes more) g n c u b → length u < left → Lacks (inside.Codes more) u → EndsAs b g.tree
in_codes b u j left n c more g s lt miss =
    let h = s.contents in
    let t = s.is_taken.1 in
    let fs = g.tree.codes in
    let whole : s.id ∷ (h.head ++ (s.taken ++ u)) ≡ 0x0A ∷ (h.head ++ (t.0 ++ (t.1 ++ u))) =
    ap (λ (i : ℕ). i ∷ (h.head ++ (s.taken ++ u))) s.is_taken.0 ∙ ap (λ (l : List ℕ). 0x0A ∷ (h.head ++ l)) (ap (λ (l : List ℕ). l ++ u) t.2 ∙ append_assoc t.0 t.1 u) in inr (inr (record {
      sections = s.sections;
      last = h.last;
      rest = s.id ∷ (h.head ++ (s.taken ++ u));
      functions = fs;
      begins = h.begins;
      no_section = lacking b u s.sections s.id s.taken j left (says (inside.Codes more) fs) h lt;
      codes = record {
        size = length s.taken + left;
        count = length fs + more;
        head = h.head;
        counted = t.0;
        entries = t.1;
        more = u;
        whole = whole;
        sized = h.sized;
        counts = t.3;
        codes = t.4;
        few = omega arith;
        no_more = λ less. no_more_codes more u miss (λ z. absurd (omega (arith, less, z)));
      };
      lists = ap (λ (x : PartialModule). x.tree) s.holds;
    }))

-- ## Contents that are wrong

not_both : (b : List ℕ) (m : Module) (e : DecodeFault) → Spells b m → HasFault b e → ⊥
not_both b m e h k = let z : ◌≡◌ {A = Result Module DecodeFault} (Ok m) (Err e) = sym (spelled_decoded b m h) ∙ fault_decoded b e k in absurd cc

wrong : (b u c : List ℕ) (j left n k : ℕ) (g : PartialModule) (m : Module) → InSection j left (inside.Skipped false) g n k u b → Spells (b ++ c) m → ⊥
wrong b u c j left n k g m s h = elim (cases_lt (length (u ++ c)) left) [
  | inr le ↦
      let all : InSection j left (inside.Skipped false) g n k (u ++ c) (b ++ c) = record {
        sections = s.sections;
        id = s.id;
        taken = s.taken;
        contents = contents_on b c u s.sections s.id s.taken j left (says (inside.Skipped false) g.tree.codes) s.contents;
        many = s.many;
        holds = tt;
        is_taken = tt;
        closed = s.closed;
      } in
      not_both (b ++ c) m (fault.Content n) h (subst (λ (l : List ℕ). HasFault l (fault.Content n)) (append-nil (b ++ c)) (whole_fails (inside.Skipped false) (b ++ c) (u ++ c) j left n k g le refl all []))
  | inl lt ↦ not_both (b ++ c) m (fault.Frame (length s.sections)) h (unfinished (b ++ c) (u ++ c) s.sections s.id s.taken j left (says (inside.Skipped false) g.tree.codes) (contents_on b c u s.sections s.id s.taken j left (says (inside.Skipped false) g.tree.codes) s.contents) lt)
]

-- ## By the phase

in_header : (b u : List ℕ) (n k c : ℕ) (g : PartialModule) → InHeader g n k c u b → length u < 8 → EndsAs b g.tree
in_header b u n k c g h lt = inl (record { short = omega (arith, ap length h.all_wait); lists = ap (λ (x : PartialModule). x.tree) h.holds })

in_section : (i : Inside) (b u c : List ℕ) (j left n k : ℕ) (g : PartialModule) (m : Module) → InSection j left i g n k u b → length u < left → Lacks i u → Spells (b ++ c) m → EndsAs b g.tree
in_section inside.Count b u c j left n k g m s lt miss h = in_count b u j left n k g s lt miss
in_section (inside.Codes more) b u c j left n k g m s lt miss h = in_codes b u j left n k more g s lt miss
in_section (inside.Skipped true) b u c j left n k g m s lt miss h = in_custom b u j left n k g s lt
in_section (inside.Skipped false) b u c j left n k g m s lt miss h = absurd (wrong b u c j left n k g m s h)

in_phase : (p : Phase) (d : Decoder) (u b c : List ℕ) (m : Module) → stands_in p d u b → waits_in p u → ((e : DecodeFault) → failed_in p e → ⊥) → Spells (b ++ c) m → EndsAs b d.so_far.tree
in_phase phase.Header d u b c m s w miss h = in_header b u d.number d.rank d.closed d.so_far s w
in_phase phase.Between d u b c m s w miss h = between b u d.number d.rank d.closed d.so_far s w
in_phase (phase.Contents j left i) d u b c m s w miss h = in_section i b u c j left d.number d.closed d.so_far m s.1 w.0 w.1 h
in_phase (phase.Failed e) d u b c m s w miss h = absurd (miss e refl)

pub ends_as : (d : Decoder) (b c : List ℕ) (m : Module) → StandsFor d b → ((e : DecodeFault) → HasFailed d e → ⊥) → Spells (b ++ c) m → EndsAs b d.so_far.tree
ends_as d b c m s miss h = in_phase d.phase d d.kept.items b c m s.stands s.waits miss h

-- how many bodies are read
closed_in : (p : Phase) (d : Decoder) (u b : List ℕ) → stands_in p d u b → ((e : DecodeFault) → failed_in p e → ⊥) → d.closed ≡ length d.so_far.tree.codes
closed_in phase.Header d u b s miss = s.closed ∙ sym (ap (λ (x : PartialModule). length x.tree.codes) s.holds)
closed_in phase.Between d u b s miss = s.closed
closed_in (phase.Contents j left i) d u b s miss = s.1.closed
closed_in (phase.Failed e) d u b s miss = absurd (miss e refl)

pub closed_is : (d : Decoder) (b : List ℕ) → StandsFor d b → ((e : DecodeFault) → HasFailed d e → ⊥) → d.closed ≡ length d.so_far.tree.codes
closed_is d b s miss = closed_in d.phase d d.kept.items b s.stands miss
