-- What the contents of a section say that are taken in part: a count, functions, or bytes that change nothing; and how the section ends.
use Rattle.std.proofs.Common.{◌≡◌, ◌≢◌, ℕ, zero, suc, ◌+◌, ◌-◌, ◌<◌, ◌≤◌, inl, inr, Bool, true, false, List, [], ◌∷◌, ◌++◌, length, take, drop, Option, Some, None, refl, sym, ap, subst, ◌∙◌, append_assoc, arith}
use Rattle.std.specs.Prelude.{nat_eq, option_map, slice_range}
use Rattle.std.proofs.lemmas.Bool.{eqb-true}
use Rattle.std.proofs.lemmas.List.{append-nil, length-append, length-take, length-take-le, take-append-drop, take_min, take-take, nil_from_length}
use Rattle.w_leb.specs.Format.{Grammar, Each, then, many, counted, whole, with_rest}
use Rattle.w_leb.specs.Formats.{bytes, number, vec}
use Rattle.w_leb.specs.Number.{Unsigned, unsigned}
use Rattle.w_syntax.specs.Fields.{code, func}
use Rattle.w_syntax.specs.Sections.{section_of, section_decided, next_rank}
use Rattle.w_syntax.specs.Module.{with_all_contents, count_after}
use Rattle.w_syntax.specs.Spells.{BeginsWith}
use Rattle.w_syntax.specs.declared.module.Func.{Func}
use Rattle.w_syntax.specs.declared.module.Section.{Section}
use Rattle.w_syntax.specs.declared.module.Section.TheVariants as part
use Rattle.w_decode.specs.Faults.{FramedInOrder, HasFault}
use Rattle.w_decode.specs.Pieces.{gathered, behind_them, says, is_ended, InContents, Holds, InBetween, InSection, IsTaken, AreCodes, Lacks, IsIncomplete, IsDoomed, Skips, IsCustom, IsCode, Moves}
use Rattle.w_decode.specs.Reading.{no_sections, with_section}
use Rattle.w_decode.specs.declared.fault.DecodeFault.TheVariants as fault
use Rattle.w_decode.specs.declared.pieces.Inside.{Inside}
use Rattle.w_decode.specs.declared.pieces.Inside.TheVariants as inside
use Rattle.w_decode.specs.declared.sections.PartialModule.{PartialModule}
use Rattle.w_decode.proofs.LongerBytes.{reads_on, begins_on, framed_whole, unframed, none_framed, bad_contents}
use Rattle.w_decode.proofs.ReadingExact.{gathered_is, parts_last, one_more}

-- ## What sections make

pub gathered_none : gathered [] ≡ no_sections
unfolding with_all_contents count_after
gathered_none = refl

pub gathered_last : (ps : List Section) (p : Section) → with_section p (gathered ps) ≡ gathered (ps ++ p ∷ [])
gathered_last ps p = ap (with_section p) (sym (gathered_is ps no_sections)) ∙ sym (parts_last ps p no_sections) ∙ gathered_is (ps ++ p ∷ []) no_sections

pub one_longer : (ps : List Section) (p : Section) (n : ℕ) → length ps ≡ n → length (ps ++ p ∷ []) ≡ n + 1
one_longer ps p n e = omega (arith, e, length-append ps (p ∷ []))

-- ## Going on in contents

pub opened : (b u : List ℕ) (ps : List Section) (k id size j : ℕ) (head r : List ℕ) → BeginsWith b ps k u → u ≡ id ∷ (head ++ r) → Unsigned 32 head size → next_rank k id ≡ Some j → InContents b r ps id [] j size (λ e. section_of (id, e))
opened b u ps k id size j head r h e s o = record {
  last = k;
  head = head;
  begins = subst (BeginsWith b ps k) e h;
  sized = subst (Unsigned 32 head) (omega arith) s;
  order = o;
  says_rest = λ t le. refl;
}

moved_on : (b u v z : List ℕ) (ps : List Section) (id : ℕ) (taken : List ℕ) (j left more : ℕ) (rest after : List ℕ → Option Section) → InContents b u ps id taken j left rest → u ≡ z ++ v → left ≡ length z + more → ((e : List ℕ) → length e ≡ more → rest (z ++ e) ≡ after e) → InContents b v ps id (taken ++ z) j more after
moved_on b u v z ps id taken j left more rest after h e l f =
    let n : length taken + left ≡ length (taken ++ z) + more = omega (arith, l, length-append taken z) in record {
      last = h.last;
      head = h.head;
      begins = subst (λ (t : List ℕ). BeginsWith b ps h.last (id ∷ (h.head ++ t))) (ap (λ (t : List ℕ). taken ++ t) e ∙ sym (append_assoc taken z v)) h.begins;
      sized = subst (Unsigned 32 h.head) n h.sized;
      order = h.order;
      says_rest = λ t le. ap (λ (l : List ℕ). section_of (id, l)) (append_assoc taken z t) ∙ h.says_rest (z ++ t) (omega (arith, le, l, length-append z t)) ∙ f t le;
    }

-- so many bytes are taken
pub moved : (b u : List ℕ) (ps : List Section) (id : ℕ) (taken : List ℕ) (j left n : ℕ) (rest after : List ℕ → Option Section) → InContents b u ps id taken j left rest → n ≤ length u → n ≤ left → ((e : List ℕ) → length e ≡ left - n → rest (take n u ++ e) ≡ after e) → InContents b (drop n u) ps id (taken ++ take n u) j (left - n) after
moved b u ps id taken j left n rest after h le lt f =
    moved_on b u (drop n u) (take n u) ps id taken j left (left - n) rest after h (sym (take-append-drop n u)) (omega (arith, length-take-le n u le)) f

-- more bytes wait
pub contents_on : (b c u : List ℕ) (ps : List Section) (id : ℕ) (taken : List ℕ) (j left : ℕ) (rest : List ℕ → Option Section) → InContents b u ps id taken j left rest → InContents (b ++ c) (u ++ c) ps id taken j left rest
contents_on b c u ps id taken j left rest h =
    let same : (id ∷ (h.head ++ (taken ++ u))) ++ c ≡ id ∷ (h.head ++ (taken ++ (u ++ c))) =
    ap (λ (l : List ℕ). id ∷ l) (append_assoc h.head (taken ++ u) c ∙ ap (λ (l : List ℕ). h.head ++ l) (append_assoc taken u c)) in record {
      last = h.last;
      head = h.head;
      begins = subst (BeginsWith (b ++ c) ps h.last) same (begins_on b c ps h.last (id ∷ (h.head ++ (taken ++ u))) h.begins);
      sized = h.sized;
      order = h.order;
      says_rest = h.says_rest;
    }

-- ## The end of a section

abbrev all_framed : (b u : List ℕ) (ps : List Section) (id : ℕ) (taken : List ℕ) (j : ℕ) (rest : List ℕ → Option Section) → (h : InContents b u ps id taken j 0 rest) → FramedInOrder h.last (id ∷ (h.head ++ (taken ++ u))) (id, taken) j
all_framed b u ps id taken j rest h =
    let n : length taken + 0 ≡ length taken = omega arith in
    (id ∷ (h.head ++ taken), u, ap (λ (l : List ℕ). id ∷ l) (sym (append_assoc h.head taken u)), framed_whole id h.head taken (subst (Unsigned 32 h.head) n h.sized), h.order)

all_say : (b u : List ℕ) (ps : List Section) (id : ℕ) (taken : List ℕ) (j : ℕ) (rest : List ℕ → Option Section) → (h : InContents b u ps id taken j 0 rest) → section_of (id, taken) ≡ rest []
all_say b u ps id taken j rest h = ap (λ (l : List ℕ). section_of (id, l)) (sym (append-nil taken)) ∙ h.says_rest [] refl

section_ends : (b u : List ℕ) (ps : List Section) (id : ℕ) (taken : List ℕ) (j : ℕ) (rest : List ℕ → Option Section) (p : Section) → InContents b u ps id taken j 0 rest → rest [] ≡ Some p → BeginsWith b (ps ++ p ∷ []) j u
section_ends b u ps id taken j rest p h e =
    let t = all_framed b u ps id taken j rest h in
    one_more b ps h.last j (id ∷ (h.head ++ (taken ++ u))) t.0 t.1 (id, taken) p h.begins t.2 t.3 t.4 (section_decided.found (id, taken) p (all_say b u ps id taken j rest h ∙ e))

section_fails : (b u : List ℕ) (ps : List Section) (id : ℕ) (taken : List ℕ) (j : ℕ) (rest : List ℕ → Option Section) → InContents b u ps id taken j 0 rest → rest [] ≡ None → IsDoomed b (fault.Content (length ps))
section_fails b u ps id taken j rest h e =
    bad_contents b (id ∷ (h.head ++ (taken ++ u))) ps h.last j (id, taken) h.begins (all_framed b u ps id taken j rest h) (all_say b u ps id taken j rest h ∙ e)

-- the bytes end before the section does
pub unfinished : (b u : List ℕ) (ps : List Section) (id : ℕ) (taken : List ℕ) (j left : ℕ) (rest : List ℕ → Option Section) → InContents b u ps id taken j left rest → length u < left → HasFault b (fault.Frame (length ps))
unfinished b u ps id taken j left rest h lt =
    let w = id ∷ (h.head ++ (taken ++ u)) in
    let none = unframed h.last id (length taken + left) h.head (taken ++ u) h.sized (omega (arith, length-append taken u)) in
    (ps, h.last, w, h.begins, refl, λ e. absurd (omega (arith, ap length e)), λ f j t. none_framed h.last w f j none t)

-- ## What contents say

-- those of the code section
pub codes_say : (l : List ℕ) → section_of (0x0A, l) ≡ option_map part.Codes (whole ((vec code).read l))
unfolding section_of
codes_say l = refl

abbrev said : Option (List Func × List ℕ) → Option Section
said o = option_map part.Codes (whole o)

none_in_front : (o : Option (List Func × List ℕ)) → o ≡ behind_them [] o
none_in_front None = refl
none_in_front (Some p) = refl

count_read : (z e : List ℕ) (n : ℕ) → Unsigned 32 z n → (vec code).read (z ++ e) ≡ many code.read n e
unfolding counted
count_read z e n s = rw ((number 32).exact.complete z n e s) refl

pub count_says : (fs : List Func) (z e : List ℕ) (n : ℕ) → Unsigned 32 z n → says inside.Count fs (z ++ e) ≡ says (inside.Codes n) [] e
count_says fs z e n s = codes_say (z ++ e) ∙ ap said (count_read z e n s ∙ none_in_front (many code.read n e))

no_count_read : (l : List ℕ) → unsigned 32 l ≡ None → (vec code).read l ≡ None
unfolding counted
no_count_read l e = rw e refl

pub no_count_says : (fs : List Func) (l : List ℕ) → unsigned 32 l ≡ None → says inside.Count fs l ≡ None
no_count_says fs l e = codes_say l ∙ ap said (no_count_read l e)

regroup : (fs : List Func) (f : Func) (o : Option (List Func × List ℕ)) → behind_them fs (then o (λ gs rest. Some (f ∷ gs, rest))) ≡ behind_them (fs ++ f ∷ []) o
regroup fs f None = refl
regroup fs f (Some p) = ap (λ (l : List Func). Some (l, p.1)) (sym (append_assoc fs (f ∷ []) p.0))

one_read : (n : ℕ) (fs : List Func) (z e : List ℕ) (f : Func) → code.Spells z f → behind_them fs (many code.read (suc n) (z ++ e)) ≡ behind_them (fs ++ f ∷ []) (many code.read n e)
unfolding many
one_read n fs z e f s =
    ap (λ (o : Option (Func × List ℕ)). behind_them fs (then o (λ x rest. then (many code.read n rest) (λ xs more. Some (x ∷ xs, more))))) (code.exact.complete z f e s)
    ∙ regroup fs f (many code.read n e)

pub code_says : (n m : ℕ) (fs : List Func) (z e : List ℕ) (f : Func) → n ≡ suc m → code.Spells z f → says (inside.Codes n) fs (z ++ e) ≡ says (inside.Codes m) (fs ++ f ∷ []) e
code_says n m fs z e f h s = ap (λ (i : ℕ). says (inside.Codes i) fs (z ++ e)) h ∙ ap said (one_read m fs z e f s)

none_read : (n : ℕ) (fs : List Func) (l : List ℕ) → code.read l ≡ None → behind_them fs (many code.read (suc n) l) ≡ None
unfolding many
none_read n fs l e = rw e refl

pub no_code_says : (n m : ℕ) (fs : List Func) (l : List ℕ) → n ≡ suc m → code.read l ≡ None → says (inside.Codes n) fs l ≡ None
no_code_says n m fs l h e = ap (λ (i : ℕ). says (inside.Codes i) fs l) h ∙ ap said (none_read m fs l e)

-- a size that is there, and no function behind it
with_none : (rest : List ℕ) (o : Option Func) → with_rest rest o ≡ None → o ≡ None
with_none rest None e = refl
with_none rest (Some x) e = absurd cc

code_none_on : (l c e r : List ℕ) → bytes.read l ≡ Some (e, r) → code.read l ≡ None → code.read (l ++ c) ≡ None
unfolding code
code_none_on l c e r h n =
    let o : Option Func = whole (func.read e) in
    let none : o ≡ None = with_none r o (sym (ap (λ (p : Option (List ℕ × List ℕ)). then p (λ d rest. with_rest rest (whole (func.read d)))) h) ∙ n) in
    ap (λ (p : Option (List ℕ × List ℕ)). then p (λ d rest. with_rest rest (whole (func.read d)))) (reads_on bytes l c e r h) ∙ ap (with_rest (r ++ c)) none

pub bad_code_says : (n m : ℕ) (fs : List Func) (l c e r : List ℕ) → n ≡ suc m → bytes.read l ≡ Some (e, r) → code.read l ≡ None → says (inside.Codes n) fs (l ++ c) ≡ None
bad_code_says n m fs l c e r h k g = no_code_says n m fs (l ++ c) h (code_none_on l c e r k g)

size_none : (l : List ℕ) → bytes.read l ≡ None → code.read l ≡ None
unfolding code
size_none l e = rw e refl

-- bytes behind the last function
pub past_codes_says : (fs : List Func) (l c : List ℕ) → 0 < length l → says (inside.Codes 0) fs (l ++ c) ≡ None
unfolding many
past_codes_says fs [] c lt = absurd (omega arith)
past_codes_says fs (x ∷ l) c lt = refl

no_code_nil : code.read [] ≡ None
unfolding code counted unsigned
no_code_nil = refl

pub code_solid : (f : Func) → code.Spells [] f → ⊥
code_solid f h = let z : ◌≡◌ {A = Option (Func × List ℕ)} None (Some (f, [])) = sym no_code_nil ∙ code.exact.complete [] f [] h in absurd cc

-- ## Where no byte of the section is to come

last_says : (fs : List Func) (n : ℕ) → n ≡ 0 → says (inside.Codes n) fs [] ≡ Some (part.Codes fs)
unfolding many
last_says fs n e = ap (λ (i : ℕ). says (inside.Codes i) fs []) e ∙ ap (λ (l : List Func). Some (part.Codes l)) (append-nil fs)

missing_says : (fs : List Func) (n m : ℕ) → n ≡ suc m → says (inside.Codes n) fs [] ≡ None
missing_says fs n m e = no_code_says n m fs [] e no_code_nil

no_contents_say : (fs : List Func) → says inside.Count fs [] ≡ None
unfolding unsigned
no_contents_say fs = no_count_says fs [] refl

ended_codes : (b u : List ℕ) (j more n c : ℕ) (g : PartialModule) (v : Bool) → nat_eq more 0 ≡ v → v ≡ true → InSection j 0 (inside.Codes more) g n c u b → InBetween g (n + 1) j c u b
ended_codes b u j more n c g v h t s =
    let p = part.Codes g.tree.codes in
    let z : more ≡ 0 = eqb-true more 0 (h ∙ t) in record {
      sections = s.sections ++ p ∷ [];
      begins = section_ends b u s.sections s.id s.taken j (says (inside.Codes more) g.tree.codes) p s.contents (last_says g.tree.codes more z);
      many = one_longer s.sections p n s.many;
      holds = s.holds ∙ gathered_last s.sections p;
      closed = s.closed;
    }

pub ended_well : (i : Inside) (b u : List ℕ) (j n c : ℕ) (g : PartialModule) → is_ended i ≡ true → InSection j 0 i g n c u b → InBetween g (n + 1) j c u b
ended_well inside.Count b u j n c g t s = absurd cc
ended_well (inside.Codes more) b u j n c g t s = ended_codes b u j more n c g (nat_eq more 0) refl t s
ended_well (inside.Skipped true) b u j n c g t s = record {
  sections = s.sections ++ part.Custom ∷ [];
  begins = section_ends b u s.sections s.id s.taken j (says (inside.Skipped true) g.tree.codes) part.Custom s.contents refl;
  many = one_longer s.sections part.Custom n s.many;
  holds = s.holds ∙ gathered_last s.sections part.Custom;
  closed = s.closed;
}
ended_well (inside.Skipped false) b u j n c g t s = absurd cc

not_ended : (i : Inside) (fs : List Func) → is_ended i ≡ false → says i fs [] ≡ None
not_ended inside.Count fs t = no_contents_say fs
not_ended (inside.Codes zero) fs t = absurd cc
not_ended (inside.Codes (suc m)) fs t = missing_says fs (suc m) m refl
not_ended (inside.Skipped true) fs t = absurd cc
not_ended (inside.Skipped false) fs t = refl

pub ended_badly : (i : Inside) (b u : List ℕ) (j n c : ℕ) (g : PartialModule) → is_ended i ≡ false → InSection j 0 i g n c u b → IsDoomed b (fault.Content n)
ended_badly i b u j n c g t s = subst (λ (m : ℕ). IsDoomed b (fault.Content m)) s.many (section_fails b u s.sections s.id s.taken j (says i g.tree.codes) s.contents (not_ended i g.tree.codes t))

-- ## Contents that are all there, and say nothing

pub lacks_says : (i : Inside) (fs : List Func) (l : List ℕ) → IsIncomplete i → Lacks i l → says i fs l ≡ None
lacks_says inside.Count fs l more h = no_count_says fs l h
lacks_says (inside.Codes n) fs l more (inl z) = absurd (more z)
lacks_says (inside.Codes n) fs l more (inr h) = no_code_says n (n - 1) fs l (omega (arith, more)) h
lacks_says (inside.Skipped named) fs l more h = absurd more

pub whole_fails : (i : Inside) (b u : List ℕ) (j left n c : ℕ) (g : PartialModule) → left ≤ length u → says i g.tree.codes (take left u) ≡ None → InSection j left i g n c u b → IsDoomed b (fault.Content n)
whole_fails i b u j left n c g le e s =
    let z : left - left ≡ 0 = omega arith in
    let ps = s.sections in
    let all = moved b u ps s.id s.taken j left left (says i g.tree.codes) (λ t. None) s.contents le (omega arith) (λ t k. ap (λ (l : List ℕ). says i g.tree.codes (take left u ++ l)) (nil_from_length t (k ∙ z)) ∙ ap (says i g.tree.codes) (append-nil (take left u)) ∙ e) in
    subst (λ (m : ℕ). IsDoomed b (fault.Content m)) s.many
    (section_fails b (drop left u) ps s.id (s.taken ++ take left u) j (λ t. None) (subst (λ (m : ℕ). InContents b (drop left u) ps s.id (s.taken ++ take left u) j m (λ t. None)) z all) refl)

-- ## Taking of contents

window_front : (u : List ℕ) (left next : ℕ) → next ≤ length (take left u) → (slice_range (take left u) 0 next ≡ take next u) × (next ≤ left) × (next ≤ length u)
window_front u left next le =
    let m = length-take left u in
    let few : next ≤ left = omega (arith, m) in
    let there : next ≤ length u = omega (arith, m) in
    let z : next - 0 ≡ next = omega arith in
    (ap (λ (k : ℕ). take k (take left u)) z ∙ take-take next left u few, few, there)

same_window : (u : List ℕ) (left : ℕ) → take (length (take left u)) u ≡ take left u
same_window u left = ap (λ (k : ℕ). take k u) (length-take left u) ∙ take_min left u

each_one_more : {A : Type 0} (g : Grammar A) (c a : List ℕ) (xs : List A) (x : A) → Each g c xs → g a x → Each g (c ++ a) (xs ++ x ∷ [])
unfolding Each
each_one_more g c a [] x h s = rw h (a, [], sym (append-nil a), s, refl)
each_one_more g c a (y ∷ ys) x h s = (h.0, h.1 ++ a, ap (λ (t : List ℕ). t ++ a) h.2 ∙ append_assoc h.0 h.1 a, h.3, each_one_more g h.1 a ys x h.4 s)

none_yet : Each code.Spells [] []
unfolding Each
none_yet = refl

-- the count
pub count_taken : (b u : List ℕ) (j left n c next more : ℕ) (g h : PartialModule) → InSection j left inside.Count g n c u b → next ≤ length (take left u) → Unsigned 32 (slice_range (take left u) 0 next) more
    → h ≡ with_section (part.Codes []) g → InSection j (left - next) (inside.Codes more) h n 0 (drop next u) b
count_taken b u j left n c next more g h s le sp e =
    let w = window_front u left next le in
    let spelled : Unsigned 32 (take next u) more = subst (λ (l : List ℕ). Unsigned 32 l more) w.0 sp in
    let none : h.tree.codes ≡ [] = ap (λ (x : PartialModule). x.tree.codes) e in
    let all = moved b u s.sections s.id s.taken j left next (says inside.Count g.tree.codes) (says (inside.Codes more) []) s.contents w.2 w.1 (λ t k. count_says g.tree.codes (take next u) t more spelled) in
    let all_come : more ≡ 0 + more = omega arith in
    let counted : AreCodes (s.taken ++ take next u) more [] =
    (take next u, [], ap (λ (l : List ℕ). l ++ take next u) s.is_taken.1 ∙ sym (append-nil (take next u)), subst (Unsigned 32 (take next u)) all_come spelled, none_yet) in record {
      sections = s.sections;
      id = s.id;
      taken = s.taken ++ take next u;
      contents = subst (λ (fs : List Func). InContents b (drop next u) s.sections s.id (s.taken ++ take next u) j (left - next) (says (inside.Codes more) fs)) (sym none) all;
      many = s.many;
      holds = e ∙ ap (with_section (part.Codes [])) s.holds ∙ ap (λ (fs : List Func). with_section (part.Codes fs) (gathered s.sections)) (sym none);
      is_taken = (s.is_taken.0, subst (AreCodes (s.taken ++ take next u) more) (sym none) counted);
      closed = sym (ap length none);
    }

-- the code of a function
pub code_taken : (b u : List ℕ) (j left n c next more : ℕ) (f : Func) (g h : PartialModule) → InSection j left (inside.Codes more) g n c u b → more ≢ 0 → next ≤ length (take left u) → code.Spells (slice_range (take left u) 0 next) f
    → h ≡ with_section (part.Codes (g.tree.codes ++ f ∷ [])) g → InSection j (left - next) (inside.Codes (more - 1)) h n (c + 1) (drop next u) b
code_taken b u j left n c next more f g h s some le sp e =
    let w = window_front u left next le in
    let fs = g.tree.codes in
    let z = take next u in
    let spelled : code.Spells z f = subst (λ (l : List ℕ). code.Spells l f) w.0 sp in
    let now : h.tree.codes ≡ fs ++ f ∷ [] = ap (λ (x : PartialModule). x.tree.codes) e in
    let less : more ≡ suc (more - 1) = omega (arith, some) in
    let all = moved b u s.sections s.id s.taken j left next (says (inside.Codes more) fs) (says (inside.Codes (more - 1)) (fs ++ f ∷ [])) s.contents w.2 w.1 (λ t k. code_says more (more - 1) fs z t f less spelled) in
    let t = s.is_taken.1 in
    let count : length fs + more ≡ length (fs ++ f ∷ []) + (more - 1) = omega (arith, less, length-append fs (f ∷ [])) in
    let counted : AreCodes (s.taken ++ z) (more - 1) (fs ++ f ∷ []) =
    (t.0, t.1 ++ z, ap (λ (l : List ℕ). l ++ z) t.2 ∙ append_assoc t.0 t.1 z, subst (Unsigned 32 t.0) count t.3, each_one_more code.Spells t.1 z fs f t.4 spelled) in record {
      sections = s.sections;
      id = s.id;
      taken = s.taken ++ z;
      contents = subst (λ (gs : List Func). InContents b (drop next u) s.sections s.id (s.taken ++ z) j (left - next) (says (inside.Codes (more - 1)) gs)) (sym now) all;
      many = s.many;
      holds = e ∙ ap (with_section (part.Codes (fs ++ f ∷ []))) s.holds ∙ ap (λ (gs : List Func). with_section (part.Codes gs) (gathered s.sections)) (sym now);
      is_taken = (s.is_taken.0, subst (AreCodes (s.taken ++ z) (more - 1)) (sym now) counted);
      closed = omega (arith, s.closed, ap length now, length-append fs (f ∷ []));
    }

-- bytes that change nothing
pub skipped : (i : Inside) (named : Bool) (b u : List ℕ) (j left n c : ℕ) (g : PartialModule) → InSection j left i g n c u b → Skips i named g (take left u) → InSection j (left - length (take left u)) (inside.Skipped named) g n c (drop (length (take left u)) u) b
skipped i named b u j left n c g s k =
    let m = length (take left u) in
    let size = length-take left u in
    let few : m ≤ left = omega (arith, size) in
    let there : m ≤ length u = omega (arith, size) in record {
      sections = s.sections;
      id = s.id;
      taken = s.taken ++ take m u;
      contents = moved b u s.sections s.id s.taken j left m (says i g.tree.codes) (says (inside.Skipped named) g.tree.codes) s.contents there few (λ t l. ap (λ (w : List ℕ). says i g.tree.codes (w ++ t)) (same_window u left) ∙ k.same t);
      many = s.many;
      holds = k.holds s.sections s.holds;
      is_taken = k.is_taken s.id s.taken (s.taken ++ take m u) s.is_taken;
      closed = s.closed;
    }

pub skips_on : (named : Bool) (g : PartialModule) (w : List ℕ) → Skips (inside.Skipped named) named g w
skips_on true g w = record { same = λ e. refl; holds = λ ps h. h; is_taken = λ id taken more h. h }
skips_on false g w = record { same = λ e. refl; holds = λ ps h. h; is_taken = λ id taken more h. h }

pub skips_past : (n : ℕ) (g : PartialModule) (w : List ℕ) → n ≡ 0 → 0 < length w → Skips (inside.Codes n) false g w
skips_past n g w z lt = record {
  same = λ e. ap (λ (k : ℕ). says (inside.Codes k) g.tree.codes (w ++ e)) z ∙ past_codes_says g.tree.codes w e lt;
  holds = λ ps h. tt;
  is_taken = λ id taken more h. tt;
}

pub skips_bad : (n : ℕ) (g : PartialModule) (w e r : List ℕ) → n ≢ 0 → bytes.read w ≡ Some (e, r) → code.read w ≡ None → Skips (inside.Codes n) false g w
skips_bad n g w e r some h k = record {
  same = λ t. bad_code_says n (n - 1) g.tree.codes w t e r (omega (arith, some)) h k;
  holds = λ ps t. tt;
  is_taken = λ id taken more t. tt;
}

-- ## Custom sections

custom_rank : (k : ℕ) → next_rank k 0x00 ≡ Some k
unfolding next_rank
custom_rank k = refl

skipped_says : (named : Bool) (fs gs : List Func) (e : List ℕ) → says (inside.Skipped named) fs e ≡ says (inside.Skipped named) gs e
skipped_says true fs gs e = refl
skipped_says false fs gs e = refl

skipped_holds : (named : Bool) (ps : List Section) (g : PartialModule) → g ≡ gathered ps → Holds (inside.Skipped named) ps g
skipped_holds true ps g e = e
skipped_holds false ps g e = tt

custom_taken : (named : Bool) (taken : List ℕ) (fs : List Func) → IsTaken (inside.Skipped named) 0x00 taken fs
custom_taken true taken fs = refl
custom_taken false taken fs = tt

pub custom_opened : (b u : List ℕ) (n k c left end : ℕ) (named : Bool) (g : PartialModule) → InBetween g n k c u b → IsCustom u left end named → InSection k left (inside.Skipped named) g n c (drop end u) b
custom_opened b u n k c left end named g h m =
    let ps = h.sections in
    let fs = g.tree.codes in
    let v = drop end u in
    let size = length m.taken + left in
    let all = opened b u ps k 0x00 size k m.head (m.taken ++ v) h.begins m.whole m.sized (custom_rank k) in record {
      sections = ps;
      id = 0x00;
      taken = m.taken;
      contents = moved_on b (m.taken ++ v) v m.taken ps 0x00 [] k size left (λ e. section_of (0x00, e)) (says (inside.Skipped named) fs) all refl refl (λ e le. m.says_rest e ∙ skipped_says named [] fs e);
      many = h.many;
      holds = skipped_holds named ps g h.holds;
      is_taken = custom_taken named m.taken fs;
      closed = h.closed;
    }

pub code_opened : (b u : List ℕ) (n k c j size start : ℕ) (g : PartialModule) → InBetween g n k c u b → next_rank k 0x0A ≡ Some j → IsCode u size start → InSection j size inside.Count g n c (drop start u) b
code_opened b u n k c j size start g h o m = record {
  sections = h.sections;
  id = 0x0A;
  taken = [];
  contents = opened b u h.sections k 0x0A size j m.head (drop start u) h.begins m.whole m.sized o;
  many = h.many;
  holds = h.holds;
  is_taken = (refl, refl);
  closed = h.closed;
}

-- ## How many bytes a step takes

no_number : (w : List ℕ) (next n : ℕ) → Unsigned 32 (slice_range w 0 next) n → 0 < next
unfolding Unsigned
no_number w zero n h = absurd h
no_number w (suc m) n h = omega arith

no_code : (w : List ℕ) (next : ℕ) (f : Func) → code.Spells (slice_range w 0 next) f → 0 < next
no_code w zero f h = absurd (code_solid f h)
no_code w (suc m) f h = omega arith

within_window : (u w : List ℕ) (left next : ℕ) → w ≡ take left u → next ≤ length w → next ≤ length u
within_window u w left next e le = omega (arith, le, ap length e, length-take left u)

pub count_moves : (u w : List ℕ) (left next n : ℕ) → w ≡ take left u → next ≤ length w → Unsigned 32 (slice_range w 0 next) n → Moves u next
count_moves u w left next n e le h = (no_number w next n h, within_window u w left next e le)

pub code_moves : (u w : List ℕ) (left next : ℕ) (f : Func) → w ≡ take left u → next ≤ length w → code.Spells (slice_range w 0 next) f → Moves u next
code_moves u w left next f e le h = (no_code w next f h, within_window u w left next e le)

-- a size that is there has a byte
no_bytes_nil : bytes.read [] ≡ None
unfolding counted unsigned
no_bytes_nil = refl

pub sized_some : (w e r : List ℕ) → bytes.read w ≡ Some (e, r) → length w ≡ 0 → ⊥
sized_some w e r h z = let x : ◌≡◌ {A = Option (List ℕ × List ℕ)} None (Some (e, r)) = sym no_bytes_nil ∙ ap bytes.read (sym (nil_from_length w z)) ∙ h in absurd cc

pub size_lacks : (n : ℕ) (w : List ℕ) → bytes.read w ≡ None → Lacks (inside.Codes n) w
size_lacks n w e = inr (size_none w e)
