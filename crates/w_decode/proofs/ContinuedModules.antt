-- A module whose spelling begins with bytes in which a function's code ends continues what these bytes make.
use Rattle.std.proofs.Common.{◌≡◌, ℕ, ◌<◌, ◌≤◌, inl, inr, Bool, true, false, cond, List, [], ◌∷◌, ◌++◌, length, Option, Some, None, refl, sym, ap, subst, ◌∙◌, append_assoc, arith}
use Rattle.std.specs.Prelude.{nat_lt, option_map}
use Rattle.std.proofs.lemmas.Bool.{ltb-true}
use Rattle.std.proofs.lemmas.List.{append-nil, append_cancel_left, length-append, nil_from_length}
use Rattle.w_leb.specs.Format.{Format, Each, OneByte, Counted, whole}
use Rattle.w_leb.specs.FormatLaws.{wholly_decided}
use Rattle.w_leb.specs.Formats.{number, vec, one_reading}
use Rattle.w_leb.specs.Number.{Unsigned}
use Rattle.w_syntax.specs.Fields.{code}
use Rattle.w_syntax.specs.Sections.{frame, IsSection, section_of, section_decided, section, if_some, rank, id_of, next_rank, rank_after}
use Rattle.w_syntax.specs.Module.{header, empty_module, with_contents, with_all_contents}
use Rattle.w_syntax.specs.Spells.{BeginsWith, Spells}
use Rattle.w_syntax.proofs.SameLists.{same_self, same_then, same_but_codes, same_after_codes, same_but_datas}
use Rattle.w_syntax.specs.declared.module.Func.{Func}
use Rattle.w_syntax.specs.declared.module.Module.{Module}
use Rattle.w_syntax.specs.declared.module.Section.{Section}
use Rattle.w_syntax.specs.declared.module.Section.TheVariants as part
use Rattle.w_decode.specs.Continued.{Continues}
use Rattle.w_decode.specs.Ends.{BeginsCodes, EndsBetween, EndsInCodes, EndsAs}
use Rattle.w_decode.proofs.ContentsInPart.{codes_say}
use Rattle.w_decode.proofs.LongerBytes.{begins_on}
use Rattle.w_decode.proofs.ReadingExact.{ranked, frame_solid}

-- ## Codes from one place

-- two rows of functions' codes that are spelled from one place on begin alike
codes_go_on : (y e r s : List ℕ) (cs fs : List Func) → Each code.Spells y cs → Each code.Spells e fs → y ++ r ≡ e ++ s → length fs ≤ length cs → (gs : List Func) × (cs ≡ fs ++ gs)
unfolding Each
codes_go_on y e r s cs [] h k w le = (cs, refl)
codes_go_on y e r s [] (f ∷ fs) h k w le = absurd (omega arith)
codes_go_on y e r s (c ∷ cs) (f ∷ fs) h k w le =
    let whole : h.0 ++ (h.1 ++ r) ≡ k.0 ++ (k.1 ++ s) = sym (append_assoc h.0 h.1 r) ∙ ap (λ (l : List ℕ). l ++ r) (sym h.2) ∙ w ∙ ap (λ (l : List ℕ). l ++ s) k.2 ∙ append_assoc k.0 k.1 s in
    let one = one_reading code h.0 k.0 (h.1 ++ r) (k.1 ++ s) c f h.3 k.3 whole in
    let rest = codes_go_on h.1 k.1 r s cs fs h.4 k.4 one.2 (omega arith) in
    (rest.0, ap (λ (x : Func). x ∷ cs) one.1 ∙ ap (λ (l : List Func). f ∷ l) rest.1)

-- ## Behind the code section

continues_all : (m : Module) → Continues m m
continues_all m = record {
  before = same_self m;
  more = [];
  codes = sym (append-nil m.codes);
}

ranked_below : (k j r : ℕ) (v : Bool) → nat_lt k r ≡ v → ◌≡◌ {A = Option ℕ} (cond v (Some r) None) (Some j) → (k < r) × (j ≡ r)
ranked_below k j r true e h = (ltb-true k r e, cc)
ranked_below k j r false e h = absurd cc

-- a section that may come behind the code section leaves what is in front of it, and a rank that is no lower
ranks : (p : Section) (k j : ℕ) → next_rank k (id_of p) ≡ Some j → 12 ≤ k → (m : Module) → Continues m (with_contents p m) × (k ≤ j)
unfolding next_rank rank
ranks part.Custom k j e le m = (continues_all m, let z : k ≡ j = cc in omega arith)
ranks (part.Types ts) k j e le m = let r = ranked_below k j 1 (nat_lt k 1) refl e in absurd (omega (arith, r.0))
ranks (part.Imports is) k j e le m = let r = ranked_below k j 2 (nat_lt k 2) refl e in absurd (omega (arith, r.0))
ranks (part.Functions xs) k j e le m = let r = ranked_below k j 3 (nat_lt k 3) refl e in absurd (omega (arith, r.0))
ranks (part.Tables ts) k j e le m = let r = ranked_below k j 4 (nat_lt k 4) refl e in absurd (omega (arith, r.0))
ranks (part.Memories ms) k j e le m = let r = ranked_below k j 5 (nat_lt k 5) refl e in absurd (omega (arith, r.0))
ranks (part.Tags xs) k j e le m = let r = ranked_below k j 6 (nat_lt k 6) refl e in absurd (omega (arith, r.0))
ranks (part.Globals gs) k j e le m = let r = ranked_below k j 7 (nat_lt k 7) refl e in absurd (omega (arith, r.0))
ranks (part.Exports es) k j e le m = let r = ranked_below k j 8 (nat_lt k 8) refl e in absurd (omega (arith, r.0))
ranks (part.Start x) k j e le m = let r = ranked_below k j 9 (nat_lt k 9) refl e in absurd (omega (arith, r.0))
ranks (part.Elements es) k j e le m = let r = ranked_below k j 10 (nat_lt k 10) refl e in absurd (omega (arith, r.0))
ranks (part.DataCount n) k j e le m = let r = ranked_below k j 11 (nat_lt k 11) refl e in absurd (omega (arith, r.0))
ranks (part.Codes cs) k j e le m = let r = ranked_below k j 12 (nat_lt k 12) refl e in absurd (omega (arith, r.0))
ranks (part.Datas ds) k j e le m =
    let r = ranked_below k j 13 (nat_lt k 13) refl e in (
      record {
        before = same_but_datas m ds;
        more = [];
        codes = sym (append-nil m.codes);
      },
      omega (arith, r.0, r.1),
    )

continues_on : (m n o : Module) → Continues m n → Continues n o → Continues m o
continues_on m n o h k = record {
  before = same_then h.before k.before;
  more = h.more ++ k.more;
  codes = k.codes ∙ ap (λ (l : List Func). l ++ k.more) h.codes ∙ append_assoc m.codes h.more k.more;
}

-- from the rank of the code section on, sections change nothing in front of it
behind_code : (ps : List Section) (k j : ℕ) (m : Module) → rank_after k ps ≡ Some j → 12 ≤ k → Continues m (with_all_contents m ps)
unfolding rank_after with_all_contents
behind_code [] k j m e le = continues_all m
behind_code (p ∷ ps) k j m e le =
    let r = ranked (next_rank k (id_of p)) ps j e in
    let one = ranks p k r.0 r.1 le m in
    continues_on m (with_contents p m) (with_all_contents (with_contents p m) ps) one.0 (behind_code ps r.0 j (with_contents p m) r.2 (omega (arith, one.1)))

-- ## What follows in a module's spelling

no_first : (a c s : List ℕ) → [] ≡ (a ++ c) ++ s → a ≡ []
no_first a c s e = nil_from_length a (omega (arith, ap length e, length-append (a ++ c) s, length-append a c))

-- a row that begins with the spelling of another row has that row first
each_rest : {A : Type 0} (f : Format A) → ((x : A) → f.Spells [] x → ⊥) → (y e s : List ℕ) (xs zs : List A) → Each f.Spells y xs → Each f.Spells e zs → y ≡ e ++ s → (gs : List A) × (xs ≡ zs ++ gs) × Each f.Spells s gs
unfolding Each
each_rest f solid y e s xs [] h k w = (xs, refl, subst (λ (l : List ℕ). Each f.Spells l xs) (w ∙ ap (λ (l : List ℕ). l ++ s) k) h)
each_rest f solid y e s [] (z ∷ zs) h k w =
    let none = no_first k.0 k.1 s (sym h ∙ w ∙ ap (λ (l : List ℕ). l ++ s) k.2) in
    absurd (solid z (subst (λ (l : List ℕ). f.Spells l z) none k.3))
each_rest f solid y e s (x ∷ xs) (z ∷ zs) h k w =
    let whole : h.0 ++ h.1 ≡ k.0 ++ (k.1 ++ s) = sym h.2 ∙ w ∙ ap (λ (l : List ℕ). l ++ s) k.2 ∙ append_assoc k.0 k.1 s in
    let one = one_reading f h.0 k.0 h.1 (k.1 ++ s) x z h.3 k.3 whole in
    let rest = each_rest f solid h.1 k.1 s xs zs h.4 k.4 one.2 in
    (rest.0, ap (λ (v : _). v ∷ xs) one.1 ∙ ap (λ (l : List _). z ∷ l) rest.1, rest.2)

section_solid : (p : Section) → section.Spells [] p → ⊥
unfolding section
section_solid p h = frame_solid h.0 h.1

same_bytes : (c l : List ℕ) → Each OneByte c l → c ≡ l
unfolding Each
same_bytes c [] h = h
same_bytes c (x ∷ l) h = h.2 ∙ ap (λ (t : List ℕ). t ++ h.1) h.3 ∙ ap (λ (t : List ℕ). x ∷ t) (same_bytes h.1 l h.4)

-- a frame: an id, a size, and so many bytes
frame_parts : (a : List ℕ) (f : ℕ × List ℕ) → frame.Spells a f → (hd : List ℕ) × (a ≡ f.0 ∷ (hd ++ f.1)) × Unsigned 32 hd (length f.1)
unfolding frame Counted
frame_parts a f s =
    let t = s.4 in
    (t.0, s.2 ∙ ap (λ (l : List ℕ). l ++ s.1) s.3 ∙ ap (λ (l : List ℕ). f.0 ∷ l) (t.2 ∙ ap (λ (l : List ℕ). t.0 ++ l) (same_bytes t.1 f.1 t.4)), t.3)

counted_parts : (b : List ℕ) (cs : List Func) → (vec code).Spells b cs → (n y : List ℕ) × (b ≡ n ++ y) × Unsigned 32 n (length cs) × Each code.Spells y cs
unfolding Counted
counted_parts b cs h = h

codes_found : (l : List ℕ) (o : Option (List Func)) (q : Section) → whole ((vec code).read l) ≡ o → option_map part.Codes o ≡ Some q → (cs : List Func) × (q ≡ part.Codes cs) × (vec code).Spells l cs
codes_found l None q e h = absurd cc
codes_found l (Some cs) q e h = (cs, cc, (wholly_decided (vec code).Spells (vec code).read (vec code).exact).found l cs e)

spelled_parts : (a : List ℕ) (q : Section) → section.Spells a q → (f : ℕ × List ℕ) × frame.Spells a f × IsSection f q
unfolding section
spelled_parts a q h = (h.0, h.1, h.2)

first_of : {x y : ℕ} {r s : List ℕ} → x ∷ r ≡ y ∷ s → x ≡ y
first_of e = cc

rest_of : {x y : ℕ} {r s : List ℕ} → x ∷ r ≡ y ∷ s → r ≡ s
rest_of e = cc

-- where a section begins with the same bytes, its id is that of the code section, and its contents begin alike
same_contents : (u c a tail : List ℕ) (fs : List Func) (f : ℕ × List ℕ) (hd : List ℕ) → (h : BeginsCodes u fs) → u ++ c ≡ a ++ tail → a ≡ f.0 ∷ (hd ++ f.1) → Unsigned 32 hd (length f.1) → (0x0A ≡ f.0) × (h.counted ++ (h.entries ++ (h.more ++ c)) ≡ f.1 ++ tail)
same_contents u c a tail fs f hd h w e s =
    let left : u ++ c ≡ 0x0A ∷ (h.head ++ (h.counted ++ (h.entries ++ (h.more ++ c)))) =
    ap (λ (l : List ℕ). l ++ c) h.whole
    ∙ ap (λ (l : List ℕ). 0x0A ∷ l) (append_assoc h.head (h.counted ++ (h.entries ++ h.more)) c ∙ ap (λ (l : List ℕ). h.head ++ l) (append_assoc h.counted (h.entries ++ h.more) c ∙ ap (λ (l : List ℕ). h.counted ++ l) (append_assoc h.entries h.more c))) in
    let right : a ++ tail ≡ f.0 ∷ (hd ++ (f.1 ++ tail)) = ap (λ (l : List ℕ). l ++ tail) e ∙ ap (λ (l : List ℕ). f.0 ∷ l) (append_assoc hd f.1 tail) in
    let all : 0x0A ∷ (h.head ++ (h.counted ++ (h.entries ++ (h.more ++ c)))) ≡ f.0 ∷ (hd ++ (f.1 ++ tail)) = sym left ∙ w ∙ right in
    (first_of all, (one_reading (number 32) h.head hd (h.counted ++ (h.entries ++ (h.more ++ c))) (f.1 ++ tail) h.size (length f.1) h.sized s (rest_of all)).2)

-- contents that begin so have the same functions first
same_functions : (u c l tail n y : List ℕ) (fs cs : List Func) → (h : BeginsCodes u fs) → h.counted ++ (h.entries ++ (h.more ++ c)) ≡ l ++ tail → l ≡ n ++ y → Unsigned 32 n (length cs) → Each code.Spells y cs → (gs : List Func) × (cs ≡ fs ++ gs)
same_functions u c l tail n y fs cs h w e s t =
    let one = one_reading (number 32) h.counted n (h.entries ++ (h.more ++ c)) (y ++ tail) h.count (length cs) h.counts s (w ∙ ap (λ (l : List ℕ). l ++ tail) e ∙ append_assoc n y tail) in
    codes_go_on y h.entries tail (h.more ++ c) cs fs t h.codes (sym one.2) (omega (arith, h.few, one.1))

-- a section whose bytes begin so is a code section, with the same functions first
code_section : (u c a tail : List ℕ) (fs : List Func) (q : Section) → BeginsCodes u fs → u ++ c ≡ a ++ tail → section.Spells a q → (cs : List Func) × (q ≡ part.Codes cs) × (gs : List Func) × (cs ≡ fs ++ gs)
code_section u c a tail fs q h w sp =
    let s = spelled_parts a q sp in
    let f = s.0 in
    let p = frame_parts a f s.1 in
    let same = same_contents u c a tail fs f p.0 h w p.1 p.2 in
    let contents : option_map part.Codes (whole ((vec code).read f.1)) ≡ Some q = sym (codes_say f.1) ∙ ap (λ (i : ℕ). section_of (i, f.1)) same.0 ∙ section_decided.only f q s.2 in
    let found = codes_found f.1 (whole ((vec code).read f.1)) q refl contents in
    let t = counted_parts f.1 found.0 found.2 in
    let more = same_functions u c f.1 tail t.0 t.1 fs found.0 h same.1 t.2 t.3 t.4 in
    (found.0, found.1, more.0, more.1)

-- the sections behind others begin with the rank that these leave
rank_past : (ps qs : List Section) (i j k : ℕ) → rank_after i ps ≡ Some j → rank_after i (ps ++ qs) ≡ Some k → rank_after j qs ≡ Some k
unfolding rank_after
rank_past [] qs i j k h e = let same : i ≡ j = cc in ap (λ (r : ℕ). rank_after r qs) (sym same) ∙ e
rank_past (p ∷ ps) qs i j k h e =
    let r = ranked (next_rank i (id_of p)) ps j h in
    rank_past ps qs r.0 j k r.2 (ap (λ (o : Option ℕ). if_some o (λ r. rank_after r (ps ++ qs))) (sym r.1) ∙ e)

-- sections, and others behind them
all_split : (ps qs : List Section) (m : Module) → with_all_contents m (ps ++ qs) ≡ with_all_contents (with_all_contents m ps) qs
unfolding with_all_contents
all_split [] qs m = refl
all_split (p ∷ ps) qs m = all_split ps qs (with_contents p m)

-- a code section leaves its own rank
code_rank : (cs : List Func) (rs : List Section) (j k : ℕ) → rank_after j (part.Codes cs ∷ rs) ≡ Some k → rank_after 12 rs ≡ Some k
unfolding rank_after next_rank rank
code_rank cs rs j k e = step (nat_lt j 12) e
  where
    step : (v : Bool) → if_some (cond v (Some 12) None) (λ i. rank_after i rs) ≡ Some k → rank_after 12 rs ≡ Some k
    step true e = e
    step false e = absurd cc

with_more : (fs gs cs : List Func) (m : Module) → cs ≡ fs ++ gs → Continues (with_contents (part.Codes fs) m) (with_contents (part.Codes cs) m)
with_more fs gs cs m e = record {
  before = same_then (same_after_codes m fs) (same_but_codes m cs);
  more = gs;
  codes = e;
}

-- the section in which the bytes end is the code section, and others follow
from_codes : (ps : List Section) (u c : List ℕ) (fs : List Func) (gs : List Section) (last k : ℕ) (n : Module) → BeginsCodes u fs → Each section.Spells (u ++ c) gs → rank_after last gs ≡ Some k → with_all_contents empty_module (ps ++ gs) ≡ n
    → Continues (with_contents (part.Codes fs) (with_all_contents empty_module ps)) n
unfolding Each with_all_contents
from_codes ps u c fs [] last k n h e r w = absurd (omega (arith, ap length e, length-append u c, ap length h.whole))
from_codes ps u c fs (q ∷ rs) last k n h e r w =
    let s = code_section u c e.0 e.1 fs q h e.2 e.3 in
    let m = with_all_contents empty_module ps in
    let cs = s.0 in
    let after = code_rank cs rs last k (ap (λ (p : Section). rank_after last (p ∷ rs)) (sym s.1) ∙ r) in
    let is : with_all_contents (with_contents (part.Codes cs) m) rs ≡ n = ap (λ (p : Section). with_all_contents (with_contents p m) rs) (sym s.1) ∙ sym (all_split ps (q ∷ rs) empty_module) ∙ w in
    continues_on (with_contents (part.Codes fs) m) (with_contents (part.Codes cs) m) n (with_more fs s.2 cs m s.3)
    (subst (λ (x : Module). Continues (with_contents (part.Codes cs) m) x) is (behind_code rs 12 k (with_contents (part.Codes cs) m) after (omega arith)))

-- ## Sections with codes leave the rank of the code section

-- the rank that a section leaves, where a module has codes from that of the code section on alone
ranks_on : (p : Section) (k j : ℕ) (m : Module) → next_rank k (id_of p) ≡ Some j → (0 < length m.codes → 12 ≤ k) → 0 < length (with_contents p m).codes → 12 ≤ j
unfolding next_rank rank
ranks_on part.Custom k j m e h some = let z : k ≡ j = cc in subst (λ (i : ℕ). 12 ≤ i) z (h some)
ranks_on (part.Types ts) k j m e h some = let r = ranked_below k j 1 (nat_lt k 1) refl e in omega (arith, r.0, r.1, h some)
ranks_on (part.Imports is) k j m e h some = let r = ranked_below k j 2 (nat_lt k 2) refl e in omega (arith, r.0, r.1, h some)
ranks_on (part.Functions xs) k j m e h some = let r = ranked_below k j 3 (nat_lt k 3) refl e in omega (arith, r.0, r.1, h some)
ranks_on (part.Tables ts) k j m e h some = let r = ranked_below k j 4 (nat_lt k 4) refl e in omega (arith, r.0, r.1, h some)
ranks_on (part.Memories ms) k j m e h some = let r = ranked_below k j 5 (nat_lt k 5) refl e in omega (arith, r.0, r.1, h some)
ranks_on (part.Tags xs) k j m e h some = let r = ranked_below k j 6 (nat_lt k 6) refl e in omega (arith, r.0, r.1, h some)
ranks_on (part.Globals gs) k j m e h some = let r = ranked_below k j 7 (nat_lt k 7) refl e in omega (arith, r.0, r.1, h some)
ranks_on (part.Exports es) k j m e h some = let r = ranked_below k j 8 (nat_lt k 8) refl e in omega (arith, r.0, r.1, h some)
ranks_on (part.Start x) k j m e h some = let r = ranked_below k j 9 (nat_lt k 9) refl e in omega (arith, r.0, r.1, h some)
ranks_on (part.Elements es) k j m e h some = let r = ranked_below k j 10 (nat_lt k 10) refl e in omega (arith, r.0, r.1, h some)
ranks_on (part.DataCount n) k j m e h some = let r = ranked_below k j 11 (nat_lt k 11) refl e in omega (arith, r.0, r.1, h some)
ranks_on (part.Codes cs) k j m e h some = let r = ranked_below k j 12 (nat_lt k 12) refl e in omega (arith, r.1)
ranks_on (part.Datas ds) k j m e h some = let r = ranked_below k j 13 (nat_lt k 13) refl e in omega (arith, r.1)

-- the same of many sections
codes_rank : (ps : List Section) (k j : ℕ) (m : Module) → rank_after k ps ≡ Some j → (0 < length m.codes → 12 ≤ k) → 0 < length (with_all_contents m ps).codes → 12 ≤ j
unfolding rank_after with_all_contents
codes_rank [] k j m e h some = let z : k ≡ j = cc in subst (λ (i : ℕ). 12 ≤ i) z (h some)
codes_rank (p ∷ ps) k j m e h some =
    let r = ranked (next_rank k (id_of p)) ps j e in
    codes_rank ps r.0 j (with_contents p m) r.2 (ranks_on p k r.0 m r.1 h) some

-- ## By where the bytes end

-- the sections of a module, behind those that its spelling begins with
record Follow (ps : List Section) (last : ℕ) (rest : List ℕ) (n : Module) : Type 0 where
  more : List Section
  end : ℕ
  each : Each section.Spells rest more
  order : rank_after last more ≡ Some end
  makes : with_all_contents empty_module (ps ++ more) ≡ n

follows : (b c : List ℕ) (ps : List Section) (last : ℕ) (rest : List ℕ) (n : Module) → BeginsWith b ps last rest → Spells (b ++ c) n → Follow ps last (rest ++ c) n
follows b c ps last rest n h s =
    let g = begins_on b c ps last rest h in
    let all : s.2.sections ≡ g.sections ++ (rest ++ c) = sym (append-nil s.2.sections) ∙ append_cancel_left header (s.2.sections ++ []) (g.sections ++ (rest ++ c)) (sym s.2.parts ∙ g.parts) in
    let r = each_rest section section_solid s.2.sections g.sections (rest ++ c) s.0 ps s.2.each g.each all in record {
      more = r.0;
      end = s.1;
      each = r.2;
      order = rank_past ps r.0 0 last s.1 h.order (ap (rank_after 0) (sym r.1) ∙ s.2.order);
      makes = ap (with_all_contents empty_module) (sym r.1) ∙ s.3;
    }

in_codes : (b c : List ℕ) (m n : Module) → EndsInCodes b m → Spells (b ++ c) n → Continues m n
in_codes b c m n h s =
    let f = follows b c h.sections h.last h.rest n h.begins s in
    subst (λ (x : Module). Continues x n) (sym h.lists) (from_codes h.sections h.rest c h.functions f.more h.last f.end n h.codes f.each f.order f.makes)

between : (b c : List ℕ) (m n : Module) → EndsBetween b m → Spells (b ++ c) n → 0 < length m.codes → Continues m n
between b c m n h s some =
    let f = follows b c h.sections h.last h.rest n h.begins s in
    let ps = h.sections in
    let few : 12 ≤ h.last = codes_rank ps 0 h.last empty_module h.begins.order (λ z. absurd (omega (arith, z))) (subst (λ (x : Module). 0 < length x.codes) h.lists some) in
    let is : with_all_contents m f.more ≡ n = ap (λ (x : Module). with_all_contents x f.more) h.lists ∙ sym (all_split ps f.more empty_module) ∙ f.makes in
    subst (λ (x : Module). Continues m x) is (behind_code f.more h.last f.end m f.order few)

pub front_of : (b c : List ℕ) (m n : Module) → EndsAs b m → Spells (b ++ c) n → 0 < length m.codes → Continues m n
front_of b c m n (inl h) s some = absurd (omega (arith, some, ap (λ (x : Module). length x.codes) h.lists))
front_of b c m n (inr (inl h)) s some = between b c m n h s some
front_of b c m n (inr (inr h)) s some = in_codes b c m n h s
