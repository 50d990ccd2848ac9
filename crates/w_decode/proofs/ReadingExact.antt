-- What is decoded is spelled, what is spelled is decoded, and each fault comes exactly where it is said to.
use Rattle.std.proofs.Common.{◌≡◌, ℕ, zero, suc, ◌+◌, ◌-◌, ◌<◌, ◌≤◌, ◌≢◌, ◌↔◌, Bool, true, false, not, cond, List, [], ◌∷◌, ◌++◌, length, Option, Some, None, Result, Ok, Err, refl, sym, ap, subst, ◌∙◌, append_assoc, arith, eq-eqb}
use Rattle.std.specs.Prelude.{nat_eq, IsFalse}
use Rattle.std.proofs.lemmas.Bool.{eqb-true}
use Rattle.std.proofs.lemmas.List.{append-nil, length-append}
use Rattle.lists.proofs.Tests.{each_of}
use Rattle.w_leb.specs.Format.{Each}
use Rattle.w_leb.specs.FormatLaws.{then_some, some_parts}
use Rattle.w_syntax.specs.Contents.{Contents, IsChosen}
use Rattle.w_syntax.specs.Sections.{frame, kinds, IsSection, section_of, section_decided, section, if_some, id_of, next_rank, rank_after}
use Rattle.w_syntax.specs.Module.{empty_module, with_all_contents, count_after, any_uses_data, header, CountsAgree, DataAgrees}
use Rattle.w_syntax.specs.Spells.{BeginsWith, Spells}
use Rattle.w_decode.specs.Faults.{FramedInOrder, HasFault}
use Rattle.w_decode.specs.Reading.{behind, no_sections, with_section, data_agrees, counts_agree, counted_module, Framed, cut, framed, with_frame, with_content, with_header, read_sections, decoded}
use Rattle.w_decode.specs.declared.sections.PartialModule.{PartialModule}
use Rattle.w_syntax.specs.declared.module.Module.{Module}
use Rattle.w_syntax.specs.declared.module.Section.{Section}
use Rattle.w_decode.specs.declared.fault.DecodeFault.{DecodeFault}
use Rattle.w_decode.specs.declared.fault.DecodeFault.TheVariants as fault

same_eq : (n : ℕ) → nat_eq n n ≡ true
same_eq n = eq-eqb n n refl

-- ## The header

one_behind : (v : Bool) (h k : ℕ) (a b rest : List ℕ) → nat_eq k h ≡ v → ◌≡◌ {A = Option (List ℕ)} (cond v (behind a b) None) (Some rest) → (behind a b ≡ Some rest → b ≡ a ++ rest) → k ∷ b ≡ (h ∷ a) ++ rest
one_behind true h k a b rest t e f =
    let same : k ≡ h = eqb-true k h t in
    ap (λ (i : ℕ). i ∷ b) same ∙ ap (λ (l : List ℕ). h ∷ l) (f e)
one_behind false h k a b rest t e f = absurd cc

pub behind_some : (a b rest : List ℕ) → behind a b ≡ Some rest → b ≡ a ++ rest
unfolding behind
behind_some [] b rest e = cc
behind_some (h ∷ a) [] rest e = absurd cc
behind_some (h ∷ a) (k ∷ b) rest e = one_behind (nat_eq k h) h k a b rest refl e (behind_some a b rest)

pub behind_all : (a rest : List ℕ) → behind a (a ++ rest) ≡ Some rest
unfolding behind
behind_all [] rest = refl
behind_all (h ∷ a) rest = rw (same_eq h) (behind_all a rest)

-- ## A frame

pub framed_again : (k : ℕ) (a rest : List ℕ) (f : ℕ × List ℕ) (j : ℕ) → frame.Spells a f → next_rank k f.0 ≡ Some j → framed k (a ++ rest) ≡ Some ((j, f.0, f.1), rest)
unfolding framed
framed_again k a rest f j h e = rw (frame.exact.complete a f rest h, e) refl

cut_some : (f : ℕ × List ℕ) (more : List ℕ) (s : Framed) (rest : List ℕ) (o : Option ℕ) → cut f more o ≡ Some (s, rest)
    → (o ≡ Some s.0) × (f.0 ≡ s.1) × (f.1 ≡ s.2) × (more ≡ rest)
cut_some f more s rest None e = absurd cc
cut_some f more s rest (Some j) e =
    let d = some_parts (j, f.0, f.1) s more rest e in
    (ap (λ (x : Framed). Some x.0) d.0, ap (λ (x : Framed). x.1) d.0, ap (λ (x : Framed). x.2) d.0, d.1)

pub framed_some : (k : ℕ) (bytes : List ℕ) (s : Framed) (rest : List ℕ) → framed k bytes ≡ Some (s, rest) → (a : List ℕ) × (bytes ≡ a ++ rest) × frame.Spells a (s.1, s.2) × (next_rank k s.1 ≡ Some s.0)
unfolding framed
framed_some k bytes s rest e =
    let a = then_some (frame.read bytes) (λ f rest. cut f rest (next_rank k f.0)) s rest e in
    let c = cut_some a.0 a.1 s rest (next_rank k a.0.0) a.3 in
    let b = frame.exact.sound bytes a.0 a.1 a.2 in
    let same : a.0 ≡ (s.1, s.2) = ap (λ (i : ℕ). (i, a.0.1)) c.1 ∙ ap (λ (l : List ℕ). (s.1, l)) c.2 in
    (b.0, b.1 ∙ ap (λ (l : List ℕ). b.0 ++ l) c.3, subst (λ (f : ℕ × List ℕ). frame.Spells b.0 f) same b.2, subst (λ (f : ℕ × List ℕ). next_rank k f.0 ≡ Some s.0) same c.0)

pub frame_solid : (f : ℕ × List ℕ) → frame.Spells [] f → ⊥
unfolding frame
frame_solid f h = let e : suc (length h.1) ≡ 0 = sym (ap length (h.2 ∙ ap (λ (l : List ℕ). l ++ h.1) h.3)) in absurd (omega arith)

pub longer : (bytes a rest : List ℕ) (f : ℕ × List ℕ) → bytes ≡ a ++ rest → frame.Spells a f → length rest < length bytes
longer bytes [] rest f e h = absurd (frame_solid f h)
longer bytes (k ∷ a) rest f e h = omega (arith, ap length e, length-append a rest)

-- ## One section on

abbrev pub onward : ℕ → ℕ → PartialModule → Option (Framed × List ℕ) → Result Module DecodeFault
onward n i m o = with_frame i o (λ s rest. with_content i (section_of (s.1, s.2)) (λ p. read_sections n (i + 1) s.0 (with_section p m) rest))

same_content : (i : ℕ) (o : Option Section) (f g : Section → Result Module DecodeFault) → ((p : Section) → f p ≡ g p) → with_content i o f ≡ with_content i o g
same_content i None f g h = refl
same_content i (Some p) f g h = h p

same_onward : (n l i k : ℕ) (m : PartialModule) (bytes : List ℕ) (o : Option (Framed × List ℕ)) → framed k bytes ≡ o
    → ((p : Section) (j : ℕ) (rest : List ℕ) → length rest < length bytes → read_sections n (i + 1) j (with_section p m) rest ≡ read_sections l (i + 1) j (with_section p m) rest)
    → onward n i m o ≡ onward l i m o
same_onward n l i k m bytes None e h = refl
same_onward n l i k m bytes (Some s) e h =
    let a = framed_some k bytes s.0 s.1 e in
    same_content i (section_of (s.0.1, s.0.2)) (λ p. read_sections n (i + 1) s.0.0 (with_section p m) s.1) (λ p. read_sections l (i + 1) s.0.0 (with_section p m) s.1)
    (λ p. h p s.0.0 s.1 (longer bytes a.0 s.1 (s.0.1, s.0.2) a.1 a.2))

pub enough : (n l i k : ℕ) (m : PartialModule) (bytes : List ℕ) → length bytes ≤ n → length bytes ≤ l → read_sections n i k m bytes ≡ read_sections l i k m bytes
unfolding read_sections
enough n l i k m [] h g = refl
enough zero l i k m (b ∷ bs) h g = absurd (omega arith)
enough (suc n) zero i k m (b ∷ bs) h g = absurd (omega arith)
enough (suc n) (suc l) i k m (b ∷ bs) h g =
    same_onward n l i k m (b ∷ bs) (framed k (b ∷ bs)) refl (λ p j rest lt. enough n l (i + 1) j (with_section p m) rest (omega arith) (omega arith))

pub one_on : (i k : ℕ) (m : PartialModule) (bytes : List ℕ) → bytes ≢ [] → read_sections (length bytes) i k m bytes ≡ onward (length bytes - 1) i m (framed k bytes)
unfolding read_sections
one_on i k m [] h = absurd (h refl)
one_on i k m (b ∷ bs) h = ap (λ (n : ℕ). onward n i m (framed k (b ∷ bs))) (omega arith)

-- what is left is read from the place after a section
pub through_one : (i k j : ℕ) (m : PartialModule) (a rest : List ℕ) (f : ℕ × List ℕ) (p : Section) → frame.Spells a f → next_rank k f.0 ≡ Some j → section_of f ≡ Some p
    → read_sections (length (a ++ rest)) i k m (a ++ rest) ≡ read_sections (length rest) (i + 1) j (with_section p m) rest
through_one i k j m a rest f p h e s =
    let lt = longer (a ++ rest) a rest f refl h in
    one_on i k m (a ++ rest) (λ z. absurd (omega (arith, ap length z)))
    ∙ ap (onward (length (a ++ rest) - 1) i m) (framed_again k a rest f j h e)
    ∙ ap (λ (o : Option Section). with_content i o (λ p. read_sections (length (a ++ rest) - 1) (i + 1) j (with_section p m) rest)) s
    ∙ (enough (length (a ++ rest) - 1) (length rest) (i + 1) j (with_section p m) rest (omega arith) (omega arith))

-- each entry says what has its id
abbrev HaveIds : List (ℕ × Contents) → Type 0
HaveIds [] = Unit {0}
HaveIds (e ∷ es) = ((b : List ℕ) (p : Section) → e.1.Say b p → e.0 ≡ id_of p) × HaveIds es

id_chosen_by : (v : Bool) (id k : ℕ) (S R : Type 0) (p : Section) → nat_eq id k ≡ v → (S → k ≡ id_of p) → (R → id ≡ id_of p) → cond v S R → id ≡ id_of p
id_chosen_by true id k S R p e f g h = eqb-true id k e ∙ f h
id_chosen_by false id k S R p e f g h = g h

id_chosen : (es : List (ℕ × Contents)) → HaveIds es → (id : ℕ) (b : List ℕ) (p : Section) → IsChosen es id b p → id ≡ id_of p
id_chosen [] i id b p h = absurd h
id_chosen (e ∷ es) i id b p h = id_chosen_by (nat_eq id e.0) id e.0 (e.1.Say b p) (IsChosen es id b p) p refl (i.0 b p) (id_chosen es i.1 id b p) h

have_ids : HaveIds kinds
have_ids =
    (λ b p h. ap id_of (sym h.5), (λ b p h. ap id_of h.2, (λ b p h. ap id_of h.2, (λ b p h. ap id_of h.2, (λ b p h. ap id_of h.2, (λ b p h. ap id_of h.2, (λ b p h. ap id_of h.2, (λ b p h. ap id_of h.2, (λ b p h. ap id_of h.2, (λ b p h. ap id_of h.2, (λ b p h. ap id_of h.2, (λ b p h. ap id_of h.2, (λ b p h. ap id_of h.2, (λ b p h. ap id_of h.2, tt))))))))))))))

pub id_is : (f : ℕ × List ℕ) (p : Section) → IsSection f p → f.0 ≡ id_of p
unfolding IsSection
id_is f p h = id_chosen kinds have_ids f.0 f.1 p h

-- the sections so far, and these
unfoldable pub with_sections : PartialModule → List Section → PartialModule
with_sections g [] = g
with_sections g (p ∷ ps) = with_sections (with_section p g) ps

pub ranked : (o : Option ℕ) (ps : List Section) (l : ℕ) → if_some o (λ j. rank_after j ps) ≡ Some l → (j : ℕ) × (o ≡ Some j) × (rank_after j ps ≡ Some l)
ranked None ps l e = absurd cc
ranked (Some j) ps l e = (j, refl, e)

pub through : (ps : List Section) (i k l : ℕ) (m : PartialModule) (c rest : List ℕ) → Each section.Spells c ps → rank_after k ps ≡ Some l
    → read_sections (length (c ++ rest)) i k m (c ++ rest) ≡ read_sections (length rest) (i + length ps) l (with_sections m ps) rest
unfolding Each rank_after with_sections section
through [] i k l m c rest h e =
    let same : k ≡ l = cc in
    let z : i ≡ i + 0 = omega arith in
    ap (λ (t : List ℕ). read_sections (length (t ++ rest)) i k m (t ++ rest)) h ∙ ap (λ (q : ℕ). read_sections (length rest) i q m rest) same ∙ ap (λ (q : ℕ). read_sections (length rest) q l m rest) z
through (p ∷ ps) i k l m c rest h e =
    let r = ranked (next_rank k (id_of p)) ps l e in
    let f = h.3.0 in
    let id = id_is f p h.3.2 in
    let s = section_decided.only f p h.3.2 in
    let whole : c ++ rest ≡ h.0 ++ (h.1 ++ rest) = ap (λ (t : List ℕ). t ++ rest) h.2 ∙ append_assoc h.0 h.1 rest in
    let n : i + 1 + length ps ≡ i + suc (length ps) = omega arith in
    ap (λ (t : List ℕ). read_sections (length t) i k m t) whole
    ∙ through_one i k r.0 m h.0 (h.1 ++ rest) f p h.3.1 (ap (next_rank k) id ∙ r.1) s
    ∙ through ps (i + 1) r.0 l (with_section p m) h.1 rest h.4 r.2
    ∙ ap (λ (q : ℕ). read_sections (length rest) q l (with_sections (with_section p m) ps) rest) n

-- ## What is spelled is decoded

pub after_sections : (b : List ℕ) (ps : List Section) (k : ℕ) (rest : List ℕ) → BeginsWith b ps k rest → decoded b ≡ read_sections (length rest) (length ps) k (with_sections no_sections ps) rest
unfolding decoded
after_sections b ps k rest h =
    let head : behind header b ≡ Some (h.sections ++ rest) = ap (behind header) h.parts ∙ behind_all header (h.sections ++ rest) in
    let z : 0 + length ps ≡ length ps = omega arith in
    ap (λ (o : Option (List ℕ)). with_header o (λ rest. read_sections (length rest) 0 0 no_sections rest)) head ∙ (through ps 0 0 k no_sections h.sections rest h.each h.order ∙ ap (λ (q : ℕ). read_sections (length rest) q k (with_sections no_sections ps) rest) z)

ended : (i k : ℕ) (m : PartialModule) → read_sections 0 i k m [] ≡ counted_module m
unfolding read_sections
ended i k m = refl

pub gathered_is : (ps : List Section) (g : PartialModule) → with_sections g ps ≡ record { tree = with_all_contents g.tree ps; data_count = count_after g.data_count ps }
unfolding with_sections with_all_contents count_after
gathered_is [] g = refl
gathered_is (p ∷ ps) g = gathered_is ps (with_section p g)

no_data : (v : Bool) → IsFalse v → not v ≡ true
no_data v h = cc

data_no : (v : Bool) → not v ≡ true → IsFalse v
data_no true h = absurd cc
data_no false h = refl

data_true : (c : Option ℕ) (m : Module) → DataAgrees c m → data_agrees c m ≡ true
data_true (Some n) m h = rw h (same_eq (length m.datas))
data_true None m h = no_data (any_uses_data m.codes) h

true_data : (c : Option ℕ) (m : Module) → data_agrees c m ≡ true → DataAgrees c m
true_data (Some n) m h = eqb-true n (length m.datas) h
true_data None m h = data_no (any_uses_data m.codes) h

agree_true : (g : PartialModule) → CountsAgree g.data_count g.tree → counts_agree g ≡ true
agree_true g h = rw (h.0, same_eq (length g.tree.codes)) (data_true g.data_count g.tree h.1)

true_agrees : (g : PartialModule) → counts_agree g ≡ true → CountsAgree g.data_count g.tree
true_agrees g h =
    let b = each_of (nat_eq (length g.tree.functions) (length g.tree.codes)) (data_agrees g.data_count g.tree) h in
    (eqb-true (length g.tree.functions) (length g.tree.codes) b.0, true_data g.data_count g.tree b.1)

pub agreed : (g : PartialModule) → CountsAgree g.data_count g.tree → counted_module g ≡ Ok g.tree
agreed g h = rw (agree_true g h) refl

untrue : (g : PartialModule) (v : Bool) → counts_agree g ≡ v → (CountsAgree g.data_count g.tree → ⊥) → ◌≡◌ {A = Result Module DecodeFault} (cond v (Ok g.tree) (Err fault.Counts)) (Err fault.Counts)
untrue g true e h = absurd (h (true_agrees g e))
untrue g false e h = refl

pub disagreed : (g : PartialModule) → (CountsAgree g.data_count g.tree → ⊥) → counted_module g ≡ Err fault.Counts
disagreed g h = untrue g (counts_agree g) refl h

pub spelled_decoded : (b : List ℕ) (m : Module) → Spells b m → decoded b ≡ Ok m
spelled_decoded b m h =
    let g = gathered_is h.0 no_sections in
    after_sections b h.0 h.1 [] h.2 ∙ ended (length h.0) h.1 (with_sections no_sections h.0) ∙ ap counted_module g
    ∙ agreed (record { tree = with_all_contents empty_module h.0; data_count = count_after None h.0 }) (subst (CountsAgree (count_after None h.0)) (sym h.3) h.4) ∙ ap Ok h.3

-- ## Each fault is found where it is

no_frame : (k : ℕ) (rest : List ℕ) (o : Option (Framed × List ℕ)) → framed k rest ≡ o → ((f : ℕ × List ℕ) (j : ℕ) → FramedInOrder k rest f j → ⊥) → o ≡ None
no_frame k rest None e h = refl
no_frame k rest (Some s) e h = let a = framed_some k rest s.0 s.1 e in absurd (h (s.0.1, s.0.2) s.0.0 (a.0, s.1, a.1, a.2, a.3))

no_section : (f : ℕ × List ℕ) (o : Option Section) → section_of f ≡ o → ((p : Section) → IsSection f p → ⊥) → o ≡ None
no_section f None e h = refl
no_section f (Some p) e h = absurd (h p (section_decided.found f p e))

no_header : (b : List ℕ) (o : Option (List ℕ)) → behind header b ≡ o → ((rest : List ℕ) → b ≡ header ++ rest → ⊥) → o ≡ None
no_header b None e h = refl
no_header b (Some rest) e h = absurd (h rest (behind_some header b rest e))

pub fault_decoded : (b : List ℕ) (e : DecodeFault) → HasFault b e → decoded b ≡ Err e
unfolding decoded
fault_decoded b fault.Header h =
    ap (λ (o : Option (List ℕ)). with_header o (λ rest. read_sections (length rest) 0 0 no_sections rest)) (no_header b (behind header b) refl h)
fault_decoded b (fault.Frame i) h =
    let m = with_sections no_sections h.0 in
    after_sections b h.0 h.1 h.2 h.3 ∙ one_on (length h.0) h.1 m h.2 h.5
    ∙ ap (onward (length h.2 - 1) (length h.0) m) (no_frame h.1 h.2 (framed h.1 h.2) refl h.6)
    ∙ ap (λ (j : ℕ). Err (fault.Frame j)) h.4
fault_decoded b (fault.Content i) h =
    let m = with_sections no_sections h.0 in
    let f = h.5 in
    let t = h.7 in
    let lt = longer h.2 t.0 t.1 f t.2 t.3 in
    after_sections b h.0 h.1 h.2 h.3 ∙ one_on (length h.0) h.1 m h.2 (λ z. absurd (omega (arith, ap length z)))
    ∙ ap (onward (length h.2 - 1) (length h.0) m) (ap (framed h.1) t.2 ∙ framed_again h.1 t.0 t.1 f h.6 t.3 t.4)
    ∙ ap (λ (o : Option Section). with_content (length h.0) o (λ p. read_sections (length h.2 - 1) (length h.0 + 1) h.6 (with_section p m) t.1)) (no_section f (section_of f) refl h.8)
    ∙ ap (λ (j : ℕ). Err (fault.Content j)) h.4
fault_decoded b fault.Counts h =
    let g = gathered_is h.0 no_sections in
    after_sections b h.0 h.1 [] h.2 ∙ ended (length h.0) h.1 (with_sections no_sections h.0) ∙ ap counted_module g
    ∙ disagreed (record { tree = with_all_contents empty_module h.0; data_count = count_after None h.0 }) h.3
fault_decoded b fault.OutOfMemory h = absurd h

-- ## What is decoded is so

abbrev pub Means : List ℕ → Result Module DecodeFault → Type 0
Means b (Ok m) = Spells b m
Means b (Err e) = HasFault b e

each_last : (c a : List ℕ) (ps : List Section) (p : Section) → Each section.Spells c ps → section.Spells a p → Each section.Spells (c ++ a) (ps ++ p ∷ [])
unfolding Each
each_last c a [] p h s = rw h (a, [], sym (append-nil a), s, refl)
each_last c a (q ∷ ps) p h s = (h.0, h.1 ++ a, ap (λ (t : List ℕ). t ++ a) h.2 ∙ append_assoc h.0 h.1 a, h.3, each_last h.1 a ps p h.4 s)

rank_last : (ps : List Section) (p : Section) (i k j : ℕ) → rank_after i ps ≡ Some k → next_rank k (id_of p) ≡ Some j → rank_after i (ps ++ p ∷ []) ≡ Some j
unfolding rank_after
rank_last [] p i k j h e = let same : i ≡ k = cc in ap (λ (q : ℕ). if_some (next_rank q (id_of p)) (λ j. Some j)) same ∙ ap (λ (o : Option ℕ). if_some o (λ j. Some j)) e
rank_last (q ∷ ps) p i k j h e =
    let r = ranked (next_rank i (id_of q)) ps k h in
    ap (λ (o : Option ℕ). if_some o (λ j. rank_after j (ps ++ p ∷ []))) r.1 ∙ rank_last ps p r.0 k j r.2 e

pub parts_last : (ps : List Section) (p : Section) (g : PartialModule) → with_sections g (ps ++ p ∷ []) ≡ with_section p (with_sections g ps)
unfolding with_sections
parts_last [] p g = refl
parts_last (q ∷ ps) p g = parts_last ps p (with_section q g)

pub one_more : (b : List ℕ) (ps : List Section) (k j : ℕ) (rest a more : List ℕ) (f : ℕ × List ℕ) (p : Section) → BeginsWith b ps k rest → rest ≡ a ++ more → frame.Spells a f → next_rank k f.0 ≡ Some j → IsSection f p → BeginsWith b (ps ++ p ∷ []) j more
unfolding section
one_more b ps k j rest a more f p h e s r t = record {
  sections = h.sections ++ a;
  parts = h.parts ∙ ap (λ (l : List ℕ). header ++ l) (ap (λ (l : List ℕ). h.sections ++ l) e ∙ sym (append_assoc h.sections a more));
  each = each_last h.sections a ps p h.each (f, s, t);
  order = rank_last ps p 0 k j h.order (ap (next_rank k) (sym (id_is f p t)) ∙ r);
}

counts_mean_by : (b : List ℕ) (ps : List Section) (k : ℕ) (g : PartialModule) (v : Bool) → BeginsWith b ps k [] → g ≡ record { tree = with_all_contents empty_module ps; data_count = count_after None ps } → counts_agree g ≡ v → Means b (cond v (Ok g.tree) (Err fault.Counts))
counts_mean_by b ps k g true h is e =
    (ps, k, h, sym (ap (λ (x : PartialModule). x.tree) is), subst (λ (x : PartialModule). CountsAgree x.data_count g.tree) is (true_agrees g e))
counts_mean_by b ps k g false h is e =
    (ps, k, h, λ agree. let z : false ≡ true = sym e ∙ agree_true g (subst (λ (x : PartialModule). CountsAgree x.data_count x.tree) (sym is) agree) in absurd cc)

counts_mean : (b : List ℕ) (ps : List Section) (k : ℕ) → BeginsWith b ps k [] → Means b (counted_module (with_sections no_sections ps))
counts_mean b ps k h = counts_mean_by b ps k (with_sections no_sections ps) (counts_agree (with_sections no_sections ps)) h (gathered_is ps no_sections) refl

content_means : (b : List ℕ) (n : ℕ) (ps : List Section) (k : ℕ) (rest : List ℕ) (s : Framed) (a more : List ℕ) (o : Option Section) → BeginsWith b ps k rest → rest ≡ a ++ more → frame.Spells a (s.1, s.2) → next_rank k s.1 ≡ Some s.0 → section_of (s.1, s.2) ≡ o
    → ((p : Section) → BeginsWith b (ps ++ p ∷ []) s.0 more → Means b (read_sections n (length (ps ++ p ∷ [])) s.0 (with_sections no_sections (ps ++ p ∷ [])) more))
    → Means b (with_content (length ps) o (λ p. read_sections n (length ps + 1) s.0 (with_section p (with_sections no_sections ps)) more))
content_means b n ps k rest s a more None h e f r t again =
    (ps, k, rest, h, refl, (s.1, s.2), s.0, (a, more, e, f, r), λ p g. let z : ◌≡◌ {A = Option Section} None (Some p) = sym t ∙ section_decided.only (s.1, s.2) p g in absurd cc)
content_means b n ps k rest s a more (Some p) h e f r t again =
    let g = section_decided.found (s.1, s.2) p t in
    let len : length (ps ++ p ∷ []) ≡ length ps + 1 = omega (arith, length-append ps (p ∷ [])) in
    subst (λ (i : ℕ). Means b (read_sections n i s.0 (with_section p (with_sections no_sections ps)) more)) len
    (subst (λ (m : PartialModule). Means b (read_sections n (length (ps ++ p ∷ [])) s.0 m more)) (parts_last ps p no_sections) (again p (one_more b ps k s.0 rest a more (s.1, s.2) p h e f r g)))

frame_means : (b : List ℕ) (n : ℕ) (ps : List Section) (k : ℕ) (rest : List ℕ) (o : Option (Framed × List ℕ)) → BeginsWith b ps k rest → rest ≢ [] → framed k rest ≡ o
    → ((qs : List Section) (j : ℕ) (more : List ℕ) → length more < length rest → BeginsWith b qs j more → Means b (read_sections n (length qs) j (with_sections no_sections qs) more))
    → Means b (onward n (length ps) (with_sections no_sections ps) o)
frame_means b n ps k rest None h ne e again =
    (ps, k, rest, h, refl, ne, λ f j t. let z : ◌≡◌ {A = Option (Framed × List ℕ)} None (Some ((j, f.0, f.1), t.1)) = sym e ∙ ap (framed k) t.2 ∙ framed_again k t.0 t.1 f j t.3 t.4 in absurd cc)
frame_means b n ps k rest (Some s) h ne e again =
    let a = framed_some k rest s.0 s.1 e in
    content_means b n ps k rest s.0 a.0 s.1 (section_of (s.0.1, s.0.2)) h a.1 a.2 a.3 refl
    (λ p g. again (ps ++ p ∷ []) s.0.0 s.1 (longer rest a.0 s.1 (s.0.1, s.0.2) a.1 a.2) g)

sections_mean : (n : ℕ) (b : List ℕ) (ps : List Section) (k : ℕ) (rest : List ℕ) → length rest ≤ n → BeginsWith b ps k rest → Means b (read_sections n (length ps) k (with_sections no_sections ps) rest)
unfolding read_sections
sections_mean n b ps k [] le h = counts_mean b ps k h
sections_mean zero b ps k (x ∷ rest) le h = absurd (omega arith)
sections_mean (suc n) b ps k (x ∷ rest) le h =
    frame_means b n ps k (x ∷ rest) (framed k (x ∷ rest)) h (λ z. absurd (omega (arith, ap length z))) refl (λ qs j more lt g. sections_mean n b qs j more (omega arith) g)

header_means : (b : List ℕ) (o : Option (List ℕ)) → behind header b ≡ o → Means b (with_header o (λ rest. read_sections (length rest) 0 0 no_sections rest))
unfolding Each rank_after with_sections
header_means b None e = λ rest h. let z : ◌≡◌ {A = Option (List ℕ)} None (Some rest) = sym e ∙ ap (behind header) h ∙ behind_all header rest in absurd cc
header_means b (Some rest) e = sections_mean (length rest) b [] 0 rest (omega arith) (record { sections = []; parts = behind_some header b rest e; each = refl; order = refl })

pub decoded_means : (b : List ℕ) → Means b (decoded b)
unfolding decoded
decoded_means b = header_means b (behind header b) refl

-- Each of these determines the other.
pub spelled_exactly : (b : List ℕ) (m : Module) → (decoded b ≡ Ok m) ↔ Spells b m
spelled_exactly b m = (λ e. subst (Means b) e (decoded_means b), spelled_decoded b m)

pub fault_exactly : (b : List ℕ) (e : DecodeFault) → (decoded b ≡ Err e) ↔ HasFault b e
fault_exactly b e = (λ h. subst (Means b) h (decoded_means b), fault_decoded b e)

pub one_module : (b : List ℕ) (m n : Module) → Spells b m → Spells b n → m ≡ n
one_module b m n h g = let e : ◌≡◌ {A = Result Module DecodeFault} (Ok m) (Ok n) = sym (spelled_decoded b m h) ∙ spelled_decoded b n g in cc
