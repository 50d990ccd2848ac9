-- What stands at the front of bytes where a section is due.
use Rattle.std.proofs.Common.{◌≡◌, ◌≢◌, ℕ, ◌+◌, ◌-◌, ◌<◌, ◌≤◌, Bool, true, false, cond, List, [], ◌∷◌, ◌++◌, length, take, drop, Option, Some, None, refl, sym, ap, subst, ◌∙◌, arith}
use Rattle.std.specs.Prelude.{◌↔◌, IsTrue, slice_range, IsSome}
use Rattle.std.specs.Str.{is_utf8}
use Rattle.std.proofs.lemmas.List.{length-append, length-drop, length-take-le, drop-drop, take-append-drop}
use Rattle.w_leb.specs.Format.{byte, then}
use Rattle.w_leb.specs.FormatLaws.{some_parts}
use Rattle.w_leb.specs.Formats.{bytes, number}
use Rattle.w_leb.specs.Number.{Unsigned, unsigned}
use Rattle.w_syntax.specs.Fields.{name}
use Rattle.w_syntax.specs.Contents.{custom_of}
use Rattle.w_syntax.specs.Sections.{frame, section_of, next_rank}
use Rattle.w_decode.specs.Faults.{FramedInOrder}
use Rattle.w_decode.specs.Pieces.{says, NoFront, IsCustom, IsCode}
use Rattle.w_decode.specs.Places.{FrameAt}
use Rattle.w_decode.specs.Reading.{Framed, framed}
use Rattle.w_decode.specs.declared.frames.Frame.{Frame}
use Rattle.w_decode.specs.declared.pieces.Inside.TheVariants as inside
use Rattle.w_decode.proofs.LongerBytes.{reads_on, no_size, unranked}
use Rattle.w_decode.proofs.ReadingExact.{framed_some, framed_again, longer}

-- ## The id

pub byte_none : (l : List ℕ) → byte l ≡ None → l ≡ []
byte_none [] e = refl
byte_none (x ∷ l) e = absurd cc

pub byte_some : (l : List ℕ) (k : ℕ) (r : List ℕ) → byte l ≡ Some (k, r) → l ≡ k ∷ r
byte_some [] k r e = absurd cc
byte_some (x ∷ l) k r e = let d = some_parts x k l r e in ap (λ (i : ℕ). i ∷ l) d.0 ∙ ap (λ (t : List ℕ). k ∷ t) d.1

some_left : (u : List ℕ) (id : ℕ) (r : List ℕ) → u ≡ id ∷ r → u ≢ []
some_left u id r e = λ n. absurd (omega (arith, ap length e, ap length n))

-- the id of a frame is the first byte
spelled_id : (a : List ℕ) (f : ℕ × List ℕ) → frame.Spells a f → (y : List ℕ) × (a ≡ f.0 ∷ y)
unfolding frame
spelled_id a f s = (s.1, s.2 ∙ ap (λ (l : List ℕ). l ++ s.1) s.3)

first_same : (u a rest : List ℕ) (f : ℕ × List ℕ) (id : ℕ) (r : List ℕ) → u ≡ a ++ rest → frame.Spells a f → u ≡ id ∷ r → f.0 ≡ id
first_same u a rest f id r e s h =
    let y = spelled_id a f s in
    let both : f.0 ∷ (y.0 ++ rest) ≡ id ∷ r = sym (ap (λ (l : List ℕ). l ++ rest) y.1) ∙ sym e ∙ h in cc

pub framed_id : (k : ℕ) (u : List ℕ) (s : Framed) (rest : List ℕ) (id : ℕ) (r : List ℕ) → framed k u ≡ Some (s, rest) → u ≡ id ∷ r → s.1 ≡ id
framed_id k u s rest id r e h = let a = framed_some k u s rest e in first_same u a.0 rest (s.1, s.2) id r a.1 a.2 h

pub bad_front : (k : ℕ) (u : List ℕ) (id : ℕ) (r : List ℕ) → u ≡ id ∷ r → next_rank k id ≡ None → (u ≢ []) × ((c : List ℕ) (f : ℕ × List ℕ) (j : ℕ) → FramedInOrder k (u ++ c) f j → ⊥)
bad_front k u id r e n = (some_left u id r e, subst (λ (l : List ℕ). (c : List ℕ) (f : ℕ × List ℕ) (j : ℕ) → FramedInOrder k (l ++ c) f j → ⊥) (sym e) (unranked k id r n))

-- ## Nothing whole

no_frame_nil : frame.read [] ≡ None
unfolding frame
no_frame_nil = refl

pub no_front_nil : (u : List ℕ) → u ≡ [] → NoFront u
no_front_nil u e = (ap frame.read e ∙ no_frame_nil, λ x rest size h s. absurd (omega (arith, ap length e, ap length h)))

no_frame_size : (id : ℕ) (r : List ℕ) → unsigned 32 r ≡ None → frame.read (id ∷ r) ≡ None
unfolding frame
no_frame_size id r e = rw (no_size r e) refl

pub no_front_size : (u : List ℕ) (id : ℕ) (r : List ℕ) → u ≡ id ∷ r → unsigned 32 r ≡ None → NoFront u
no_front_size u id r e n = (
  ap frame.read e ∙ no_frame_size id r n,
  λ x rest size h s.
      let both : id ∷ r ≡ 0x0A ∷ (x ++ rest) = sym e ∙ h in
      let same : r ≡ x ++ rest = cc in
      let z : ◌≡◌ {A = Option (ℕ × List ℕ)} None (Some (size, rest)) = sym n ∙ ap (unsigned 32) same ∙ (number 32).exact.complete x size rest s in absurd cc,
)

none_read : (k j : ℕ) (u : List ℕ) (id : ℕ) (r : List ℕ) (o : Option ((ℕ × List ℕ) × List ℕ)) → u ≡ id ∷ r → next_rank k id ≡ Some j → framed k u ≡ None → frame.read u ≡ o → o ≡ None
none_read k j u id r None e n h g = refl
none_read k j u id r (Some p) e n h g =
    let s = frame.exact.sound u p.0 p.1 g in
    let same : p.0.0 ≡ id = first_same u s.0 p.1 p.0 id r s.1 s.2 e in
    let z : ◌≡◌ {A = Option (Framed × List ℕ)} None (Some ((j, p.0.0, p.0.1), p.1)) = sym h ∙ ap (framed k) s.1 ∙ framed_again k s.0 p.1 p.0 j s.2 (ap (next_rank k) same ∙ n) in absurd cc

pub no_front_frame : (k j : ℕ) (u : List ℕ) (id : ℕ) (r : List ℕ) → u ≡ id ∷ r → next_rank k id ≡ Some j → id ≢ 0x0A → framed k u ≡ None → NoFront u
no_front_frame k j u id r e n ne h = (
  none_read k j u id r (frame.read u) e n h refl,
  λ x rest size g s. let both : id ∷ r ≡ 0x0A ∷ (x ++ rest) = sym e ∙ g in let same : id ≡ 0x0A = cc in absurd (ne same),
)

-- ## Sections that are read in part

head_of : (u r : List ℕ) (size start : ℕ) → unsigned 32 r ≡ Some (size, drop start u) → (head : List ℕ) × (r ≡ head ++ drop start u) × Unsigned 32 head size
head_of u r size start e = let s = (number 32).exact.sound r size (drop start u) e in (s.0, s.1, s.2)

past_head : (u head : List ℕ) (id start : ℕ) → u ≡ id ∷ (head ++ drop start u) → start ≤ length u → 0 < start
past_head u head id start e le = omega (arith, ap length e, length-append head (drop start u), length-drop start u)

pub code_front : (u r : List ℕ) (id size start : ℕ) → u ≡ id ∷ r → id ≡ 0x0A → unsigned 32 r ≡ Some (size, drop start u) → start ≤ length u → IsCode u size start
code_front u r id size start e i n le =
    let h = head_of u r size start n in
    let w : u ≡ 0x0A ∷ (h.0 ++ drop start u) = e ∙ ap (λ (k : ℕ). k ∷ r) i ∙ ap (λ (l : List ℕ). 0x0A ∷ l) h.1 in
    record { head = h.0; whole = w; sized = h.2; moves = (past_head u h.0 0x0A start w le, le) }

-- the name, behind its size: what is said of it stays so, whatever follows
test_none : (v : Bool) (x r s : List ℕ) → ◌≡◌ {A = Option (List ℕ × List ℕ)} (cond v (Some (x, r)) None) None → ◌≡◌ {A = Option (List ℕ × List ℕ)} (cond v (Some (x, s)) None) None
test_none true x r s e = absurd cc
test_none false x r s e = refl

no_name_on : (w e x r : List ℕ) → bytes.read w ≡ Some (x, r) → name.read w ≡ None → name.read (w ++ e) ≡ None
unfolding name
no_name_on w e x r h n =
    let test = λ (o : Option (List ℕ × List ℕ)). then o (λ x rest. cond (is_utf8 x) (Some (x, rest)) None) in
    ap test (reads_on bytes w e x r h) ∙ test_none (is_utf8 x) x r (r ++ e) (sym (ap test h) ∙ n)

name_none : (o : Option (List ℕ × List ℕ)) → (IsSome o → ⊥) → o ≡ None
name_none None h = refl
name_none (Some x) h = absurd (h refl)

name_some : (o : Option (List ℕ × List ℕ)) → IsSome o → (x r : List ℕ) × (o ≡ Some (x, r))
name_some None h = absurd cc
name_some (Some x) h = (x.0, x.1, refl)

custom_says : (l : List ℕ) → section_of (0x00, l) ≡ custom_of (name.read l)
unfolding section_of
custom_says l = refl

name_says : (named : Bool) (w e x r : List ℕ) → bytes.read w ≡ Some (x, r) → (IsTrue named ↔ IsSome (name.read w)) → section_of (0x00, w ++ e) ≡ says (inside.Skipped named) [] e
name_says true w e x r h n = let s = name_some (name.read w) (n.0 refl) in custom_says (w ++ e) ∙ ap custom_of (reads_on name w e s.0 s.1 s.2)
name_says false w e x r h n = custom_says (w ++ e) ∙ ap custom_of (no_name_on w e x r h (name_none (name.read w) (λ s. absurd (no_truth (n.1 s)))))
  where
    no_truth : IsTrue false → ⊥
    no_truth h = absurd cc

-- the bytes of a custom section that are there
pub custom_front : (u r x y : List ℕ) (id size start there : ℕ) (named : Bool) → u ≡ id ∷ r → id ≡ 0x00 → unsigned 32 r ≡ Some (size, drop start u) → start + there ≤ length u → there ≤ size → bytes.read (slice_range u start (start + there)) ≡ Some (x, y)
    → (IsTrue named ↔ IsSome (name.read (slice_range u start (start + there)))) → IsCustom u (size - there) (start + there) named
custom_front u r x y id size start there named e i n le few read utf =
    let h = head_of u r size start n in
    let w = slice_range u start (start + there) in
    let t : start + there - start ≡ there = omega arith in
    let same : w ≡ take there (drop start u) = ap (λ (k : ℕ). take k (drop start u)) t in
    let cut : drop start u ≡ w ++ drop (start + there) u = sym (take-append-drop there (drop start u)) ∙ ap (λ (l : List ℕ). l ++ drop there (drop start u)) (sym same) ∙ ap (λ (l : List ℕ). w ++ l) (drop-drop there start u) in
    let long : length w ≡ there = ap length same ∙ length-take-le there (drop start u) (omega (arith, length-drop start u)) in
    let all : size ≡ length w + (size - there) = omega (arith, long) in
    let whole : u ≡ 0x00 ∷ (h.0 ++ (w ++ drop (start + there) u)) = e ∙ ap (λ (k : ℕ). k ∷ r) i ∙ ap (λ (l : List ℕ). 0x00 ∷ l) (h.1 ∙ ap (λ (l : List ℕ). h.0 ++ l) cut) in
    let past : 0 < start + there = omega (arith, ap length whole, length-append h.0 (w ++ drop (start + there) u), length-append w (drop (start + there) u), length-drop (start + there) u) in record {
      head = h.0;
      taken = w;
      whole = whole;
      sized = subst (Unsigned 32 h.0) all h.2;
      says_rest = λ l. name_says named w l x y read utf;
      moves = (past, le);
    }

-- a frame ends behind the place where it begins
ends_behind : (b : List ℕ) (at end k : ℕ) (s : Framed) → framed k (drop at b) ≡ Some (s, drop end b) → end ≤ length b → at < end
ends_behind b at end k s h le =
    let a = framed_some k (drop at b) s (drop end b) h in
    omega (arith, longer (drop at b) a.0 (drop end b) (s.1, s.2) a.1 a.2, length-drop at b, length-drop end b)

-- a whole section that is no code section
pub whole_front : (u r : List ℕ) (id k : ℕ) (f : Frame) → u ≡ id ∷ r → id ≢ 0x0A → FrameAt u 0 k (Some f) → FrameAt u 0 k (Some f) × (0 < f.end) × (f.id ≢ 0x0A)
whole_front u r id k f e ne h =
    (h, ends_behind u 0 f.end k (f.rank, f.id, slice_range u f.start f.end) h.0 h.3, λ i. ne (sym (framed_id k u (f.rank, f.id, slice_range u f.start f.end) (drop f.end u) id r h.0 e) ∙ i))
