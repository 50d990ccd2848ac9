-- Which line of bytes is wrong, by the lines before it.
use Rattle.std.proofs.Common.{◌≡◌, ℕ, zero, suc, ◌+◌, ◌<◌, ◌≤◌, Bool, true, false, cond, List, [], ◌∷◌, ◌++◌, length, map, take, drop, Some, None, refl, sym, ap, subst, ◌∙◌, append_assoc, arith, get_or, drop-cons}
use Rattle.std.specs.Prelude.{nat_eq}
use Rattle.std.proofs.lemmas.List.{append-nil, map-append, take-append-drop, append_cancel_right, length-append, drop_all}
use Rattle.w_words.specs.Words.{Each}
use Rattle.w_words.specs.Pieces.{InLine, in_piece, pieces, BeginsText}
use Rattle.w_words.proofs.Pieces.{piece_of_line, last_piece, feed_there}
use Rattle.w_trace.specs.declared.event.Event.{Event}
use Rattle.w_trace.specs.declared.line.Line.{Line}
use Rattle.w_trace.specs.declared.line.Line.TheVariants as line
use Rattle.w_trace.specs.declared.trace.Ending.{Ending}
use Rattle.w_trace.specs.declared.trace.Ending.TheVariants as ending
use Rattle.w_trace.specs.declared.trace.Trace.{Trace}
use Rattle.w_trace.specs.Lines.{line_text, line_bytes, lines_of, text_of, LineFits, IsTextOf, IsText, IsWrongAt}
use Rattle.w_trace.specs.Reading.{line_said}
use Rattle.w_trace.proofs.LinesSaid.{said_right, said_all}
use Rattle.w_trace.proofs.TraceLines.{pieces_of_lines, some_bytes, begins, of_pieces, event_lines, end_is_last, end_is_there}

-- ## Lines that a text begins with

-- a trace begins with these lines
record Opens (ls : List Line) : Type 0 where
  trace : Trace
  more : List Line
  fits : Each LineFits (lines_of trace)
  same : lines_of trace ≡ ls ++ more

each_more : (ls : List Line) (l : Line) → Each LineFits ls → LineFits l → Each LineFits (ls ++ l ∷ [])
each_more [] l f g = (g, tt)
each_more (k ∷ ls) l f g = (f.0, each_more ls l f.1 g)

end_fits : LineFits (line.End 0 ending.Ended)
end_fits = (omega arith, tt)

events_open : (es : List Event) → Each LineFits (event_lines es) → Opens (event_lines es)
events_open es f = record {
  trace = record { events = es; taken = 0; ending = ending.Ended };
  more = line.End 0 ending.Ended ∷ [];
  fits = each_more (event_lines es) (line.End 0 ending.Ended) f end_fits;
  same = refl;
}

whole_opens : (es : List Event) (n : ℕ) (x : Ending) → Each LineFits (event_lines es) → LineFits (line.End n x) → Opens (event_lines es ++ line.End n x ∷ [])
whole_opens es n x f g = record {
  trace = record { events = es; taken = n; ending = x };
  more = [];
  fits = each_more (event_lines es) (line.End n x) f g;
  same = sym (append-nil (event_lines es ++ line.End n x ∷ []));
}

front_alike : (k : ℕ) (ls : List Line) (ps qs : List (List ℕ)) → k ≤ length ls → take k (map line_bytes ls ++ ps) ≡ take k (map line_bytes ls ++ qs)
front_alike zero ls ps qs le = refl
front_alike (suc k) [] ps qs le = absurd (omega arith)
front_alike (suc k) (l ∷ ls) ps qs le = ap (λ (x : List (List ℕ)). line_bytes l ∷ x) (front_alike k ls ps qs (omega arith))

-- a text begins with each number of these lines
earlier : (t : List ℕ) (ls : List Line) (ps : List (List ℕ)) → Opens ls → pieces t ≡ map line_bytes ls ++ ps → (k : ℕ) → k < length ls → BeginsText IsText (take (suc k) (pieces t))
earlier t ls ps o e k lt =
    let whole : pieces (text_of o.trace) ≡ map line_bytes ls ++ (map line_bytes o.more ++ [] ∷ []) =
    pieces_of_lines (lines_of o.trace) o.fits
    ∙ ap (λ (ms : List Line). map line_bytes ms ++ [] ∷ []) o.same
    ∙ ap (λ (qs : List (List ℕ)). qs ++ [] ∷ []) (map-append line_bytes ls o.more)
    ∙ append_assoc (map line_bytes ls) (map line_bytes o.more) ([] ∷ []) in
    let front : take (suc k) (pieces t) ≡ take (suc k) (pieces (text_of o.trace)) =
    ap (take (suc k)) e ∙ front_alike (suc k) ls ps (map line_bytes o.more ++ [] ∷ []) (omega (arith, lt)) ∙ sym (ap (take (suc k)) whole) in (
      text_of o.trace,
      drop (suc k) (pieces (text_of o.trace)),
      (o.trace, record { fits = o.fits; same = refl }),
      sym (ap (λ (qs : List (List ℕ)). qs ++ drop (suc k) (pieces (text_of o.trace))) front ∙ take-append-drop (suc k) (pieces (text_of o.trace))),
    )

-- ## The line with which none goes on

-- a trace that begins with these lines, and whose text goes on with p
record Further (ls : List Line) (p : List ℕ) : Type 0 where
  trace : Trace
  more : List Line
  fit : Each LineFits more
  same : lines_of trace ≡ ls ++ more
  rest : List (List ℕ)
  left : map line_bytes more ++ [] ∷ [] ≡ p ∷ rest

one_more : (ls : List Line) (p : List ℕ) (ps : List (List ℕ)) → take (suc (length ls)) (map line_bytes ls ++ p ∷ ps) ≡ map line_bytes ls ++ p ∷ []
one_more [] p ps = refl
one_more (l ∷ ls) p ps = ap (λ (x : List (List ℕ)). line_bytes l ∷ x) (one_more ls p ps)

further : (t : List ℕ) (ls : List Line) (p : List ℕ) (ps : List (List ℕ)) → Each LineFits ls → pieces t ≡ map line_bytes ls ++ p ∷ ps → BeginsText IsText (take (suc (length ls)) (pieces t)) → Further ls p
further t ls p ps f e b =
    let front : take (suc (length ls)) (pieces t) ≡ map line_bytes ls ++ p ∷ [] = ap (take (suc (length ls))) e ∙ one_more ls p ps in
    let x = b.2.0 in
    let text = b.2.1 in
    let whole : map line_bytes (lines_of x) ++ [] ∷ [] ≡ map line_bytes ls ++ p ∷ b.1 =
    sym (pieces_of_lines (lines_of x) text.fits) ∙ ap pieces (sym text.same) ∙ b.3 ∙ ap (λ (qs : List (List ℕ)). qs ++ b.1) front ∙ append_assoc (map line_bytes ls) (p ∷ []) b.1 in
    let g = begins ls (lines_of x) (p ∷ b.1) f text.fits whole in
    record { trace = x; more = g.more; fit = g.fit; same = g.same; rest = b.1; left = g.left }

wrong_at : (t : List ℕ) (ls : List Line) (p : List ℕ) (ps : List (List ℕ)) → Opens ls → Each LineFits ls → pieces t ≡ map line_bytes ls ++ p ∷ ps → (Further ls p → ⊥) → IsWrongAt t (length ls)
wrong_at t ls p ps o f e not = (λ b. not (further t ls p ps f e b), earlier t ls (p ∷ ps) o e)

-- ### Why none does

-- the bytes say no line
no_line : (ls : List Line) (bs : List ℕ) → line_said bs ≡ None → Further ls (bs ++ 10 ∷ []) → ⊥
no_line ls bs e g = cases g.more g.fit g.left
  where
    cases : (more : List Line) → Each LineFits more → map line_bytes more ++ [] ∷ [] ≡ (bs ++ 10 ∷ []) ∷ g.rest → ⊥
    cases [] fit left = let z : [] ≡ bs ++ 10 ∷ [] = cc in some_bytes bs z
    cases (l ∷ more) fit left =
        let same : line_bytes l ≡ bs ++ 10 ∷ [] = cc in
        let text : line_text l ≡ bs = append_cancel_right (line_text l) bs (10 ∷ []) same in
        let clash : Some l ≡ None = sym (said_all l fit.0) ∙ ap line_said text ∙ e in
        absurd cc

-- no line feed follows, and no end line came
no_feed : (es : List Event) (bs : List ℕ) → InLine bs → Further (event_lines es) bs → ⊥
no_feed es bs h g = cases g.more g.same g.left
  where
    cases : (more : List Line) → lines_of g.trace ≡ event_lines es ++ more → map line_bytes more ++ [] ∷ [] ≡ bs ∷ g.rest → ⊥
    cases [] same left = end_is_there es g.trace.events g.trace.taken g.trace.ending (same ∙ append-nil (event_lines es))
    cases (l ∷ more) same left =
        let here : line_text l ++ 10 ∷ [] ≡ bs = cc in
        feed_there (line_text l) [] (subst InLine (sym here) h)

-- an end line came
no_more : (es : List Event) (n : ℕ) (x : Ending) (b : ℕ) (p : List ℕ) → Further (event_lines es ++ line.End n x ∷ []) (b ∷ p) → ⊥
no_more es n x b p g = cases g.more g.same g.left
  where
    cases : (more : List Line) → lines_of g.trace ≡ (event_lines es ++ line.End n x ∷ []) ++ more → map line_bytes more ++ [] ∷ [] ≡ (b ∷ p) ∷ g.rest → ⊥
    cases [] same left = cc
    cases (l ∷ more) same left = end_is_last es g.trace.events n g.trace.taken x g.trace.ending l more same

-- ## Line by line

-- t begins with the lines of these events; the rest is still to be read
pub record Known (t : List ℕ) (es : List Event) (rest : List ℕ) : Type 0 where
  pub fit : Each LineFits (event_lines es)
  pub parts : pieces t ≡ map line_bytes (event_lines es) ++ pieces rest

-- none is read
pub none_yet : (t : List ℕ) (es : List Event) → es ≡ [] → Known t es t
none_yet t es e = subst (λ (xs : List Event). Known t xs t) (sym e) (record { fit = tt; parts = refl })

-- the same, of other bytes that are the same
pub known_of : (t : List ℕ) (es : List Event) (rest other : List ℕ) → rest ≡ other → Known t es rest → Known t es other
known_of t es rest other e k = subst (Known t es) e k

number_of_lines : (es : List Event) → length (event_lines es) ≡ length es
number_of_lines [] = refl
number_of_lines (e ∷ es) = ap suc (number_of_lines es)

cut : (t : List ℕ) (es : List Event) (bs more : List ℕ) → Known t es ((bs ++ 10 ∷ []) ++ more) → InLine bs → pieces t ≡ map line_bytes (event_lines es) ++ (bs ++ 10 ∷ []) ∷ pieces more
cut t es bs more k h = k.parts ∙ ap (λ (ps : List (List ℕ)). map line_bytes (event_lines es) ++ ps) (piece_of_line bs more h)

-- one line more
one_line : (t : List ℕ) (es : List Event) (bs more : List ℕ) (l : Line) → Known t es ((bs ++ 10 ∷ []) ++ more) → InLine bs → line_said bs ≡ Some l → pieces t ≡ map line_bytes (event_lines es ++ l ∷ []) ++ pieces more
one_line t es bs more l k h e =
    cut t es bs more k h
    ∙ ap (λ (b : List ℕ). map line_bytes (event_lines es) ++ (b ++ 10 ∷ []) ∷ pieces more) (sym (said_right bs l e).1)
    ∙ sym (append_assoc (map line_bytes (event_lines es)) (line_bytes l ∷ []) (pieces more))
    ∙ ap (λ (ps : List (List ℕ)). ps ++ pieces more) (sym (map-append line_bytes (event_lines es) (l ∷ [])))

-- an event more
pub one_event : (t : List ℕ) (es : List Event) (bs more : List ℕ) (x : Event) → Known t es ((bs ++ 10 ∷ []) ++ more) → InLine bs → line_said bs ≡ Some (line.Event x) → Known t (es ++ x ∷ []) more
one_event t es bs more x k h e =
    let lines : event_lines es ++ line.Event x ∷ [] ≡ event_lines (es ++ x ∷ []) = sym (map-append line.Event es (x ∷ [])) in
    record {
      fit = subst (Each LineFits) lines (each_more (event_lines es) (line.Event x) k.fit (said_right bs (line.Event x) e).0);
      parts = one_line t es bs more (line.Event x) k h e ∙ ap (λ (ls : List Line). map line_bytes ls ++ pieces more) lines;
    }

-- the end line is the last
pub ended_there : (t : List ℕ) (es : List Event) (bs : List ℕ) (n : ℕ) (x : Ending) → Known t es ((bs ++ 10 ∷ []) ++ []) → InLine bs → line_said bs ≡ Some (line.End n x) → IsTextOf (record { events = es; taken = n; ending = x }) t
ended_there t es bs n x k h e = record {
  fits = each_more (event_lines es) (line.End n x) k.fit (said_right bs (line.End n x) e).0;
  same = of_pieces t (event_lines es ++ line.End n x ∷ []) (one_line t es bs [] (line.End n x) k h e ∙ ap (λ (ps : List (List ℕ)). map line_bytes (event_lines es ++ line.End n x ∷ []) ++ ps) (last_piece [] tt));
}

-- the same, by where its line feed stands
pub ended_at : (t : List ℕ) (es : List Event) (bs : List ℕ) (k n : ℕ) (x : Ending) → Known t es ((bs ++ 10 ∷ []) ++ drop k t) → InLine bs → line_said bs ≡ Some (line.End n x) → length t ≤ k → IsTextOf (record { events = es; taken = n; ending = x }) t
ended_at t es bs k n x h i e le = ended_there t es bs n x (known_of t es ((bs ++ 10 ∷ []) ++ drop k t) ((bs ++ 10 ∷ []) ++ []) (ap (λ (more : List ℕ). (bs ++ 10 ∷ []) ++ more) (drop_all k t le)) h) i e

-- a line says nothing
pub wrong_line : (t : List ℕ) (es : List Event) (bs more : List ℕ) → Known t es ((bs ++ 10 ∷ []) ++ more) → InLine bs → line_said bs ≡ None → IsWrongAt t (length es)
wrong_line t es bs more k h e =
    subst (IsWrongAt t) (number_of_lines es) (wrong_at t (event_lines es) (bs ++ 10 ∷ []) (pieces more) (events_open es k.fit) k.fit (cut t es bs more k h) (no_line (event_lines es) bs e))

-- no line feed follows
pub wrong_end : (t : List ℕ) (es : List Event) (rest : List ℕ) → Known t es rest → InLine rest → IsWrongAt t (length es)
wrong_end t es rest k h =
    let parts : pieces t ≡ map line_bytes (event_lines es) ++ rest ∷ [] = k.parts ∙ ap (λ (ps : List (List ℕ)). map line_bytes (event_lines es) ++ ps) (last_piece rest h) in
    subst (IsWrongAt t) (number_of_lines es) (wrong_at t (event_lines es) rest [] (events_open es k.fit) k.fit parts (no_feed es rest h))

-- the first of some bytes is in their first piece
some_piece : (b : ℕ) (bs : List ℕ) → (p : List ℕ) × (ps : List (List ℕ)) × (pieces (b ∷ bs) ≡ (b ∷ p) ∷ ps)
unfolding pieces
some_piece b bs = cases (nat_eq b 10) (pieces bs)
  where
    cases : (v : Bool) (qs : List (List ℕ)) → (p : List ℕ) × (ps : List (List ℕ)) × (cond v ((b ∷ []) ∷ qs) (in_piece b qs) ≡ (b ∷ p) ∷ ps)
    cases true qs = ([], qs, refl)
    cases false [] = ([], [], refl)
    cases false (q ∷ qs) = (q, qs, refl)

-- something stands behind the end line
pub wrong_more : (t : List ℕ) (es : List Event) (bs : List ℕ) (b : ℕ) (more : List ℕ) (n : ℕ) (x : Ending) → Known t es ((bs ++ 10 ∷ []) ++ b ∷ more) → InLine bs → line_said bs ≡ Some (line.End n x) → IsWrongAt t (length es + 1)
wrong_more t es bs b more n x k h e =
    let fits = (said_right bs (line.End n x) e).0 in
    let p = some_piece b more in
    let parts : pieces t ≡ map line_bytes (event_lines es ++ line.End n x ∷ []) ++ (b ∷ p.0) ∷ p.1 =
    one_line t es bs (b ∷ more) (line.End n x) k h e ∙ ap (λ (ps : List (List ℕ)). map line_bytes (event_lines es ++ line.End n x ∷ []) ++ ps) p.2 in
    let count : length (event_lines es ++ line.End n x ∷ []) ≡ length es + 1 = length-append (event_lines es) (line.End n x ∷ []) ∙ ap (λ (m : ℕ). m + 1) (number_of_lines es) in
    subst (IsWrongAt t) count
    (wrong_at t (event_lines es ++ line.End n x ∷ []) (b ∷ p.0) p.1 (whole_opens es n x k.fit fits) (each_more (event_lines es) (line.End n x) k.fit fits) parts (no_more es n x b p.0))

-- the same, by where the line feed stands
pub wrong_behind : (t : List ℕ) (es : List Event) (bs : List ℕ) (k n : ℕ) (x : Ending) → Known t es ((bs ++ 10 ∷ []) ++ drop k t) → InLine bs → line_said bs ≡ Some (line.End n x) → k < length t → IsWrongAt t (length es + 1)
wrong_behind t es bs k n x h i e lt =
    wrong_more t es bs (get_or t k 0) (drop (suc k) t) n x (known_of t es ((bs ++ 10 ∷ []) ++ drop k t) ((bs ++ 10 ∷ []) ++ get_or t k 0 ∷ drop (suc k) t) (ap (λ (more : List ℕ). (bs ++ 10 ∷ []) ++ more) (drop-cons t k 0 lt)) h) i e
