-- Bytes are the text of one trace, or one line alone is the first that is wrong.
use Rattle.std.proofs.Common.{◌≡◌, ℕ, zero, suc, ◌+◌, ◌<◌, ◌≤◌, ◌⊎◌, inl, inr, List, [], ◌∷◌, ◌++◌, length, map, Option, Some, None, Result, Ok, Err, IfOk, refl, sym, ap, ◌∙◌, arith}
use Rattle.std.specs.Prelude.{IfErr}
use Rattle.std.proofs.lemmas.List.{append-nil, length-append}
use Rattle.w_words.specs.Pieces.{InLine, pieces}
use Rattle.w_words.proofs.Pieces.{first_line, text_is_right, least_is_one}
use Rattle.w_trace.specs.declared.event.Event.{Event}
use Rattle.w_trace.specs.declared.line.Line.{Line}
use Rattle.w_trace.specs.declared.line.Line.TheVariants as line
use Rattle.w_trace.specs.declared.trace.Ending.{Ending}
use Rattle.w_trace.specs.declared.trace.Trace.{Trace}
use Rattle.w_trace.specs.declared.trace_fault.TraceFault.{TraceFault}
use Rattle.w_trace.specs.declared.trace_fault.TraceFault.TheVariants as fault
use Rattle.w_trace.specs.Lines.{line_text, line_bytes, lines_of, IsTextOf, IsText, IsWrongAt, OneTrace, TracesAreRight}
use Rattle.w_trace.specs.Reading.{line_said}
use Rattle.w_trace.proofs.TraceLines.{pieces_of_lines, some_bytes, begins, same_trace}
use Rattle.w_trace.proofs.WrongLines.{Known, none_yet, known_of, one_event, ended_there, wrong_line, wrong_end, wrong_more}

-- ## Laws

-- a text is wrong at no line
pub traces_are_right : TracesAreRight
traces_are_right bytes l h w = text_is_right IsText bytes l h w

-- a text is that of one trace
pub one_trace : OneTrace
one_trace x y bytes h k =
    let whole = sym (pieces_of_lines (lines_of y) k.fits) ∙ ap pieces (sym k.same ∙ h.same) ∙ pieces_of_lines (lines_of x) h.fits in
    let b = begins (lines_of x) (lines_of y) ([] ∷ []) h.fits k.fits whole in
    let same : lines_of y ≡ lines_of x = b.same ∙ ap (λ (ls : List Line). lines_of x ++ ls) (none_left b.more b.left) ∙ append-nil (lines_of x) in
    same_trace x y (sym same)
  where
    none_left : (ls : List Line) → map line_bytes ls ++ [] ∷ [] ≡ [] ∷ [] → ls ≡ []
    none_left [] e = refl
    none_left (l ∷ ls) e = let z : [] ≡ line_bytes l = cc in absurd (some_bytes (line_text l) z)

-- ## There is an answer

abbrev Answered : List ℕ → Type 0
Answered bytes = IsText bytes ⊎ ((l : ℕ) × IsWrongAt bytes l)

behind_end : (t : List ℕ) (es : List Event) (bs more : List ℕ) (n : ℕ) (x : Ending) → Known t es ((bs ++ 10 ∷ []) ++ more) → InLine bs → line_said bs ≡ Some (line.End n x) → Answered t
behind_end t es bs [] n x k h e = inl (record { events = es; taken = n; ending = x }, ended_there t es bs n x k h e)
behind_end t es bs (b ∷ more) n x k h e = inr (length es + 1, wrong_more t es bs b more n x k h e)

by_line : (t : List ℕ) (es : List Event) (bs more : List ℕ) (o : Option Line) → Known t es ((bs ++ 10 ∷ []) ++ more) → InLine bs → ((x : Event) → Known t (es ++ x ∷ []) more → Answered t) → line_said bs ≡ o → Answered t
by_line t es bs more None k h on e = inr (length es, wrong_line t es bs more k h e)
by_line t es bs more (Some (line.Event x)) k h on e = on x (one_event t es bs more x k h e)
by_line t es bs more (Some (line.End n x)) k h on e = behind_end t es bs more n x k h e

-- what stands behind a line is shorter
shorter : (rest bs more : List ℕ) → rest ≡ (bs ++ 10 ∷ []) ++ more → length more < length rest
shorter rest bs more e = omega (arith, ap length e, length-append (bs ++ 10 ∷ []) more, length-append bs (10 ∷ []))

answered : (n : ℕ) (t : List ℕ) (es : List Event) (rest : List ℕ) → Known t es rest → length rest ≤ n → Answered t
answered zero t es rest k le = elim (first_line rest) [
  | inl f ↦ absurd (omega (arith, le, shorter rest f.line f.more f.same))
  | inr alone ↦ inr (length es, wrong_end t es rest k alone)
]
answered (suc n) t es rest k le = elim (first_line rest) [
  | inl f ↦
      by_line t es f.line f.more (line_said f.line) (known_of t es rest ((f.line ++ 10 ∷ []) ++ f.more) f.same k) f.alone
      (λ x h. answered n t (es ++ x ∷ []) f.more h (omega (arith, le, shorter rest f.line f.more f.same)))
      refl
  | inr alone ↦ inr (length es, wrong_end t es rest k alone)
]

-- bytes are a text, or they have a first line that is wrong
pub text_or_wrong : (bytes : List ℕ) → IsText bytes ⊎ ((l : ℕ) × IsWrongAt bytes l)
text_or_wrong bytes = answered (length bytes) bytes [] bytes (none_yet bytes [] refl) (omega arith)

-- ## What an answer that is right says of all others

abbrev Right : List ℕ → TraceFault → Type 0
Right bytes e = (l : ℕ) → e ≡ fault.Line l → IsWrongAt bytes l

pub only_ok : (bytes : List ℕ) (r : Result Trace TraceFault) → IfErr r (Right bytes) → IsText bytes → IfErr r (λ e. e ≡ fault.OutOfMemory)
only_ok bytes (Ok x) right h = tt
only_ok bytes (Err (fault.Line l)) right h = absurd (traces_are_right bytes l h (right l refl))
only_ok bytes (Err fault.OutOfMemory) right h = refl

pub only_err : (bytes : List ℕ) (r : Result Trace TraceFault) → IfOk r (λ x. IsTextOf x bytes) → IfErr r (Right bytes) → (l : ℕ) → IsWrongAt bytes l
    → (r ≡ Err (fault.Line l)) ⊎ (r ≡ Err fault.OutOfMemory)
only_err bytes (Ok x) text right l w = absurd (traces_are_right bytes l (x, text) w)
only_err bytes (Err (fault.Line k)) text right l w = inl (ap (λ (n : ℕ). Err (fault.Line n)) (least_is_one IsText bytes k l (right k refl) w))
only_err bytes (Err fault.OutOfMemory) text right l w = inr refl
