-- A line is read as it is written.
use Rattle.std.proofs.Common.{◌≡◌, ℕ, ◌<◌, Bool, true, false, cond, List, [], ◌∷◌, ◌++◌, map, Option, Some, None, refl, sym, ap, subst, ◌∙◌, ◌⊎◌, inl, inr, arith, rules, decimal}
use Rattle.std.specs.Prelude.{option_map, codes}
use Rattle.std.specs.List.{onto_first}
use Rattle.std.specs.Str.{bytes_eq}
use Rattle.std.proofs.lemmas.Bool.Decides.{eqb_tells}
use Rattle.std.proofs.lemmas.List.{append-nil}
use Rattle.std.proofs.lemmas.Slice.Eq.{bytes_eq-Decides}
use Rattle.w_words.specs.Words.{Word, ◌>>=◌, is_space, IsClean, Each, ended, one_of, two_of, spaced, words_of}
use Rattle.w_words.specs.Numbers.{number_of}
use Rattle.w_words.specs.Pieces.{InLine}
use Rattle.w_words.proofs.Readings.{IsSpelling, mapped, then_some, ended_told, ones, twos}
use Rattle.w_words.proofs.Numerals.{numbers, number_sound, decimal_begins}
use Rattle.w_words.proofs.TypeWords.{not_named}
use Rattle.w_words.proofs.Lines.{words_spaced, words_apart}
use Rattle.w_words.proofs.Pieces.{words_in_line}
use Rattle.w_trace.specs.declared.event.Event.{Event}
use Rattle.w_trace.specs.declared.event.EventKind.{EventKind}
use Rattle.w_trace.specs.declared.event.EventKind.TheVariants.{New, Bind, Resume, Suspend, Switch, Exit}
use Rattle.w_trace.specs.declared.line.Line.{Line}
use Rattle.w_trace.specs.declared.line.Line.TheVariants as line
use Rattle.w_trace.specs.declared.trace.Ending.{Ending}
use Rattle.w_trace.specs.Endings.{ending_text}
use Rattle.w_trace.specs.Lines.{kind_name, kind_numbers, event_words, line_text, Fits64, Fits32, KindFits, EndingFits, LineFits}
use Rattle.w_trace.specs.Reading.{ending_said, end_in, switch_in, kind_by, kind_in, event_in, line_in, line_said}
use Rattle.w_trace.proofs.EndingsSaid.{ending_sound, ending_complete, joined_in_line, clean_in_line, ending_in_line}

addresses : IsSpelling decimal (number_of 64) Fits64
addresses = numbers 64 (omega arith)

tags : IsSpelling decimal (number_of 32) Fits32
tags = numbers 32 (omega arith)

-- ## What is read was written so

-- either equal words, or what stands behind the test
branched : {A : Type 0} (b : Bool) (w v : Word) (o p : Option A) (y : A) → bytes_eq w v ≡ b → cond b o p ≡ Some y → ((w ≡ v) × (o ≡ Some y)) ⊎ (p ≡ Some y)
branched true w v o p y e h = inl ((bytes_eq-Decides w v).0 e, h)
branched false w v o p y e h = inr h

abbrev kind_words : EventKind → List Word
kind_words k = kind_name k ∷ map decimal (kind_numbers k)

abbrev KindTold : List Word → EventKind → Type 0
KindTold ws k = KindFits k × (kind_words k ≡ ws)

-- behind a name
abbrev Behind : Word → List Word → EventKind → Type 0
Behind v ws k = KindFits k × (kind_words k ≡ v ∷ ws)

new_sound : (ws : List Word) (k : EventKind) → option_map New (one_of (number_of 64) ws) ≡ Some k → Behind (codes "new") ws k
new_sound ws k e =
    let a = mapped New (one_of (number_of 64) ws) k e in
    let n = (ones addresses).sound ws a.0 a.1 in
    subst (Behind (codes "new") ws) a.2 (n.0, ap (λ (us : List Word). codes "new" ∷ us) n.1)

resume_sound : (ws : List Word) (k : EventKind) → option_map Resume (one_of (number_of 64) ws) ≡ Some k → Behind (codes "resume") ws k
resume_sound ws k e =
    let a = mapped Resume (one_of (number_of 64) ws) k e in
    let n = (ones addresses).sound ws a.0 a.1 in
    subst (Behind (codes "resume") ws) a.2 (n.0, ap (λ (us : List Word). codes "resume" ∷ us) n.1)

bind_sound : (ws : List Word) (k : EventKind) → option_map (λ (p : ℕ × ℕ). Bind p.0 p.1) (two_of (number_of 64) (number_of 64) ws) ≡ Some k → Behind (codes "bind") ws k
bind_sound ws k e =
    let a = mapped (λ (p : ℕ × ℕ). Bind p.0 p.1) (two_of (number_of 64) (number_of 64) ws) k e in
    let n = (twos addresses addresses).sound ws a.0 a.1 in
    subst (Behind (codes "bind") ws) a.2 (n.0, ap (λ (us : List Word). codes "bind" ∷ us) n.1)

suspend_sound : (ws : List Word) (k : EventKind) → option_map (λ (p : ℕ × ℕ). Suspend p.0 p.1) (two_of (number_of 32) (number_of 64) ws) ≡ Some k → Behind (codes "suspend") ws k
suspend_sound ws k e =
    let a = mapped (λ (p : ℕ × ℕ). Suspend p.0 p.1) (two_of (number_of 32) (number_of 64) ws) k e in
    let n = (twos tags addresses).sound ws a.0 a.1 in
    subst (Behind (codes "suspend") ws) a.2 (n.0, ap (λ (us : List Word). codes "suspend" ∷ us) n.1)

switch_sound : (ws : List Word) (k : EventKind) → switch_in ws ≡ Some k → Behind (codes "switch") ws k
switch_sound [] k e = absurd cc
switch_sound (w ∷ ws) k e =
    let a = then_some (number_of 64 w) (λ n. option_map (λ (p : ℕ × ℕ). Switch n p.0 p.1) (two_of (number_of 32) (number_of 64) ws)) k e in
    let b = mapped (λ (p : ℕ × ℕ). Switch a.0 p.0 p.1) (two_of (number_of 32) (number_of 64) ws) k a.2 in
    let n = number_sound 64 (omega arith) w a.0 a.1 in
    let m = (twos tags addresses).sound ws b.0 b.1 in
    subst (Behind (codes "switch") (w ∷ ws)) b.2 ((n.0, m.0.0, m.0.1), ap (λ (v : Word). codes "switch" ∷ v ∷ decimal b.0.0 ∷ decimal b.0.1 ∷ []) n.1 ∙ ap (λ (us : List Word). codes "switch" ∷ w ∷ us) m.1)

exit_sound : (ws : List Word) (k : EventKind) → ended Exit ws ≡ Some k → Behind (codes "exit") ws k
exit_sound ws k e =
    let a = ended_told Exit k ws e in
    subst (Behind (codes "exit") ws) a.1 (tt, ap (λ (us : List Word). codes "exit" ∷ us) (sym a.0))

named : (w v : Word) (ws : List Word) (k : EventKind) → w ≡ v → Behind v ws k → KindTold (w ∷ ws) k
named w v ws k e h = subst (λ (u : Word). KindTold (u ∷ ws) k) (sym e) h

kind_by_sound : (w : Word) (ws : List Word) (k : EventKind) → kind_by w ws ≡ Some k → KindTold (w ∷ ws) k
kind_by_sound w ws k e = elim (branched (bytes_eq w (codes "new")) w (codes "new") _ _ k refl e) [
  | inl p ↦ named w (codes "new") ws k p.0 (new_sound ws k p.1)
  | inr e2 ↦ elim (branched (bytes_eq w (codes "bind")) w (codes "bind") _ _ k refl e2) [
    | inl p ↦ named w (codes "bind") ws k p.0 (bind_sound ws k p.1)
    | inr e3 ↦ elim (branched (bytes_eq w (codes "resume")) w (codes "resume") _ _ k refl e3) [
      | inl p ↦ named w (codes "resume") ws k p.0 (resume_sound ws k p.1)
      | inr e4 ↦ elim (branched (bytes_eq w (codes "suspend")) w (codes "suspend") _ _ k refl e4) [
        | inl p ↦ named w (codes "suspend") ws k p.0 (suspend_sound ws k p.1)
        | inr e5 ↦ elim (branched (bytes_eq w (codes "switch")) w (codes "switch") _ _ k refl e5) [
          | inl p ↦ named w (codes "switch") ws k p.0 (switch_sound ws k p.1)
          | inr e6 ↦ elim (branched (bytes_eq w (codes "exit")) w (codes "exit") (ended Exit ws) None k refl e6) [
            | inl p ↦ named w (codes "exit") ws k p.0 (exit_sound ws k p.1)
            | inr e7 ↦ absurd cc
          ]
        ]
      ]
    ]
  ]
]

kind_sound : (ws : List Word) (k : EventKind) → kind_in ws ≡ Some k → KindTold ws k
kind_sound [] k e = absurd cc
kind_sound (w ∷ ws) k e = kind_by_sound w ws k e

abbrev LineTold : List ℕ → Line → Type 0
LineTold bs l = LineFits l × (line_text l ≡ bs)

event_sound : (w : Word) (ws : List Word) (l : Line) → event_in w ws ≡ Some l → LineTold (spaced (w ∷ ws)) l
event_sound w ws l e =
    let a = then_some (number_of 64 w) (λ n. option_map (λ (k : EventKind). line.Event (record { step = n; kind = k })) (kind_in ws)) l e in
    let b = mapped (λ (k : EventKind). line.Event (record { step = a.0; kind = k })) (kind_in ws) l a.2 in
    let n = number_sound 64 (omega arith) w a.0 a.1 in
    let m = kind_sound ws b.0 b.1 in
    subst (LineTold (spaced (w ∷ ws))) b.2 ((n.0, m.0), ap (λ (v : Word). spaced (v ∷ kind_words b.0)) n.1 ∙ ap (λ (us : List Word). spaced (w ∷ us)) m.1)

-- an ending has a word
some_ending : (ws : List Word) (x : Ending) → ending_said (spaced ws) ≡ Some x → (v : Word) × (us : List Word) × (ws ≡ v ∷ us)
some_ending [] x e = absurd cc
some_ending (v ∷ us) x e = (v, us, refl)

-- the end line, by its parts
end_text : (n : ℕ) (x : Ending) → line_text (line.End n x) ≡ codes "end " ++ (decimal n ++ 32 ∷ ending_text x)
end_text n x = ap (λ (t : List ℕ). codes "end " ++ (decimal n ++ 32 ∷ t)) (append-nil (ending_text x))

end_sound : (ws : List Word) (l : Line) → end_in ws ≡ Some l → LineTold (spaced (codes "end" ∷ ws)) l
end_sound [] l e = absurd cc
end_sound (w ∷ ws) l e =
    let a = then_some (number_of 64 w) (λ n. option_map (line.End n) (ending_said (spaced ws))) l e in
    let b = mapped (line.End a.0) (ending_said (spaced ws)) l a.2 in
    let n = number_sound 64 (omega arith) w a.0 a.1 in
    let x = ending_sound (spaced ws) b.0 b.1 in
    let s = some_ending ws b.0 b.1 in
    let text : line_text (line.End a.0 b.0) ≡ codes "end " ++ (w ++ 32 ∷ spaced ws) =
    end_text a.0 b.0 ∙ ap (λ (v : Word). codes "end " ++ (v ++ 32 ∷ ending_text b.0)) n.1 ∙ ap (λ (t : List ℕ). codes "end " ++ (w ++ 32 ∷ t)) x.1 in
    let same : codes "end " ++ (w ++ 32 ∷ spaced ws) ≡ spaced (codes "end" ∷ w ∷ ws) =
    subst (λ (us : List Word). codes "end " ++ (w ++ 32 ∷ spaced us) ≡ spaced (codes "end" ∷ w ∷ us)) (sym s.2) refl in
    subst (LineTold (spaced (codes "end" ∷ w ∷ ws))) b.2 ((n.0, x.0), text ∙ same)

line_in_sound : (ws : List Word) (l : Line) → line_in ws ≡ Some l → LineTold (spaced ws) l
line_in_sound [] l e = absurd cc
line_in_sound (w ∷ ws) l e = elim (branched (bytes_eq w (codes "end")) w (codes "end") _ _ l refl e) [
  | inl p ↦ subst (λ (v : Word). LineTold (spaced (v ∷ ws)) l) (sym p.0) (end_sound ws l p.1)
  | inr f ↦ event_sound w ws l f
]

-- what is read fits, and was written so
pub said_right : (bs : List ℕ) (l : Line) → line_said bs ≡ Some l → LineFits l × (line_text l ≡ bs)
unfolding line_said
said_right bs l e =
    let h = line_in_sound (words_of bs) l e in
    (h.0, h.1 ∙ words_spaced bs)

-- ## What is written is read

numbers_read : (k : EventKind) → KindFits k → kind_in (kind_words k) ≡ Some k
numbers_read (New b) f = ap (option_map New) (addresses.complete b f)
numbers_read (Bind a b) f = ap (option_map (λ (p : ℕ × ℕ). Bind p.0 p.1)) ((twos addresses addresses).complete (a, b) f)
numbers_read (Resume a) f = ap (option_map Resume) (addresses.complete a f)
numbers_read (Suspend x b) f = ap (option_map (λ (p : ℕ × ℕ). Suspend p.0 p.1)) ((twos tags addresses).complete (x, b) f)
numbers_read (Switch a x b) f = rw (addresses.complete a f.0) (ap (option_map (λ (p : ℕ × ℕ). Switch a p.0 p.1)) ((twos tags addresses).complete (x, b) (f.1, f.2)))
numbers_read Exit f = refl

kind_clean : (k : EventKind) → KindFits k → Each IsClean (kind_words k)
kind_clean (New b) f = (search rules, (addresses.clean b f, tt))
kind_clean (Bind a b) f = (search rules, (addresses.clean a f.0, (addresses.clean b f.1, tt)))
kind_clean (Resume a) f = (search rules, (addresses.clean a f, tt))
kind_clean (Suspend x b) f = (search rules, (tags.clean x f.0, (addresses.clean b f.1, tt)))
kind_clean (Switch a x b) f = (search rules, (addresses.clean a f.0, (tags.clean x f.1, (addresses.clean b f.2, tt))))
kind_clean Exit f = (search rules, tt)

event_clean : (e : Event) → LineFits (line.Event e) → Each IsClean (event_words e)
event_clean e f = (addresses.clean e.step f.0, kind_clean e.kind f.1)

-- a number isn't `end`
event_first : (n : ℕ) (ws : List Word) → Fits64 n → line_in (decimal n ∷ ws) ≡ event_in (decimal n) ws
event_first n ws h =
    let d = decimal_begins n h in
    ap (λ (b : Bool). cond b (end_in ws) (event_in (decimal n) ws)) (not_named (decimal n) d.0 d.3 (codes "end") 101 _ d.1 d.2 refl refl)

event_read : (n : ℕ) (k : EventKind) → Fits64 n → KindFits k → line_in (decimal n ∷ kind_words k) ≡ Some (line.Event (record { step = n; kind = k }))
event_read n k f g =
    event_first n (kind_words k) f
    ∙ ap (λ (o : Option ℕ). o >>= λ m. option_map (λ (j : EventKind). line.Event (record { step = m; kind = j })) (kind_in (kind_words k))) (addresses.complete n f)
    ∙ ap (option_map (λ (j : EventKind). line.Event (record { step = n; kind = j }))) (numbers_read k g)

-- the first word of a line
first_word : (w : Word) (bs : List ℕ) → IsClean w → words_of (w ++ 32 ∷ bs) ≡ w ∷ words_of bs
first_word [] bs h = refl
first_word (b ∷ w) bs h = rw (not_space b h.0) (ap (onto_first b) (first_word w bs h.1))
  where
    not_space : (c : ℕ) → 32 < c → is_space c ≡ false
    not_space c g = elim (eqb_tells c 32) [ inl p ↦ absurd (omega (arith, p.1)) | inr p ↦ p.0 ]

end_word : IsClean (codes "end")
end_word = search rules

end_words : (n : ℕ) (x : Ending) → Fits64 n → words_of (line_text (line.End n x)) ≡ codes "end" ∷ decimal n ∷ words_of (ending_text x)
end_words n x f =
    ap words_of (end_text n x)
    ∙ first_word (codes "end") (decimal n ++ 32 ∷ ending_text x) end_word
    ∙ ap (λ (ws : List Word). codes "end" ∷ ws) (first_word (decimal n) (ending_text x) (addresses.clean n f))

end_read : (n : ℕ) (x : Ending) → Fits64 n → EndingFits x → end_in (decimal n ∷ words_of (ending_text x)) ≡ Some (line.End n x)
end_read n x f g =
    ap (λ (o : Option ℕ). o >>= λ m. option_map (line.End m) (ending_said (spaced (words_of (ending_text x))))) (addresses.complete n f)
    ∙ ap (λ (t : List ℕ). option_map (line.End n) (ending_said t)) (words_spaced (ending_text x))
    ∙ ap (option_map (line.End n)) (ending_complete x g)

-- what fits is read as it is written
pub said_all : (l : Line) → LineFits l → line_said (line_text l) ≡ Some l
unfolding line_said
said_all (line.Event e) f = ap line_in (words_apart (decimal e.step) (kind_words e.kind) (event_clean e f)) ∙ event_read e.step e.kind f.0 f.1
said_all (line.End n x) f = ap line_in (end_words n x f.0) ∙ end_read n x f.0 f.1

-- no line feed is in it
pub text_in_line : (l : Line) → LineFits l → InLine (line_text l)
text_in_line (line.Event e) f = words_in_line (event_words e) (event_clean e f)
text_in_line (line.End n x) f =
    subst InLine (sym (end_text n x)) (joined_in_line (codes "end ") (decimal n ++ 32 ∷ ending_text x) (refl, (refl, (refl, (refl, tt)))) (joined_in_line (decimal n) (32 ∷ ending_text x) (clean_in_line (decimal n) (addresses.clean n f.0)) (refl, ending_in_line x f.1)))
