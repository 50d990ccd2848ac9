-- The lines of traces, and those that a text begins with.
use Rattle.std.proofs.Common.{◌≡◌, ℕ, List, [], ◌∷◌, ◌++◌, map, Some, refl, sym, ap, ◌∙◌}
use Rattle.std.specs.List.{flat_map}
use Rattle.std.proofs.lemmas.List.{append_cancel_right}
use Rattle.w_words.specs.Words.{Each}
use Rattle.w_words.specs.Pieces.{pieces}
use Rattle.w_words.proofs.Pieces.{piece_of_line, last_piece, joined_pieces}
use Rattle.w_trace.specs.declared.event.Event.{Event}
use Rattle.w_trace.specs.declared.line.Line.{Line}
use Rattle.w_trace.specs.declared.line.Line.TheVariants as line
use Rattle.w_trace.specs.declared.trace.Ending.{Ending}
use Rattle.w_trace.specs.declared.trace.Trace.{Trace}
use Rattle.w_trace.specs.Lines.{line_text, line_bytes, lines_of, LineFits}
use Rattle.w_trace.specs.Reading.{line_said}
use Rattle.w_trace.proofs.LinesSaid.{said_all, text_in_line}

-- ## Pieces

pub pieces_of_lines : (ls : List Line) → Each LineFits ls → pieces (flat_map line_bytes ls) ≡ map line_bytes ls ++ [] ∷ []
pieces_of_lines [] f = last_piece [] tt
pieces_of_lines (l ∷ ls) f = piece_of_line (line_text l) (flat_map line_bytes ls) (text_in_line l f.0) ∙ ap (λ (ps : List (List ℕ)). line_bytes l ∷ ps) (pieces_of_lines ls f.1)

pub some_bytes : (bs : List ℕ) → [] ≡ bs ++ 10 ∷ [] → ⊥
some_bytes [] e = cc
some_bytes (b ∷ bs) e = cc

-- lines that fit are told by their bytes
pub same_line : (l m : Line) → LineFits l → LineFits m → line_bytes l ≡ line_bytes m → l ≡ m
same_line l m f g e =
    let t : line_text l ≡ line_text m = append_cancel_right (line_text l) (line_text m) (10 ∷ []) e in
    let s : Some l ≡ Some m = sym (said_all l f) ∙ ap line_said t ∙ said_all m g in
    cc

-- what stands behind lines that begin these
pub record Behind (ls xs : List Line) (q : List (List ℕ)) : Type 0 where
  pub more : List Line
  pub same : xs ≡ ls ++ more
  pub fit : Each LineFits more
  pub left : map line_bytes more ++ [] ∷ [] ≡ q

pub begins : (ls xs : List Line) (q : List (List ℕ)) → Each LineFits ls → Each LineFits xs → map line_bytes xs ++ [] ∷ [] ≡ map line_bytes ls ++ q → Behind ls xs q
begins [] xs q f g e = record { more = xs; same = refl; fit = g; left = e }
begins (l ∷ ls) [] q f g e = let s : [] ≡ line_bytes l = cc in absurd (some_bytes (line_text l) s)
begins (l ∷ ls) (x ∷ xs) q f g e =
    let s : line_bytes x ≡ line_bytes l = cc in
    let is : x ≡ l = same_line x l g.0 f.0 s in
    let rest : map line_bytes xs ++ [] ∷ [] ≡ map line_bytes ls ++ q = cc in
    let b = begins ls xs q f.1 g.1 rest in
    record { more = b.more; same = ap (λ (y : Line). y ∷ xs) is ∙ ap (λ (ys : List Line). l ∷ ys) b.same; fit = b.fit; left = b.left }

pub joined_lines : (ls : List Line) → flat_map (λ (p : List ℕ). p) (map line_bytes ls ++ [] ∷ []) ≡ flat_map line_bytes ls
joined_lines [] = refl
joined_lines (l ∷ ls) = ap (λ (x : List ℕ). line_bytes l ++ x) (joined_lines ls)

-- bytes are these lines where their pieces are
pub of_pieces : (t : List ℕ) (ls : List Line) → pieces t ≡ map line_bytes ls ++ [] ∷ [] → t ≡ flat_map line_bytes ls
of_pieces t ls e = sym (joined_pieces t) ∙ ap (λ (ps : List (List ℕ)). flat_map (λ (p : List ℕ). p) ps) e ∙ joined_lines ls

-- ## The end line stands last

abbrev pub event_lines : List Event → List Line
event_lines es = map line.Event es

-- the lines of a trace with more behind them are no lines of a trace
pub end_is_last : (es fs : List Event) (n m : ℕ) (x y : Ending) (l : Line) (more : List Line) → event_lines fs ++ line.End m y ∷ [] ≡ (event_lines es ++ line.End n x ∷ []) ++ l ∷ more → ⊥
end_is_last [] [] n m x y l more e = cc
end_is_last [] (f ∷ fs) n m x y l more e = cc
end_is_last (d ∷ es) [] n m x y l more e = cc
end_is_last (d ∷ es) (f ∷ fs) n m x y l more e =
    let rest : event_lines fs ++ line.End m y ∷ [] ≡ (event_lines es ++ line.End n x ∷ []) ++ l ∷ more = cc in
    end_is_last es fs n m x y l more rest

-- events alone are no lines of a trace
pub end_is_there : (es fs : List Event) (m : ℕ) (y : Ending) → event_lines fs ++ line.End m y ∷ [] ≡ event_lines es → ⊥
end_is_there [] [] m y e = cc
end_is_there [] (f ∷ fs) m y e = cc
end_is_there (d ∷ es) [] m y e = cc
end_is_there (d ∷ es) (f ∷ fs) m y e =
    let rest : event_lines fs ++ line.End m y ∷ [] ≡ event_lines es = cc in
    end_is_there es fs m y rest

-- a trace is told by its lines
record SameParts (es fs : List Event) (n m : ℕ) (x y : Ending) : Type 0 where
  events : es ≡ fs
  taken : n ≡ m
  ending : x ≡ y

same_parts : (es fs : List Event) (n m : ℕ) (x y : Ending) → event_lines es ++ line.End n x ∷ [] ≡ event_lines fs ++ line.End m y ∷ [] → SameParts es fs n m x y
same_parts [] [] n m x y e = record { events = refl; taken = cc; ending = cc }
same_parts [] (f ∷ fs) n m x y e = absurd cc
same_parts (d ∷ es) [] n m x y e = absurd cc
same_parts (d ∷ es) (f ∷ fs) n m x y e =
    let first : d ≡ f = cc in
    let rest : event_lines es ++ line.End n x ∷ [] ≡ event_lines fs ++ line.End m y ∷ [] = cc in
    let p = same_parts es fs n m x y rest in
    record { events = ap (λ (g : Event). g ∷ es) first ∙ ap (λ (gs : List Event). f ∷ gs) p.events; taken = p.taken; ending = p.ending }

trace_with : List Event → ℕ → Ending → Trace
trace_with es n x = record { events = es; taken = n; ending = x }

pub same_trace : (x y : Trace) → lines_of x ≡ lines_of y → x ≡ y
unfolding trace_with
same_trace x y e =
    let p = same_parts x.events y.events x.taken y.taken x.ending y.ending e in
    let all : trace_with x.events x.taken x.ending ≡ trace_with y.events y.taken y.ending =
    ap (λ (es : List Event). trace_with es x.taken x.ending) p.events ∙ ap (λ (n : ℕ). trace_with y.events n x.ending) p.taken ∙ ap (trace_with y.events y.taken) p.ending in
    all
