-- Which line is wrong, by the states that lines lead to.
use Rattle.std.proofs.Common.{◌≡◌, ℕ, zero, suc, ◌<◌, ◌≤◌, Bool, true, false, cond, List, [], ◌∷◌, ◌++◌, length, map, take, drop, Option, Some, None, refl, sym, ap, subst, ◌∙◌, append_assoc, arith}
use Rattle.std.specs.Prelude.{nat_eq}
use Rattle.std.specs.List.{flat_map}
use Rattle.std.proofs.lemmas.List.{append-nil, map-append, take-append-drop, append_cancel_right, length-append}
use Rattle.w_syntax.specs.declared.module.Module.{Module}
use Rattle.w_lines.specs.declared.line.Line.{Line}
use Rattle.w_lines.specs.declared.line.Line.TheVariants as line
use Rattle.w_text.specs.Items.{item_lines, items, module_lines}
use Rattle.w_text.specs.Machine.{Between, InGroup, InLocals, InExprs, State, Fresh, Reading, finished, step, run, run_on}
use Rattle.w_text.specs.Standing.{on_line}
use Rattle.w_words.specs.Words.{Each}
use Rattle.w_words.specs.Pieces.{InLine, pieces, BeginsText}
use Rattle.w_words.proofs.Pieces.{piece_of_line, last_piece, joined_pieces, feed_there}
use Rattle.w_lines.specs.Spelling.{line_text, line_bytes, LineFits, line_of}
use Rattle.w_text.specs.Text.{Text, IsText, IsWrongAt}
use Rattle.w_text.proofs.Told.{open_lines}
use Rattle.w_text.proofs.Sound.{so_far, StateFits, run_told}
use Rattle.w_text.proofs.Whole.{module_run, each_fits}
use Rattle.w_text.proofs.Closing.{Closes, by_module, by_type, by_end, EachCloses, Closable, closable, fresh_closable}
use Rattle.w_lines.proofs.LinesComplete.{line_sound, line_complete, text_in_line}

-- ## Pieces

pieces_of_lines : (ls : List Line) → Each LineFits ls → pieces (flat_map line_bytes ls) ≡ map line_bytes ls ++ [] ∷ []
pieces_of_lines [] f = last_piece [] tt
pieces_of_lines (l ∷ ls) f = piece_of_line (line_text l) (flat_map line_bytes ls) (text_in_line l f.0) ∙ ap (λ (ps : List (List ℕ)). line_bytes l ∷ ps) (pieces_of_lines ls f.1)

-- ## Lines that begin others

some_bytes : (bs : List ℕ) → [] ≡ bs ++ 10 ∷ [] → ⊥
some_bytes [] e = cc
some_bytes (b ∷ bs) e = cc

-- lines that fit are told by their bytes
pub same_line : (l m : Line) → LineFits l → LineFits m → line_bytes l ≡ line_bytes m → l ≡ m
same_line l m f g e =
    let t : line_text l ≡ line_text m = append_cancel_right (line_text l) (line_text m) (10 ∷ []) e in
    let s : Some l ≡ Some m = sym (line_complete l f) ∙ ap line_of t ∙ line_complete m g in
    cc

-- what stands behind lines that begin these
record Behind (ls xs : List Line) (q : List (List ℕ)) : Type 0 where
  more : List Line
  same : xs ≡ ls ++ more
  fit : Each LineFits more
  left : map line_bytes more ++ [] ∷ [] ≡ q

begins : (ls xs : List Line) (q : List (List ℕ)) → Each LineFits ls → Each LineFits xs → map line_bytes xs ++ [] ∷ [] ≡ map line_bytes ls ++ q → Behind ls xs q
begins [] xs q f g e = record { more = xs; same = refl; fit = g; left = e }
begins (l ∷ ls) [] q f g e = let s : [] ≡ line_bytes l = cc in absurd (some_bytes (line_text l) s)
begins (l ∷ ls) (x ∷ xs) q f g e =
    let s : line_bytes x ≡ line_bytes l = cc in
    let is : x ≡ l = same_line x l g.0 f.0 s in
    let rest : map line_bytes xs ++ [] ∷ [] ≡ map line_bytes ls ++ q = cc in
    let b = begins ls xs q f.1 g.1 rest in
    record { more = b.more; same = ap (λ (y : Line). y ∷ xs) is ∙ ap (λ (ys : List Line). l ∷ ys) b.same; fit = b.fit; left = b.left }

-- ## What has been read

run_append : (ls ms : List Line) (s : State) → run s (ls ++ ms) ≡ run_on (λ t. run t ms) (run s ls)
unfolding run
run_append [] ms s = refl
run_append (l ∷ ls) ms s = with_state (step s l) (run_append ls ms)
  where
    with_state : (o : Option State) → ((t : State) → run t (ls ++ ms) ≡ run_on (λ u. run u ms) (run t ls)) → run_on (λ t. run t (ls ++ ms)) o ≡ run_on (λ t. run t ms) (run_on (λ t. run t ls) o)
    with_state None h = refl
    with_state (Some t) h = h t

-- n lines of t are read and led to this state; the rest is still to be read
pub record Reached (t : List ℕ) (n : ℕ) (s : State) (rest : List ℕ) : Type 0 where
  pub lines : List Line
  pub fit : Each LineFits lines
  pub count : length lines ≡ n
  pub ran : run Fresh lines ≡ Some s
  pub parts : pieces t ≡ map line_bytes lines ++ pieces rest

pub reached_start : (t : List ℕ) → Reached t 0 Fresh t
unfolding run
reached_start t = record { lines = []; fit = tt; count = refl; ran = refl; parts = refl }

each_more : (ls : List Line) (l : Line) → Each LineFits ls → LineFits l → Each LineFits (ls ++ l ∷ [])
each_more [] l f g = (g, tt)
each_more (k ∷ ls) l f g = (f.0, each_more ls l f.1 g)

each_append : (ls ms : List Line) → Each LineFits ls → Each LineFits ms → Each LineFits (ls ++ ms)
each_append [] ms f g = g
each_append (k ∷ ls) ms f g = (f.0, each_append ls ms f.1 g)

run_one : (s : State) (l : Line) → run s (l ∷ []) ≡ step s l
unfolding run
run_one s l = with_state (step s l)
  where
    with_state : (o : Option State) → run_on (λ t. Some t) o ≡ o
    with_state None = refl
    with_state (Some t) = refl

pub reached_line : (t : List ℕ) (n : ℕ) (s u : State) (bs more : List ℕ) (l : Line) → Reached t n s ((bs ++ 10 ∷ []) ++ more) → InLine bs → line_of bs ≡ Some l → step s l ≡ Some u → Reached t (suc n) u more
reached_line t n s u bs more l r h e k =
    let f = line_sound bs l e in
    record {
      lines = r.lines ++ l ∷ [];
      fit = each_more r.lines l r.fit f.0;
      count = omega (arith, r.count, length-append r.lines (l ∷ []));
      ran = run_append r.lines (l ∷ []) Fresh ∙ ap (λ (o : Option State). run_on (λ v. run v (l ∷ [])) o) r.ran ∙ run_one s l ∙ k;
      parts =
          r.parts
          ∙ ap (λ (ps : List (List ℕ)). map line_bytes r.lines ++ ps) (piece_of_line bs more h ∙ ap (λ (b : List ℕ). (b ++ 10 ∷ []) ∷ pieces more) (sym f.1))
          ∙ sym (append_assoc (map line_bytes r.lines) (line_bytes l ∷ []) (pieces more))
          ∙ ap (λ (ps : List (List ℕ)). ps ++ pieces more) (sym (map-append line_bytes r.lines (l ∷ [])));
    }

-- ## Lines that a text begins with

closer_fits : (l : Line) → Closes l → LineFits l
closer_fits _ by_module = tt
closer_fits _ by_type = (tt, (tt, tt))
closer_fits _ by_end = tt

closers_fit : (ls : List Line) → EachCloses ls → Each LineFits ls
closers_fit [] c = tt
closers_fit (l ∷ ls) c = (closer_fits l c.0, closers_fit ls c.1)

to_closable : (s : State) → StateFits s → Closable s
to_closable Fresh f = fresh_closable
to_closable (Reading k m o) f = closable k m o f.2

fresh_lines : (j : ℕ) (m : Module) → so_far (Reading j m Between) ≡ module_lines m
unfolding so_far open_lines
fresh_lines j m = ap (λ (l : List Line). line.Module ∷ l) (append-nil (flat_map item_lines (items m)))

none_yet : so_far Fresh ≡ []
unfolding so_far
none_yet = refl

-- lines that lead to a module are its lines
pub whole_text : (ls : List Line) (j : ℕ) (m : Module) → Each LineFits ls → run Fresh ls ≡ Some (Reading j m Between) → (module_lines m ≡ ls) × Text (flat_map line_bytes ls) m
whole_text ls j m f e =
    let r = run_told ls Fresh (Reading j m Between) tt e in
    let same : module_lines m ≡ ls = sym (fresh_lines j m) ∙ r.0 ∙ ap (λ (k : List Line). k ++ ls) none_yet in (
      same,
      record {
        parts = record { paired = r.1.0.paired; locals = each_fits m.codes r.1.0.locals };
        lines = subst (Each LineFits) (sym same) f;
        same = ap (λ (k : List Line). flat_map line_bytes k) (sym same);
      },
    )

-- lines that lead to a state begin a text
begins_text : (ls : List Line) (s : State) → Each LineFits ls → run Fresh ls ≡ Some s → BeginsText IsText (map line_bytes ls)
begins_text ls s f e =
    let r = run_told ls Fresh s tt e in
    let c = to_closable s r.1 in
    let fit = each_append ls c.lines f (closers_fit c.lines c.close) in
    let led : run Fresh (ls ++ c.lines) ≡ Some (Reading c.place c.whole Between) = run_append ls c.lines Fresh ∙ ap (λ (o : Option State). run_on (λ t. run t c.lines) o) e ∙ c.leads in
    let w = whole_text (ls ++ c.lines) c.place c.whole fit led in (
      flat_map line_bytes (ls ++ c.lines),
      map line_bytes c.lines ++ [] ∷ [],
      (c.whole, w.1),
      pieces_of_lines (ls ++ c.lines) fit ∙ ap (λ (ps : List (List ℕ)). ps ++ [] ∷ []) (map-append line_bytes ls c.lines) ∙ append_assoc (map line_bytes ls) (map line_bytes c.lines) ([] ∷ []),
    )

-- the first k of some lines
record Front (k : ℕ) (ls : List Line) (ps : List (List ℕ)) : Type 0 where
  front : List Line
  back : List Line
  same : ls ≡ front ++ back
  taken : take k (map line_bytes ls ++ ps) ≡ map line_bytes front

front_of : (k : ℕ) (ls : List Line) (ps : List (List ℕ)) → k ≤ length ls → Front k ls ps
front_of zero ls ps le = record { front = []; back = ls; same = refl; taken = refl }
front_of (suc k) [] ps le = absurd (omega arith)
front_of (suc k) (l ∷ ls) ps le =
    let f = front_of k ls ps (omega arith) in
    record { front = l ∷ f.front; back = f.back; same = ap (λ (x : List Line). l ∷ x) f.same; taken = ap (λ (x : List (List ℕ)). line_bytes l ∷ x) f.taken }

each_front : (ls ms : List Line) → Each LineFits (ls ++ ms) → Each LineFits ls
each_front [] ms f = tt
each_front (l ∷ ls) ms f = (f.0, each_front ls ms f.1)

ran_front : (f : State → Option State) (o : Option State) (t : State) → run_on f o ≡ Some t → (s : State) × (o ≡ Some s)
ran_front f None t e = absurd cc
ran_front f (Some s) t e = (s, refl)

-- a text begins with each number of lines that were read
pub earlier : (t : List ℕ) (n : ℕ) (s : State) (rest : List ℕ) → Reached t n s rest → (k : ℕ) → k < n → BeginsText IsText (take (suc k) (pieces t))
earlier t n s rest r k lt =
    let f = front_of (suc k) r.lines (pieces rest) (omega (arith, r.count)) in
    let fit = each_front f.front f.back (subst (Each LineFits) f.same r.fit) in
    let ran : run_on (λ v. run v f.back) (run Fresh f.front) ≡ Some s = sym (run_append f.front f.back Fresh) ∙ ap (run Fresh) (sym f.same) ∙ r.ran in
    let u = ran_front (λ v. run v f.back) (run Fresh f.front) s ran in
    let same : take (suc k) (pieces t) ≡ map line_bytes f.front = ap (take (suc k)) r.parts ∙ f.taken in
    subst (BeginsText IsText) (sym same) (begins_text f.front u.0 fit u.1)

taken_one : (ls : List Line) (p : List ℕ) (ps : List (List ℕ)) → take (suc (length ls)) (map line_bytes ls ++ p ∷ ps) ≡ map line_bytes ls ++ p ∷ []
taken_one [] p ps = refl
taken_one (l ∷ ls) p ps = ap (λ (x : List (List ℕ)). line_bytes l ∷ x) (taken_one ls p ps)

-- A text that begins with the lines that were read and the piece p: its further lines.
record Further (t : List ℕ) (s : State) (p : List ℕ) : Type 0 where
  more : List Line
  fit : Each LineFits more
  place : ℕ
  whole : Module
  leads : run s more ≡ Some (Reading place whole Between)
  rest : List (List ℕ)
  left : map line_bytes more ++ [] ∷ [] ≡ p ∷ rest

further : (t : List ℕ) (n : ℕ) (s : State) (rest p : List ℕ) (ps : List (List ℕ)) → Reached t n s rest → pieces rest ≡ p ∷ ps → BeginsText IsText (take (suc n) (pieces t)) → Further t s p
further t n s rest p ps r e b =
    let front : take (suc n) (pieces t) ≡ map line_bytes r.lines ++ p ∷ [] = ap (λ (k : ℕ). take (suc k) (pieces t)) (sym r.count) ∙ ap (take (suc (length r.lines))) (r.parts ∙ ap (λ (x : List (List ℕ)). map line_bytes r.lines ++ x) e) ∙ taken_one r.lines p ps in
    let m = b.2.0 in
    let text = b.2.1 in
    let whole : map line_bytes (module_lines m) ++ [] ∷ [] ≡ map line_bytes r.lines ++ p ∷ b.1 =
    sym (pieces_of_lines (module_lines m) text.lines) ∙ ap pieces (sym text.same) ∙ b.3 ∙ ap (λ (x : List (List ℕ)). x ++ b.1) front ∙ append_assoc (map line_bytes r.lines) (p ∷ []) b.1 in
    let f = begins r.lines (module_lines m) (p ∷ b.1) r.fit text.lines whole in
    let led = module_run m text.parts in
    record {
      more = f.more;
      fit = f.fit;
      place = led.0;
      whole = m;
      leads = ap (λ (o : Option State). run_on (λ v. run v f.more) o) (sym r.ran) ∙ sym (run_append r.lines f.more Fresh) ∙ ap (run Fresh) (sym f.same) ∙ led.1;
      rest = b.1;
      left = f.left;
    }

first_step : (s : State) (l : Line) (ls : List Line) (t : State) → run s (l ∷ ls) ≡ Some t → (u : State) × (step s l ≡ Some u)
unfolding run
first_step s l ls t e = ran_front (λ v. run v ls) (step s l) t e

not_further : (t : List ℕ) (s : State) (bs : List ℕ) → on_line s (line_of bs) ≡ None → (more : List Line) → Each LineFits more → (u : State) → run s more ≡ Some u → (rest : List (List ℕ)) → map line_bytes more ++ [] ∷ [] ≡ (bs ++ 10 ∷ []) ∷ rest → ⊥
not_further t s bs e [] fit u led rest left = let z : [] ≡ bs ++ 10 ∷ [] = cc in some_bytes bs z
not_further t s bs e (x ∷ more) fit u led rest left =
    let same : line_bytes x ≡ bs ++ 10 ∷ [] = cc in
    let text : line_text x ≡ bs = append_cancel_right (line_text x) bs (10 ∷ []) same in
    let is : line_of bs ≡ Some x = ap line_of (sym text) ∙ line_complete x fit.0 in
    let g = first_step s x more u led in
    let none : step s x ≡ None = ap (on_line s) (sym is) ∙ e in
    let clash : None ≡ Some g.0 = sym none ∙ g.1 in
    absurd cc

-- a line from which no state comes is wrong
pub wrong_line : (t : List ℕ) (n : ℕ) (s : State) (bs more : List ℕ) → Reached t n s ((bs ++ 10 ∷ []) ++ more) → InLine bs → on_line s (line_of bs) ≡ None → IsWrongAt t n
wrong_line t n s bs more r h e = (
  λ b.
      let f = further t n s ((bs ++ 10 ∷ []) ++ more) (bs ++ 10 ∷ []) (pieces more) r (piece_of_line bs more h) b in
      not_further t s bs e f.more f.fit (Reading f.place f.whole Between) f.leads f.rest f.left,
  earlier t n s ((bs ++ 10 ∷ []) ++ more) r,
)

finished_some : (j : ℕ) (m : Module) (s : State) → s ≡ Reading j m Between → finished s ≡ Some m
finished_some j m s e = rw e refl

none_finished : (s : State) (t : State) (j : ℕ) (m : Module) → run s [] ≡ Some t → t ≡ Reading j m Between → finished s ≡ Some m
unfolding run
none_finished s t j m e f = let same : s ≡ t = cc in finished_some j m s (same ∙ f)

not_at_end : (s : State) (bs : List ℕ) → InLine bs → (bs ≡ [] → finished s ≡ None) → (more : List Line) → (j : ℕ) (m : Module) → run s more ≡ Some (Reading j m Between) → (rest : List (List ℕ)) → map line_bytes more ++ [] ∷ [] ≡ bs ∷ rest → ⊥
not_at_end s bs h e [] j m led rest left =
    let z : bs ≡ [] = cc in
    let f : finished s ≡ Some m = none_finished s (Reading j m Between) j m led refl in
    let clash : None ≡ Some m = sym (e z) ∙ f in
    absurd cc
not_at_end s bs h e (x ∷ more) j m led rest left =
    let same : line_text x ++ 10 ∷ [] ≡ bs = cc in
    feed_there (line_text x) [] (subst InLine (sym same) h)

-- the end is wrong where a piece without a line feed stands in front of it, or where more lines must come
pub wrong_end : (t : List ℕ) (n : ℕ) (s : State) (bs : List ℕ) → Reached t n s bs → InLine bs → (bs ≡ [] → finished s ≡ None) → IsWrongAt t n
wrong_end t n s bs r h e = (
  λ b.
      let f = further t n s bs bs [] r (last_piece bs h) b in
      not_at_end s bs h e f.more f.place f.whole f.leads f.rest f.left,
  earlier t n s bs r,
)

state_of_finished : (s : State) (m : Module) → finished s ≡ Some m → (j : ℕ) × (s ≡ Reading j m Between)
state_of_finished Fresh m e = absurd cc
state_of_finished (Reading k n Between) m e = let same : n ≡ m = cc in (k, ap (λ (x : Module). Reading k x Between) same)
state_of_finished (Reading k n (InGroup a b)) m e = absurd cc
state_of_finished (Reading k n (InLocals a b)) m e = absurd cc
state_of_finished (Reading k n (InExprs a b c d f)) m e = absurd cc

joined_lines : (ls : List Line) → flat_map (λ (p : List ℕ). p) (map line_bytes ls ++ [] ∷ []) ≡ flat_map line_bytes ls
joined_lines [] = refl
joined_lines (l ∷ ls) = ap (λ (x : List ℕ). line_bytes l ++ x) (joined_lines ls)

-- all lines were read
pub right_end : (t : List ℕ) (n : ℕ) (s : State) (m : Module) → Reached t n s [] → finished s ≡ Some m → Text t m
right_end t n s m r e =
    let f = state_of_finished s m e in
    let w = whole_text r.lines f.0 m r.fit (r.ran ∙ ap (λ (x : State). Some x) f.1) in
    let same : t ≡ flat_map line_bytes r.lines = sym (joined_pieces t) ∙ ap (λ (ps : List (List ℕ)). flat_map (λ (p : List ℕ). p) ps) (r.parts ∙ ap (λ (ps : List (List ℕ)). map line_bytes r.lines ++ ps) (last_piece [] tt)) ∙ joined_lines r.lines in
    subst (λ (x : List ℕ). Text x m) (sym same) w.1

-- ## One text, one module

pub one_module : (t : List ℕ) (m n : Module) → Text t m → Text t n → m ≡ n
one_module t m n h k =
    let b = begins (module_lines m) (module_lines n) ([] ∷ []) h.lines k.lines (sym (pieces_of_lines (module_lines n) k.lines) ∙ ap pieces (sym k.same ∙ h.same) ∙ pieces_of_lines (module_lines m) h.lines) in
    let none : b.more ≡ [] = no_more b.more b.left in
    let same : module_lines n ≡ module_lines m = b.same ∙ ap (λ (x : List Line). module_lines m ++ x) none ∙ append-nil (module_lines m) in
    let p = module_run m h.parts in
    let q = module_run n k.parts in
    let both : Some (Reading q.0 n Between) ≡ Some (Reading p.0 m Between) = sym q.1 ∙ ap (run Fresh) same ∙ p.1 in
    cc
  where
    no_more : (ls : List Line) → map line_bytes ls ++ [] ∷ [] ≡ [] ∷ [] → ls ≡ []
    no_more [] e = refl
    no_more (l ∷ ls) e = let z : [] ≡ line_bytes l = cc in absurd (some_bytes (line_text l) z)
