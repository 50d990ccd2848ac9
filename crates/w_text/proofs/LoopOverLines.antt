-- What the loop over lines knows.
use Rattle.std.proofs.Common.{◌≡◌, ℕ, suc, ◌+◌, ◌^◌, ◌<◌, ◌≤◌, Bool, true, false, List, [], ◌∷◌, ◌++◌, length, drop, Option, Some, None, refl, sym, ap, subst, ◌∙◌, arith, length-drop}
use Rattle.std.specs.Prelude.{option_map}
use Rattle.w_lines.specs.declared.line.Line.{Line}
use Rattle.w_lines.specs.Kept.{kept}
use Rattle.w_words.specs.Pieces.{InLine}
use Rattle.w_lines.specs.Spelling.{line_of}
use Rattle.w_text.specs.declared.assembly.Assembly.{Assembly}
use Rattle.w_text.specs.declared.fault.TextFault.TheVariants as fault
use Rattle.w_text.specs.Machine.{State, step}
use Rattle.w_text.specs.Text.{IsWrongAt}
use Rattle.w_text.specs.Standing.{on_line}
use Rattle.w_text.specs.Assembled.{Stands, SteppedTo, Ended}
use Rattle.w_text.proofs.KeptCounts.{Alike, led_alike, refused_too, led_too, finished_alike}
use Rattle.w_text.proofs.Least.{Reached, reached_line, wrong_line, wrong_end, right_end}

refused : (o : Option State) (r : Bool) (a : Assembly) → r ≡ false → SteppedTo o r a → o ≡ None
refused None r a e h = refl
refused (Some t) r a e h = let z : false ≡ true = sym e ∙ h.0 in absurd cc

taken : (o : Option State) (r : Bool) (a : Assembly) → r ≡ true → SteppedTo o r a → (t : State) × (o ≡ Some t) × Stands t a
taken None r a e h = let z : true ≡ false = sym e ∙ h in absurd cc
taken (Some t) r a e h = (t, refl, h.1)

with_line : (s t : State) (o : Option Line) → on_line s o ≡ Some t → (l : Line) × (o ≡ Some l) × (step s l ≡ Some t)
with_line s t None e = absurd cc
with_line s t (Some l) e = (l, refl, e)

at_line : (t : List ℕ) (n : ℕ) (s : State) (rest other : List ℕ) → rest ≡ other → Reached t n s rest → Reached t n s other
at_line t n s rest other e r = subst (λ (x : List ℕ). Reached t n s x) e r

same_number : (t : List ℕ) (n l : ℕ) → fault.Line n ≡ fault.Line l → IsWrongAt t n → IsWrongAt t l
same_number t n l e w = let s : n ≡ l = cc in subst (λ (k : ℕ). IsWrongAt t k) s w

-- what is known before each line: the state that the lines lead to, and one like it that the assembly stands for
pub record Known (t : List ℕ) (n : ℕ) (rest : List ℕ) (a : Assembly) : Type 0 where
  pub state : State
  pub counted : State
  pub alike : Alike n state counted
  pub stands : Stands counted a
  pub reached : Reached t n state rest

-- a line was refused
pub refused_line : (t : List ℕ) (n : ℕ) (rest bs more : List ℕ) (r : Bool) (a b : Assembly) → (k : Known t n rest a) → n < 2 ^ 62 → rest ≡ (bs ++ 10 ∷ []) ++ more → InLine bs → r ≡ false → SteppedTo (on_line k.counted (option_map kept (line_of bs))) r b → (l : ℕ) → fault.Line n ≡ fault.Line l → IsWrongAt t l
refused_line t n rest bs more r a b k lt p i e d l f =
    let none = refused_too (suc n) (on_line k.state (line_of bs)) (on_line k.counted (option_map kept (line_of bs))) (led_alike n k.state k.counted (line_of bs) lt k.alike) (refused (on_line k.counted (option_map kept (line_of bs))) r b e d) in
    same_number t n l f (wrong_line t n k.state bs more (at_line t n k.state rest ((bs ++ 10 ∷ []) ++ more) p k.reached) i none)

-- a line was taken
pub taken_line : (t : List ℕ) (n : ℕ) (rest bs more : List ℕ) (r : Bool) (a b : Assembly) → (k : Known t n rest a) → n < 2 ^ 62 → rest ≡ (bs ++ 10 ∷ []) ++ more → InLine bs → r ≡ true → SteppedTo (on_line k.counted (option_map kept (line_of bs))) r b → Known t (n + 1) more b
taken_line t n rest bs more r a b k lt p i e d =
    let u = taken (on_line k.counted (option_map kept (line_of bs))) r b e d in
    let v = led_too (suc n) (on_line k.state (line_of bs)) (on_line k.counted (option_map kept (line_of bs))) u.0 (led_alike n k.state k.counted (line_of bs) lt k.alike) u.1 in
    let l = with_line k.state v.0 (line_of bs) v.1 in
    let next : suc n ≡ n + 1 = omega arith in
    record {
      state = v.0;
      counted = u.0;
      alike = subst (λ (j : ℕ). Alike j v.0 u.0) next v.2;
      stands = u.2;
      reached = subst (λ (j : ℕ). Reached t j v.0 more) next (reached_line t n k.state v.0 bs more l.0 (at_line t n k.state rest ((bs ++ 10 ∷ []) ++ more) p k.reached) i l.1 l.2);
    }

not_nothing : (t : List ℕ) (k : ℕ) → k < length t → drop k t ≡ [] → ⊥
not_nothing t k h e = let z : length (drop k t) ≡ 0 = ap length e in omega (arith, h, z, length-drop k t)

-- a piece without a line feed stands at the end
pub refused_piece : (t : List ℕ) (n at : ℕ) (a : Assembly) → Known t n (drop at t) a → InLine (drop at t) → at < length t → (l : ℕ) → fault.Line n ≡ fault.Line l → IsWrongAt t l
refused_piece t n at a k i lt l f = same_number t n l f (wrong_end t n k.state (drop at t) k.reached i (λ e. absurd (not_nothing t at lt e)))

nothing_left : (t : List ℕ) (k : ℕ) → length t ≤ k → drop k t ≡ []
nothing_left t k h = empty (drop k t) (omega (arith, length-drop k t))
  where
    empty : (l : List ℕ) → length l ≡ 0 → l ≡ []
    empty [] e = refl
    empty (x ∷ l) e = absurd (omega (arith, e))

-- all lines were taken
pub all_taken : (t : List ℕ) (n at : ℕ) (a : Assembly) → Known t n (drop at t) a → length t ≤ at → Ended t n a
all_taken t n at a k h =
    let r = at_line t n k.state (drop at t) [] (nothing_left t at h) k.reached in
    let e = finished_alike n k.state k.counted k.alike in
    record {
      state = k.counted;
      stands = k.stands;
      whole = λ m f. right_end t n k.state m r (e ∙ f);
      open_yet = λ f. wrong_end t n k.state [] r tt (λ x. e ∙ f);
    }
