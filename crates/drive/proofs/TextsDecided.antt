-- Bytes are a text, or one of their lines is wrong: line by line, by the state that the lines before lead to.
use Rattle.std.proofs.Common.{◌≡◌, ◌≤◌, ◌⊎◌, ℕ, zero, suc, inl, inr, List, [], ◌∷◌, ◌++◌, length, Option, Some, None, refl, ap, subst, ◌∙◌, arith}
use Rattle.std.proofs.lemmas.List.{length-append}
use Rattle.w_syntax.specs.declared.module.Module.{Module}
use Rattle.w_lines.specs.declared.line.Line.{Line}
use Rattle.w_words.specs.Pieces.{InLine}
use Rattle.w_words.proofs.Pieces.{first_line}
use Rattle.w_lines.specs.Spelling.{line_of}
use Rattle.w_text.specs.Machine.{State, Fresh, finished, step}
use Rattle.w_text.specs.Standing.{on_line}
use Rattle.w_text.specs.Text.{Text, IsWrongAt}
use Rattle.w_text.proofs.Least.{Reached, reached_start, reached_line, wrong_line, wrong_end, right_end}

-- the bytes are a text, or wrong at some line
abbrev IsDecided : List ℕ → Type 0
IsDecided t = ((m : Module) × Text t m) ⊎ ((l : ℕ) × IsWrongAt t l)

module _ (t : List ℕ) where
  -- nothing is left
  at_end : (n : ℕ) (s : State) (o : Option Module) → finished s ≡ o → Reached t n s [] → IsDecided t
  at_end n s (Some m) e r = inl (m, right_end t n s m r e)
  at_end n s None e r = inr (n, wrong_end t n s [] r tt (λ _. e))

  -- what is left has no line feed
  in_piece : (n : ℕ) (s : State) (bs : List ℕ) → InLine bs → Reached t n s bs → IsDecided t
  in_piece n s [] h r = at_end n s (finished s) refl r
  in_piece n s (b ∷ bs) h r = inr (n, wrong_end t n s (b ∷ bs) r h (λ e. absurd cc))

  shorter : (line more : List ℕ) (fuel : ℕ) → length ((line ++ 10 ∷ []) ++ more) ≤ suc fuel → length more ≤ fuel
  shorter line more fuel le = omega (arith, le, length-append (line ++ 10 ∷ []) more, length-append line (10 ∷ []))

  -- behind the next line, where fewer bytes are left
  by_step : (n : ℕ) (s : State) (line more : List ℕ) (l : Line) → InLine line → Reached t n s ((line ++ 10 ∷ []) ++ more) → line_of line ≡ Some l → ((u : State) → Reached t (suc n) u more → IsDecided t) → (o : Option State) → step s l ≡ o → IsDecided t
  by_step n s line more l alone r e further None k = inr (n, wrong_line t n s line more r alone (ap (on_line s) e ∙ k))
  by_step n s line more l alone r e further (Some u) k = further u (reached_line t n s u line more l r alone e k)

  by_line : (n : ℕ) (s : State) (line more : List ℕ) → InLine line → Reached t n s ((line ++ 10 ∷ []) ++ more) → ((u : State) → Reached t (suc n) u more → IsDecided t) → (l : Option Line) → line_of line ≡ l → IsDecided t
  by_line n s line more alone r further None e = inr (n, wrong_line t n s line more r alone (ap (on_line s) e))
  by_line n s line more alone r further (Some l) e = by_step n s line more l alone r e further (step s l) refl

  -- so many bytes are left at most
  decided : (fuel n : ℕ) (s : State) (rest : List ℕ) → length rest ≤ fuel → Reached t n s rest → IsDecided t
  decided zero n s [] le r = in_piece n s [] tt r
  decided zero n s (b ∷ bs) le r = absurd (omega (arith, le))
  decided (suc fuel) n s rest le r = elim (first_line rest) [
    | inl f ↦ by_line n s f.line f.more f.alone (subst (Reached t n s) f.same r)
        (λ u reached. decided fuel (suc n) u f.more (shorter f.line f.more fuel (subst (λ (x : List ℕ). length x ≤ suc fuel) f.same le)) reached) (line_of f.line) refl
    | inr alone ↦ in_piece n s rest alone r
  ]

pub text_or_wrong : (t : List ℕ) → IsDecided t
text_or_wrong t = decided t (length t) 0 Fresh t (omega arith) (reached_start t)
