use Rattle.std.proofs.Common.{◌≡◌, ◌-◌, ◌++◌, [], List, ℕ, length, take, drop, sym, ap, subst, ◌∙◌, rules, Vec, Global}
use Rattle.std.proofs.lemmas.List.{nil_from_length, take_rest}
use Rattle.w_decode.specs.Pieces.{Stands, Waits}
use Rattle.w_decode.proofs.DecodersStand.{more_in, with_kept}
use Rattle.w_decode.proofs.pieces.Decoder.take_piece.Goals as goal

pub returns-then-is_empty : goal.returns-then-is_empty
returns-then-is_empty c = λ b h.
    let d = c.args.self.now in
    let x = c.args.piece.now in
    let p = c.advance-place.result in
    let none : d.kept.items ≡ [] = nil_from_length d.kept.items (search rules) in
    let s = c.advance-place.ensures.steps (b ++ x) (subst (λ (l : List ℕ). Stands d (l ++ x) (b ++ x)) none (more_in d.phase d d.kept.items b x h.stands)) in
    c.keep.ensures (b ++ x) (subst (λ (l : List ℕ). Stands c.advance-place.new.self l (b ++ x) × Waits c.advance-place.new.self l) (sym (take_rest x p)) s)

pub returns-then-place-eq0 : goal.returns-then-place-eq0
returns-then-place-eq0 c = λ b h.
    let d = c.args.self.now in
    let x = c.args.piece.now in
    let w = c.as_slice.result.now in
    let t = c.advance-place-2.new.self in
    let all : w ≡ d.kept.items ++ x = c.as_slice.ensures.value ∙ c.in-Ok.ensures.items ∙ ap (λ (v : Vec ℕ Global). v.items ++ x) c.replace-kept.ensures.value in
    let s = c.advance-place-2.ensures.steps (b ++ x) (with_kept d.phase d _ w (b ++ x) (subst (λ (l : List ℕ). Stands d l (b ++ x)) (sym all) (more_in d.phase d d.kept.items b x h.stands))) in
    let same : drop c.advance-place-2.result w ≡ c.extend_from_slice.new.self.items = ap (λ (n : ℕ). drop n w) c.if-place-eq0.true ∙ c.as_slice.ensures.value in
    record { stands = with_kept t.phase t c.extend_from_slice.new.self c.extend_from_slice.new.self.items (b ++ x) (subst (λ (l : List ℕ). Stands t l (b ++ x)) same s.0); waits = subst (λ (l : List ℕ). Waits t l) same s.1 }

pub returns-else-place-eq0 : goal.returns-else-place-eq0
returns-else-place-eq0 c = λ b h.
    let d = c.args.self.now in
    let x = c.args.piece.now in
    let w = c.as_slice.result.now in
    let i = c.deref.result.now in
    let t = c.advance-place-2.new.self in
    let p = c.advance-place-2.result in
    let all : w ≡ d.kept.items ++ x = c.as_slice.ensures.value ∙ c.in-Ok.ensures.items ∙ ap (λ (v : Vec ℕ Global). v.items ++ x) c.replace-kept.ensures.value in
    let s = c.advance-place-2.ensures.steps (b ++ x) (with_kept d.phase d _ w (b ++ x) (subst (λ (l : List ℕ). Stands d l (b ++ x)) (sym all) (more_in d.phase d d.kept.items b x h.stands))) in
    let same : drop p w ≡ take (length i - p) (drop p i) = ap (λ (l : List ℕ). drop p l) (c.as_slice.ensures.value ∙ sym c.deref.ensures.value) ∙ sym (take_rest i p) in
    c.keep-else-place-eq0.ensures (b ++ x) (subst (λ (l : List ℕ). Stands t l (b ++ x) × Waits t l) same s)
