use Rattle.std.proofs.Common.{arith, ◌≡◌, sym, ◌∙◌, ap, decimal}
use Rattle.std.specs.Cmp.Lexicographic.{same_text, other_text}
use Rattle.words.proofs.Numerals.{number-some, number-none, unparsed, parsed}
use Rattle.words.proofs.options.number_of.Goals as goal

pub returns-in_default-clause-number : goal.returns-in_default-clause-number
returns-in_default-clause-number c = sym (number-none _ _ _ (λ n low high is. unparsed _ _ _ c.in_default.is c.parse.ensures.value.0 n (omega arith) is))

pub returns-then-eq-clause-number : goal.returns-then-eq-clause-number
returns-then-eq-clause-number c = sym (number-some _ _ _ _ (sym (same_text _ _ c.if-eq.ensures) ∙ c.format.ensures.text) (omega arith) (omega arith) (omega arith))

pub returns-else-eq-clause-number : goal.returns-else-eq-clause-number
returns-else-eq-clause-number c = sym (number-none _ _ _ (λ n low high is.
    let e : c.in-Ok.number ≡ n = parsed _ _ _ c.in-Ok.is c.parse.ensures.value.0 n (omega arith) is in
    other_text _ _ c.if-eq.ensures (c.format.ensures.text ∙ ap decimal e ∙ sym is)))

pub returns-then-number-least-clause-number : goal.returns-then-number-least-clause-number
returns-then-number-least-clause-number c = sym (number-none _ _ _ (λ n low high is.
    let e : c.in-Ok.number ≡ n = parsed _ _ _ c.in-Ok.is c.parse.ensures.value.0 n (omega arith) is in omega arith))

pub returns-then-number-most-clause-number : goal.returns-then-number-most-clause-number
returns-then-number-most-clause-number c = sym (number-none _ _ _ (λ n low high is.
    let e : c.in-Ok.number ≡ n = parsed _ _ _ c.in-Ok.is c.parse.ensures.value.0 n (omega arith) is in omega arith))
