use Rattle.std.proofs.Common.{◌++◌, List, ℕ, decimal, ap, ◌∙◌, append_assoc}
use Rattle.s_generate.specs.Generated.{before_number, behind_number}
use Rattle.s_generate.proofs.text.push_main.Goals as goal

pub returns : goal.returns
returns c =
    c.in_ok-extend_from_slice.ensures.items ∙ ap (λ (xs : List ℕ). xs ++ behind_number) c.in_ok-push_number.ensures
    ∙ append_assoc c.args.script.now.items (before_number ++ decimal c.args.n) behind_number
