use Rattle.std.proofs.Common.{rules, ◌≡◌, ℕ, List, ◌++◌, take, drop, length, arith, sym, ◌∙◌}
use Rattle.std.proofs.lemmas.List.{take-append-drop, take-append-le, take_all}
use Rattle.w_outside.proofs.files.copy_to.Goals as goal

front_and_rest : (rest front old : List ℕ) (n : ℕ) → front ≡ take n rest → length front ≡ n
    → rest ≡ take n (front ++ drop n old) ++ drop n rest
front_and_rest rest front old n is len =
    let front_is : take n (front ++ drop n old) ≡ take n rest =
    take-append-le n front (drop n old) (omega arith) ∙ take_all n front (omega arith) ∙ is in
    rw front_is (sym (take-append-drop n rest))

pub returns-clause-bytes : goal.returns-clause-bytes
returns-clause-bytes c = front_and_rest c.args.rest.now c.copy_from_slice.new.self c.args.buf.now c.min-count.result (search rules) (search rules)
