use Rattle.std.proofs.Common.{rules, ◌≡◌, true, false, ◌+◌, ◌-◌, suc, take, drop, sym, refl, arith}
use Rattle.s_lex.specs.Bytes.{is_digit, is_letter}
use Rattle.s_lex.specs.Texts.{value}
use Rattle.s_lex.specs.Stands.{begins}
use Rattle.s_lex.specs.Pieces.{run}
use Rattle.s_lex.proofs.Places.{number_here, followed_here}
use Rattle.s_lex.proofs.Values.{above_greatest, not_above_greatest}
use Rattle.s_lex.proofs.lexing.number_at.Goals as goal

pub returns-then-letter_at : goal.returns-then-letter_at
returns-then-letter_at c =
    let bs = c.args.bytes.now in
    let n = suc (run is_digit (drop (c.args.at + 1) bs)) in
    let e : c.end_of-end.result ≡ c.args.at + n = omega (arith, c.end_of-end.ensures.runs) in
    let f : true ≡ begins is_letter (drop c.end_of-end.result bs) = search rules in
    record { value = sym (followed_here bs c.args.at n c.end_of-end.result e f) }

pub returns-in-None : goal.returns-in-None
returns-in-None c =
    let bs = c.args.bytes.now in
    let n = suc (run is_digit (drop (c.args.at + 1) bs)) in
    let e : c.end_of-end.result ≡ c.args.at + n = omega (arith, c.end_of-end.ensures.runs) in
    let u = above_greatest (value (take (c.end_of-end.result - c.args.at) (drop c.args.at bs))) c.in-None.ensures.none in
    record { value = sym (number_here bs c.args.at n c.end_of-end.result false _ e u refl) }

pub returns-in-Some : goal.returns-in-Some
returns-in-Some c =
    let bs = c.args.bytes.now in
    let n = suc (run is_digit (drop (c.args.at + 1) bs)) in
    let e : c.end_of-end.result ≡ c.args.at + n = omega (arith, c.end_of-end.ensures.runs) in
    let u = not_above_greatest _ (value (take (c.end_of-end.result - c.args.at) (drop c.args.at bs))) c.in-Some.field-0.small c.in-Some.ensures.some in
    let f : false ≡ begins is_letter (drop c.end_of-end.result bs) = search rules in
    record { value = sym (number_here bs c.args.at n c.end_of-end.result true false e u f) }
