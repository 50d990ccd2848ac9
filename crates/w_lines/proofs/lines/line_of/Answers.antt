use Rattle.std.proofs.Common.{◌≡◌, ◌∷◌, Some, None, sym, ◌∙◌, rules}
use Rattle.w_words.specs.Words.{words_of}
use Rattle.w_lines.specs.declared.line.Line.TheVariants as line
use Rattle.w_lines.specs.Instructions.{token_of}
use Rattle.w_lines.proofs.LinesRead.{token_read, no_words, of_words}
use Rattle.w_lines.proofs.lines.line_of.Goals as goal

pub returns-in_default : goal.returns-in_default
returns-in_default c = absurd (no_words c.args.line.now (sym c.of_line-words.ensures ∙ (search rules)))

pub returns-in-Some-2 : goal.returns-in-Some-2
returns-in-Some-2 c =
    let ws = c.next.new.self in
    let name = c.in-Some.name.now in
    let split : words_of c.args.line.now ≡ name ∷ ws = sym c.of_line-words.ensures ∙ c.in-Some.ensures.some in
    let made : Some c.in-Some-2.token ≡ token_of name ws = sym c.in-Some-2.is ∙ c.in_ok-token.ensures name c.in-Some-row_of.ensures.some in
    of_words c.args.line.now name ws (Some (line.Token c.in-Some-2.token)) split (token_read name ws c.in-Some-row_of.row (Some c.in-Some-2.token) c.in-Some-row_of.ensures.some made)

pub returns-in-None : goal.returns-in-None
returns-in-None c =
    let ws = c.next.new.self in
    let name = c.in-Some.name.now in
    let split : words_of c.args.line.now ≡ name ∷ ws = sym c.of_line-words.ensures ∙ c.in-Some.ensures.some in
    let made : None ≡ token_of name ws = sym c.in-None.is ∙ c.in_ok-token.ensures name c.in-Some-row_of.ensures.some in
    of_words c.args.line.now name ws None split (token_read name ws c.in-Some-row_of.row None c.in-Some-row_of.ensures.some made)
