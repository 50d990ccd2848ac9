-- Lines are read by their first word.
use Rattle.std.proofs.Common.{◌≡◌, Bool, true, List, [], ◌∷◌, Option, Some, None, refl, sym, ap, ◌∙◌}
use Rattle.std.specs.Prelude.{option_map}
use Rattle.std.specs.Str.{bytes_eq}
use Rattle.std.proofs.lemmas.Slice.Eq.{bytes_eq-Decides}
use Rattle.w_syntax.specs.declared.instructions.Token.{Token}
use Rattle.w_words.specs.Words.{Word, ◌>>=◌, words_of}
use Rattle.w_words.proofs.Lines.{some_word}
use Rattle.w_lines.specs.declared.line.Line.{Line}
use Rattle.w_lines.specs.declared.line.Line.TheVariants as line
use Rattle.w_lines.specs.declared.names.NameRow.{NameRow}
use Rattle.w_lines.specs.Instructions.{Row, rows, row_in, form_of, token_of}
use Rattle.w_lines.specs.NameTable.{IsRow}
use Rattle.w_lines.specs.Spelling.{Reader, reader_in, kinds, by_kind, line_in, line_of}
use Rattle.w_lines.specs.Kept.{kept}
use Rattle.w_lines.proofs.InstructionRows.{names_are_no_kinds}

-- the line of a kind, by the reader of its first word
pub kind_read : (name word : Word) (f : Reader Line) (ws : List Word) (o : Option Line) (b : Bool) → b ≡ bytes_eq name word → b ≡ true → line_in (word ∷ ws) ≡ f ws → o ≡ option_map kept (f ws) → o ≡ option_map kept (line_in (name ∷ ws))
kind_read name word f ws o b i t e h =
    let is : name ≡ word = (bytes_eq-Decides name word).0 (sym i ∙ t) in
    h ∙ ap (option_map kept) (sym e) ∙ ap (λ (w : Word). option_map kept (line_in (w ∷ ws))) (sym is)

token_none : (w : Word) (ws : List Word) → row_in rows w ≡ None → token_of w ws ≡ None
unfolding token_of
token_none w ws e = ap (λ (o : Option Row). o >>= λ r. form_of r.2 ws) e

-- a word that is no name of an instruction, and of no kind
pub nothing_read : (name : Word) (ws : List Word) → reader_in kinds name ≡ None → row_in rows name ≡ None → None ≡ option_map kept (line_in (name ∷ ws))
unfolding line_in
nothing_read name ws e r =
    sym (ap (λ (o : Option (Reader Line)). option_map kept (by_kind o name ws)) e ∙ ap (λ (o : Option Token). option_map kept (option_map line.Token o)) (token_none name ws r))

-- an instruction
pub token_read : (name : Word) (ws : List Word) (row : NameRow) (o : Option Token) → IsRow name row → o ≡ token_of name ws → option_map line.Token o ≡ option_map kept (line_in (name ∷ ws))
unfolding line_in
token_read name ws row o i h =
    shown o
    ∙ ap (λ (t : Option Token). option_map kept (option_map line.Token t)) h
    ∙ sym (ap (λ (r : Option (Reader Line)). option_map kept (by_kind r name ws)) (names_are_no_kinds name i.row i.here))
  where
    shown : (t : Option Token) → option_map line.Token t ≡ option_map kept (option_map line.Token t)
    shown None = refl
    shown (Some x) = refl

-- the words of a line begin with one
pub no_words : (bs : List _) → words_of bs ≡ [] → ⊥
no_words bs e = some_word bs e

pub of_words : (bs : List _) (name : Word) (ws : List Word) (o : Option Line) → words_of bs ≡ name ∷ ws → o ≡ option_map kept (line_in (name ∷ ws)) → o ≡ option_map kept (line_of bs)
of_words bs name ws o e h = h ∙ ap (λ (vs : List Word). option_map kept (line_in vs)) (sym e)
