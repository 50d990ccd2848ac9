use Rattle.w_words.proofs.Pieces.{text_is_right}
use Rattle.w_text.specs.Text.{IsText}
use Rattle.w_text.proofs.laws.texts_are_right.Goals as goal

pub returns : goal.returns
returns c = λ t m l h w. text_is_right IsText t l (m, h) w
