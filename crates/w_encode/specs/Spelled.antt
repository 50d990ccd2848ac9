-- What makes the canonical spelling of a module a spelling of it: each of its parts is spelled by what is written of it, and no list is
-- too long to be counted.
use Rattle.std.specs.Prelude.{◌≡◌, ℕ, ◌^◌, ◌<◌, List, [], ◌∷◌, length, Option, Some, None, ⊤}
use Rattle.w_leb.specs.Format.{Format}
use Rattle.w_leb.specs.Formats.{number}
use Rattle.w_leb.specs.Number.{shortest}
use Rattle.w_syntax.specs.declared.instructions.Token.{Token}
use Rattle.w_syntax.specs.declared.instructions.Token.TheVariants as tok
use Rattle.w_syntax.specs.declared.module.Func.{Func}
use Rattle.w_syntax.specs.declared.module.Module.{Module}
use Rattle.w_syntax.specs.Code.{Code, Done, Plain, Block, If, IfElse}
use Rattle.w_syntax.specs.Tokens.{token}
use Rattle.w_syntax.specs.Types.{rectype, limits}
use Rattle.w_syntax.specs.Fields.{tag, import, export, table_of, global, elem, data_segment, run}
use Rattle.w_syntax.specs.Locals.{joined, total}
use Rattle.w_encode.specs.TypesWritten.{rectype_written, limits_written}
use Rattle.w_encode.specs.InstructionsWritten.{token_written}
use Rattle.w_encode.specs.FieldsWritten.{import_written, tag_written, export_written, table_written, global_written, elem_written, data_written}
use Rattle.w_encode.specs.Canon.{run_written}

-- each item is
abbrev pub EachSpelled : {A : Type 0} → Format A → (A → List ℕ) → List A → Type 0
EachSpelled f w [] = ⊤
EachSpelled f w (x ∷ xs) = f.Spells (w x) x × EachSpelled f w xs

abbrev pub ListSpelled : {A : Type 0} → Format A → (A → List ℕ) → List A → Type 0
ListSpelled f w xs = (length xs < 2 ^ 32) × EachSpelled f w xs

-- ## Functions

abbrev pub TokenSpelled : Token → Type 0
TokenSpelled t = token.Spells (token_written t) t

-- each token of a sequence but its end
abbrev pub CodeSpelled : Code → Type 0
CodeSpelled Done = ⊤
CodeSpelled (Plain o r) = TokenSpelled (tok.Plain o) × CodeSpelled r
CodeSpelled (Block kind b x r) = TokenSpelled (tok.Block kind b) × CodeSpelled x × CodeSpelled r
CodeSpelled (If b x r) = TokenSpelled (tok.If b) × CodeSpelled x × CodeSpelled r
CodeSpelled (IfElse b x y r) = TokenSpelled (tok.If b) × CodeSpelled x × CodeSpelled y × CodeSpelled r

-- runs of locals are spelled with neighbours joined
pub record FunctionSpelled (f : Func) : Type 0 where
  pub runs : ListSpelled run run_written f.locals
  pub alone : joined f.locals ≡ f.locals
  pub few : total f.locals < 2 ^ 32
  pub body : CodeSpelled f.body

abbrev pub FunctionsSpelled : List Func → Type 0
FunctionsSpelled [] = ⊤
FunctionsSpelled (f ∷ fs) = FunctionSpelled f × FunctionsSpelled fs

-- ## Modules

abbrev pub StartSpelled : Option ℕ → Type 0
StartSpelled None = ⊤
StartSpelled (Some x) = x < 2 ^ 32

pub record PartsSpelled (m : Module) : Type 0 where
  pub types : ListSpelled rectype rectype_written m.types
  pub imports : ListSpelled import import_written m.imports
  pub functions : ListSpelled (number 32) shortest m.functions
  pub tables : ListSpelled table_of table_written m.tables
  pub memories : ListSpelled limits limits_written m.memories
  pub tags : ListSpelled tag tag_written m.tags
  pub globals : ListSpelled global global_written m.globals
  pub exports : ListSpelled export export_written m.exports
  pub start : StartSpelled m.start
  pub elements : ListSpelled elem elem_written m.elements
  -- each function has its code
  pub paired : length m.functions ≡ length m.codes
  pub few_codes : length m.codes < 2 ^ 32
  pub codes : FunctionsSpelled m.codes
  pub datas : ListSpelled data_segment data_written m.datas
