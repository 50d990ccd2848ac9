-- What was taken in of the bytes of a file.
use Rattle.std.specs.Prelude.{◌≡◌, ◌<◌, ◌≤◌, ℕ, List, ◌++◌, length, Option, ⊤}
use Rattle.std.specs.Io.KnownBytes.{prepend_known}
use Rattle.w_syntax.specs.Spells.{Spells}
use Rattle.w_syntax.specs.declared.module.Module.{Module}
use Rattle.w_decode.specs.Pieces.{StandsFor}
use Rattle.w_valid.specs.Gradual.{AnswersFor}
use Rattle.w_outside.specs.Outside.{Known, Opens}
use Rattle.words.specs.declared.request.Takes.{Takes}
use Rattle.replies.specs.Answer.{kind_of, input_limit}
use Rattle.replies.specs.declared.file_kind.FileKind.TheVariants as file
use Rattle.intake.specs.declared.intake.Input.{Input}
use Rattle.intake.specs.declared.intake.Input.TheVariants as input
use Rattle.intake.specs.declared.intake.Intake.{Intake}
use Rattle.intake.specs.declared.intake.Intake.TheVariants as intake
use Rattle.intake.specs.declared.module_intake.ModuleIntake.{ModuleIntake}

-- the decoder stands for the bytes, and the answers for the bodies that close within them are those of every module whose spelling begins
-- with these bytes
pub record IsModuleOf (m : ModuleIntake) (b : List ℕ) : Type 0 where
  pub decoder : StandsFor m.decoder b
  pub bodies : (c : List ℕ) (n : Module) → Spells (b ++ c) n → AnswersFor m.gradual n

-- these bytes are so to what takes such files
abbrev pub IsInputOf : Takes → Input → List ℕ → Type 0
IsInputOf takes (input.Script bytes) b = (bytes.items ≡ b) × (kind_of takes b ≡ file.Script)
IsInputOf takes (input.Text bytes) b = (bytes.items ≡ b) × (kind_of takes b ≡ file.Text)
IsInputOf takes (input.Module m) b = (kind_of takes b ≡ file.Module) × IsModuleOf m b

-- a text is no longer than a file may be
abbrev pub IsShort : Input → Type 0
IsShort (input.Script bytes) = ⊤
IsShort (input.Text bytes) = length bytes.items ≤ input_limit
IsShort (input.Module m) = ⊤

-- so many bytes say what a file is
abbrev pub front_length : ℕ
front_length = 4

-- these bytes were taken in
abbrev pub TakesIn : Takes → Intake → List ℕ → Type 0
TakesIn takes (intake.Front bytes) b = (bytes.items ≡ b) × (length b < front_length)
TakesIn takes (intake.Known i) b = (front_length ≤ length b) × IsInputOf takes i b

-- a part of so many bytes was read and taken in
pub record TakesMore (taking : Takes) (old new : Intake) (before now : Option (List ℕ)) (n : ℕ) : Type 0 where
  pub part : List ℕ
  pub count : length part ≡ n
  pub left : before ≡ prepend_known part now
  pub takes : (b : List ℕ) → TakesIn taking old b → TakesIn taking new (b ++ part)

-- so many bytes were read and taken in, and these are left of what is known of the file
pub record IsReadTo (known : Known) (left : Option (List ℕ)) (taking : Takes) (intake : Intake) (n : ℕ) : Type 0 where
  pub bytes : List ℕ
  pub count : length bytes ≡ n
  pub whole : Opens known (prepend_known bytes left)
  pub takes : TakesIn taking intake bytes
