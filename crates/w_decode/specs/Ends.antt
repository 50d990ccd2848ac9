-- Which sections, and which functions' codes, end within bytes that the spelling of a module begins with.
use Rattle.std.specs.Prelude.{◌≡◌, ◌⊎◌, ℕ, ◌<◌, ◌≤◌, List, ◌∷◌, ◌++◌, length}
use Rattle.w_leb.specs.Format.{Each}
use Rattle.w_leb.specs.Number.{Unsigned}
use Rattle.w_syntax.specs.Fields.{code}
use Rattle.w_syntax.specs.Sections.{section}
use Rattle.w_syntax.specs.Module.{empty_module, with_contents, with_all_contents}
use Rattle.w_syntax.specs.Spells.{BeginsWith}
use Rattle.w_syntax.specs.declared.module.Func.{Func}
use Rattle.w_syntax.specs.declared.module.Module.{Module}
use Rattle.w_syntax.specs.declared.module.Section.{Section}
use Rattle.w_syntax.specs.declared.module.Section.TheVariants as part

-- no section ends within these bytes, which begin where one is due
abbrev pub NoSection : List ℕ → Type 0
NoSection rest = (p : Section) (a more : List ℕ) → rest ≡ a ++ more → section.Spells a p → ⊥

-- these bytes begin a code section: its size, the count of its functions, and the codes of the functions fs, behind which no more ends
pub record BeginsCodes (rest : List ℕ) (fs : List Func) : Type 0 where
  pub size : ℕ
  pub count : ℕ
  pub head : List ℕ
  pub counted : List ℕ
  pub entries : List ℕ
  pub more : List ℕ
  pub whole : rest ≡ 0x0A ∷ (head ++ (counted ++ (entries ++ more)))
  pub sized : Unsigned 32 head size
  pub counts : Unsigned 32 counted count
  pub codes : Each code.Spells entries fs
  pub few : length fs ≤ count
  pub no_more : length fs < count → (f : Func) (a r : List ℕ) → more ≡ a ++ r → code.Spells a f → ⊥

-- b ends in the header
pub record EndsInHeader (b : List ℕ) (m : Module) : Type 0 where
  pub short : length b < 8
  pub lists : m ≡ empty_module

-- b ends behind whole sections, or in one that is no code section with its count
pub record EndsBetween (b : List ℕ) (m : Module) : Type 0 where
  pub sections : List Section
  pub last : ℕ
  pub rest : List ℕ
  pub begins : BeginsWith b sections last rest
  pub no_section : NoSection rest
  pub no_codes : (fs : List Func) → BeginsCodes rest fs → ⊥
  pub lists : m ≡ with_all_contents empty_module sections

-- b ends in a code section, behind its count
pub record EndsInCodes (b : List ℕ) (m : Module) : Type 0 where
  pub sections : List Section
  pub last : ℕ
  pub rest : List ℕ
  pub functions : List Func
  pub begins : BeginsWith b sections last rest
  pub no_section : NoSection rest
  pub codes : BeginsCodes rest functions
  pub lists : m ≡ with_contents (part.Codes functions) (with_all_contents empty_module sections)

-- m has the lists of the sections that end within b, and of the code section in which b ends the codes that do
abbrev pub EndsAs : List ℕ → Module → Type 0
EndsAs b m = EndsInHeader b m ⊎ (EndsBetween b m ⊎ EndsInCodes b m)
