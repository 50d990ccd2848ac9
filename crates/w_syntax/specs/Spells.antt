-- The spellings of modules (Core, binary format, modules).
use Rattle.std.specs.Prelude.{◌≡◌, ℕ, List, [], ◌++◌, Some, None}
use Rattle.w_leb.specs.Format.{Each}
use Rattle.w_syntax.specs.Sections.{rank_after, section}
use Rattle.w_syntax.specs.Module.{empty_module, with_all_contents, header, count_after, CountsAgree}
use Rattle.w_syntax.specs.declared.module.Module.{Module}
use Rattle.w_syntax.specs.declared.module.Section.{Section}

-- b begins with the header and these sections, in order; k is the rank after them, and rest what follows
pub record BeginsWith (b : List ℕ) (ps : List Section) (k : ℕ) (rest : List ℕ) : Type 0 where
  pub sections : List ℕ
  pub parts : b ≡ header ++ (sections ++ rest)
  pub each : Each section.Spells sections ps
  pub order : rank_after 0 ps ≡ Some k

-- The bytes b are a spelling of m: the header, and sections in order, which are m and agree in their counts.
abbrev pub Spells : List ℕ → Module → Type 0
Spells b m = (ps : List Section) × (k : ℕ) × BeginsWith b ps k [] × (with_all_contents empty_module ps ≡ m) × CountsAgree (count_after None ps) m
