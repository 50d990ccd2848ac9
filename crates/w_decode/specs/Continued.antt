-- A module whose first lists, and first codes, are those of another.
use Rattle.std.specs.Prelude.{◌≡◌, List, ◌++◌}
use Rattle.w_syntax.specs.SameBefore.{SameBefore}
use Rattle.w_syntax.specs.declared.module.Func.{Func}
use Rattle.w_syntax.specs.declared.module.Module.{Module}

-- n has the lists of m in front of the code section, and behind the codes of m perhaps more
pub record Continues (m n : Module) : Type 0 where
  pub before : SameBefore m n
  pub more : List Func
  pub codes : n.codes ≡ m.codes ++ more
