-- Bodies that are judged one by one, before the module's last lists are there.
use Rattle.std.specs.Prelude.{◌≡◌, ℕ, true, false, length}
use Rattle.w_syntax.specs.declared.module.Module.{Module}
use Rattle.w_canon.specs.Supertypes.{KeepsKinds}
use Rattle.w_rules.specs.Limits.{Within}
use Rattle.w_valid.specs.JudgedBodies.{AreJudged}
use Rattle.w_valid.specs.Tables.{AreTablesIn}
use Rattle.w_valid.specs.declared.gradual.Gradual.{Gradual}

-- how many bodies were judged
abbrev pub judged : Gradual → ℕ
judged g = length g.bodies.heights.items

-- memory ran out in a call
abbrev pub IsOutOfMemory : Gradual → Type 0
IsOutOfMemory g = g.out_of_memory ≡ true

-- what is kept is known of the first bodies of the module, where each supertype is of its subtypes' kind, as it is where the types are
-- valid; where memory ran out nothing is said
pub record AnswersFor (g : Gradual) (m : Module) : Type 0 where
  pub tables : g.out_of_memory ≡ false → AreTablesIn m g.tables
  pub bodies : g.out_of_memory ≡ false → Within m → KeepsKinds m.types → AreJudged m g.bodies
