-- What the bodies of a module are judged by.
use Rattle.std.specs.Prelude.{◌≡◌}
use Rattle.w_syntax.specs.declared.module.Module.{Module}
use Rattle.w_rules.specs.Limits.{Within}
use Rattle.w_rules.specs.Spaces.{declared_of}
use Rattle.w_items.specs.Judged.{AreSpacesOf}
use Rattle.w_valid.specs.declared.tables.ModuleTables.{ModuleTables}
use Rattle.w_valid.specs.declared.tables.TablesSoFar.{TablesSoFar}
use Rattle.w_valid.specs.declared.tables.TablesSoFar.TheVariants as so_far

-- the tables are those of the module
pub record AreTablesOf (m : Module) (t : ModuleTables) : Type 0 where
  pub types : t.types ≡ m.types
  pub spaces : AreSpacesOf m t.spaces
  pub declared : t.declared.items ≡ declared_of m

-- the same of those that are made with the first body, if its module keeps the limits on types
abbrev pub AreTablesIn : Module → TablesSoFar → Type 0
AreTablesIn m so_far.NotYet = Unit {0}
AreTablesIn m (so_far.Made t) = AreTablesOf m t
AreTablesIn m so_far.PastLimits = Within m → ⊥

-- a body was there to make them for
abbrev pub AreDue : TablesSoFar → Type 0
AreDue so_far.NotYet = ⊥
AreDue (so_far.Made t) = Unit {0}
AreDue so_far.PastLimits = Unit {0}
