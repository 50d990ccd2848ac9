-- The results of a run.
use Rattle.std.specs.Prelude.{◌≡◌, List}
use Rattle.lists.specs.Rows.{Row, listed}
use Rattle.w_reduce.specs.Values.{Val}
use Rattle.w_reduce.specs.Run.{Outcome, Values}

-- the run ended with these
abbrev pub HasResults : Outcome → List Val → Type 0
HasResults o vs = (row : Row Val) × (o ≡ Values row) × (vs ≡ listed row)
