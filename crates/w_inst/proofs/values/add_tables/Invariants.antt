use Rattle.std.proofs.Common.{◌≡◌, drop, map}
use Rattle.w_reduce.specs.Store.{Store}
use Rattle.w_reduce.specs.Program.{Program}
use Rattle.w_reduce.specs.Start as start
use Rattle.w_stands.specs.Values.{store_of}
use Rattle.w_inst.specs.Adding.{with_tables}
use Rattle.w_inst.specs.Constants.{Sees}
use Rattle.w_inst.proofs.values.add_tables.Given as goal

-- those so far are added
abbrev pub invariant-loop-table : goal.invariant-loop-table
invariant-loop-table l = (p : Program) (s : Store) → Sees l.globals l.functions s
    → with_tables (store_of l.store) (map (start.table_of p s) (drop l.table-index l.table-items)) ≡ with_tables (store_of l.fn.store) (map (start.table_of p s) l.program.tables)
