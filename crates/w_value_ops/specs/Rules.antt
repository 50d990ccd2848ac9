-- What the rules of some instructions have in common.
use Rattle.std.specs.Prelude.{◌≡◌, List}
use Rattle.lists.specs.Rows.{◌▹◌}
use Rattle.w_types.specs.declared.value.Value.{Value}
use Rattle.w_syntax.specs.Code.{Code}
use Rattle.w_syntax.specs.declared.instructions.Op.{Op}
use Rattle.w_tables.specs.Store as instances
use Rattle.w_reduce.specs.Values.{val}
use Rattle.w_reduce.specs.Terms.{rest_of, Context}
use Rattle.w_reduce.specs.Program.{Program}
use Rattle.w_reduce.specs.Reduced.{steps_to}
use Rattle.w_reduce.specs.Reduce.{instruction}
use Rattle.w_stands.specs.Values.{stack, store_of}

-- the rule of an instruction that gives this value, in any configuration
abbrev pub IsGiving : Op → Value → Type 0
IsGiving i v = (p : Program) (u : instances.Store) (e : Context) (vs : List Value) (c : Code) →
    instruction p (store_of u) e (stack vs) i c ≡ steps_to (store_of u) e (stack vs ▹ val v) (rest_of c)
