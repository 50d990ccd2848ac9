-- Where nothing handles a tag a run traps so, and only instructions that switch stacks do.
use Rattle.std.specs.Prelude.{◌≡◌, Bool, true, false, List}
use Rattle.lists.specs.Rows.{Row}
use Rattle.w_syntax.specs.Code.{Code}
use Rattle.w_reduce.specs.declared.trap.Trap.{Trap}
use Rattle.w_reduce.specs.declared.trap.Trap.TheVariants as trap
use Rattle.w_reduce.specs.Apart.{switches}
use Rattle.w_reduce.specs.Values.{Val}
use Rattle.w_reduce.specs.Store.{Store}
use Rattle.w_reduce.specs.Terms.{Administrative, Context}
use Rattle.w_reduce.specs.Program.{Program}
use Rattle.w_reduce.specs.Reduced.{Trapped}
use Rattle.w_reduce.specs.Reduce.{next}

-- whether the trap is that of a tag that nothing handles
abbrev pub is_unhandled : Trap → Bool
is_unhandled (trap.Unhandled x) = true
is_unhandled t = false

-- a reduction by no rule of switching has no such trap
abbrev pub OnlySwitchesAreUnhandled : Type 0
OnlySwitchesAreUnhandled = (p : Program) (s : Store) (e : Context) (vs : Row Val) (ahead : List Administrative) (k : Code) → switches ahead k ≡ false
    → (t : Trap) → next p s e vs ahead k ≡ Trapped t → is_unhandled t ≡ false
