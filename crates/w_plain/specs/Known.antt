-- What is known of the program that a machine runs.
use Rattle.std.specs.Prelude.{◌≡◌, ℕ, List}
use Rattle.std.specs.Coded.{Coded-set, coded_list, coded_ℕ}
use Rattle.w_syntax.specs.declared.module.Module.{Module}
use Rattle.w_syntax.specs.contracts.module.Module as module_contract
use Rattle.w_rules.specs.Spaces.{functions_of}

-- the module as one that can be run, and the index of each function's type, imported functions in front
pub record IsKnown (m runnable : Module) (functions : List ℕ) : Type 0 where
  pub runnable_is : runnable ≡ m
  pub functions_are : functions ≡ functions_of m

-- it has one proof at most, so that a struct can keep it
pub IsKnown-prop : (m runnable : Module) (functions : List ℕ) → IsProp (IsKnown m runnable functions)
IsKnown-prop m runnable functions u v = λ i. record {
  runnable_is = Coded-set module_contract.the_row.coded runnable m u.runnable_is v.runnable_is i;
  functions_are = Coded-set (coded_list coded_ℕ) functions (functions_of m) u.functions_are v.functions_are i;
}
