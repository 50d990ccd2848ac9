-- How a typed configuration goes on.
use Rattle.std.proofs.Common.{ℕ, Bool, List, []}
use Rattle.lists.specs.Rows.{Row}
use Rattle.w_syntax.specs.Code.{Code}
use Rattle.w_syntax.specs.declared.module.Module.{Module}
use Rattle.w_rules.specs.Operands.{Operand}
use Rattle.w_reduce.specs.Values.{Val}
use Rattle.w_reduce.specs.Store.{Store}
use Rattle.w_reduce.specs.Terms.{Rest, rest_of, Context}
use Rattle.w_reduce.specs.Reduced.{Went, steps_to}
use Rattle.w_typed.specs.Values.{Arrows, ValuesTyped}
use Rattle.w_typed.specs.Stores.{StoreTyped}
use Rattle.w_typed.specs.Contexts.{Scope, CodeTyped, RestTyped, code_alone, Subset, Within}
use Rattle.w_typed.specs.Configurations.{IsSafe, goes}
use Rattle.w_typed.proofs.MoreContinuations.{grows_refl}

-- with any typed store and operands of these types, it goes on there
abbrev pub Onward : Module → Arrows → Row Operand → Context → Row Operand → Code → Type 0
Onward m K us e ws k = (s : Store) (vs : Row Val) → StoreTyped m K s → ValuesTyped m K vs ws → IsSafe m K us (steps_to s e vs (rest_of k))

module _ (m : Module) {K : Arrows} (us : Row Operand) where
  -- the rest of a sequence comes next in a context, where this was printed
  pub goes_printing : (text : List ℕ) {s : Store} {e : Context} {vs : Row Val} {r : Rest} {c : Scope} {set now : List Bool} {ts out : Row Operand} → StoreTyped m K s
      → Subset set now → ValuesTyped m K vs ts → RestTyped m c set r.ahead r.code ts out → Within m K us e c now out
      → IsSafe m K us (Went text s (record { around = e; operands = vs; rest = r }))
  goes_printing text {c = c} {set = set} {now = now} {ts = ts} {out = out} u still h k w = goes (grows_refl K) (record {
    store = u;
    term = record { scope = c; set = set; now = now; still = still; before = ts; after = out; operands = h; rest = k; around = w };
  })

  -- or nothing was
  pub goes_on : {s : Store} {e : Context} {vs : Row Val} {r : Rest} {c : Scope} {set now : List Bool} {ts out : Row Operand} → StoreTyped m K s → Subset set now
      → ValuesTyped m K vs ts → RestTyped m c set r.ahead r.code ts out → Within m K us e c now out → IsSafe m K us (steps_to s e vs r)
  goes_on u still h k w = goes_printing [] u still h k w

  pub onward : {e : Context} {k : Code} {c : Scope} {set now : List Bool} {ws out : Row Operand} → Subset set now → CodeTyped m c set k ws out
      → Within m K us e c now out → Onward m K us e ws k
  onward still h w = λ s vs u v. goes_on u still v (code_alone h) w
