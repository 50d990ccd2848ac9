-- Function calls (Core, execution, function calls).
use Rattle.std.specs.Prelude.{ℕ, List, [], ◌∷◌, ◌++◌, length, map, flat_map, replicate, Option, Some, slice_get}
use Rattle.std.specs.Option.{option_map}
use Rattle.w_types.specs.declared.types.FuncType.{FuncType}
use Rattle.lists.specs.Rows.{Row, ε, ◌⧺◌, listed}
use Rattle.w_syntax.specs.Code.{Done}
use Rattle.w_syntax.specs.Functions.{type_of_function, code_of_function}
use Rattle.w_syntax.specs.declared.locals.LocalRun.{LocalRun}
use Rattle.w_tables.specs.declared.entries.FuncEntry.{FuncEntry}
use Rattle.w_tables.specs.declared.entries.FuncEntry.TheVariants as entry
use Rattle.w_tables.specs.declared.entries.Printer.{Printer}
use Rattle.w_tables.specs.declared.entries.Printer.TheVariants as printer
use Rattle.w_reduce.specs.Values.{Val, default_of}
use Rattle.w_reduce.specs.Store.{Store}
use Rattle.w_reduce.specs.Terms.{Rest, rest_of, Label, Frame, Handle, Context}
use Rattle.w_reduce.specs.Program.{Program}
use Rattle.w_reduce.specs.Printed.{printed_i32, printed_i64, printed_byte}
use Rattle.w_reduce.specs.Reduced.{Reduced, Went, Stuck, steps_to, ◌>>=◌, or_stuck, take_values, take_i32, take_i64}

-- what the locals of these runs begin with; a local without a default value is not set
abbrev pub defaults : List LocalRun → List (Option Val)
defaults = flat_map (λ (r : LocalRun). replicate r.count (default_of r.kind))

-- [Step_read/call_ref-func]
-- v^n (invoke a)  ↪  frame_k{v^n, default^t} label_k{} body end end
-- where the function of address a has n parameters, k results, and locals of types t
abbrev pub enter : Program → Store → Context → Row Val → ℕ → Rest → Reduced
enter p s e vs i rest = do
  t ← or_stuck (type_of_function p.source i)
  code ← or_stuck (code_of_function p.source i)
  (below, args) ← take_values (length t.params) vs
  let k = length t.results in
      steps_to s (Label ε k Done Done ∷ Frame below k i (map (λ (v : Val). Some v) (listed args) ++ defaults code.locals) rest ∷ e) ε (rest_of code.body)

-- v (invoke a)  ↪  ε, where the function of address a is the host's, and prints v
abbrev pub print : Store → Context → Row Val → Printer → Rest → Reduced
print s e vs printer.I32 rest = do
  (vs, n) ← take_i32 vs
  Went (printed_i32 n) s (record { around = e; operands = vs; rest = rest })
print s e vs printer.I64 rest = do
  (vs, n) ← take_i64 vs
  Went (printed_i64 n) s (record { around = e; operands = vs; rest = rest })
print s e vs printer.Byte rest = do
  (vs, n) ← take_i32 vs
  Went (printed_byte n) s (record { around = e; operands = vs; rest = rest })

abbrev pub invoked : Program → Store → Context → Row Val → FuncEntry → Rest → Reduced
invoked p s e vs (entry.Own i) rest = enter p s e vs i rest
invoked p s e vs (entry.Printer out) rest = print s e vs out rest

-- (invoke a)
abbrev pub invoke : Program → Store → Context → Row Val → ℕ → Rest → Reduced
invoke p s e vs a rest = do
  f ← or_stuck (slice_get s.functions a)
  invoked p s e vs f rest

-- ## Tail calls (Core, execution, function calls)

-- how many arguments a function takes; one of the host takes what it prints
abbrev pub params_of : Program → FuncEntry → Option ℕ
params_of p (entry.Own i) = option_map (λ (t : FuncType). length t.params) (type_of_function p.source i)
params_of p (entry.Printer out) = Some 1

-- what stands around the innermost frame: the values below it, what comes behind it, and its context
abbrev pub around_frame : Context → (Row Val × Rest × Context → Reduced) → Reduced
around_frame [] go = Stuck
around_frame (Label below n again rest ∷ e) go = around_frame e go
around_frame (Frame below n f locals rest ∷ e) go = go (below, rest, e)
around_frame (Handle below hs rest ∷ e) go = Stuck

-- [Step_read/return_call_ref-frame-addr]
-- frame_k{F} B*[v^n (return_invoke a)] end  ↪  v^n (invoke a), and that is reduced at once
-- where the function of address a has n parameters
abbrev pub return_invoke : Program → Store → Context → Row Val → ℕ → Reduced
return_invoke p s e vs a = do
  f ← or_stuck (slice_get s.functions a)
  n ← or_stuck (params_of p f)
  (_, args) ← take_values n vs
  (below, rest, outer) ← around_frame e
  invoked p s outer (below ⧺ args) f rest
