-- Locals as the tree keeps them: neighbouring runs of one type joined, and runs of none dropped.
use Rattle.std.specs.Prelude.{ℕ, ◌+◌, ◌^◌, Bool, true, false, cond, not, ◌&&◌, nat_eq, nat_lt, Option, Some, None, List, [], ◌∷◌}
use Rattle.w_types.specs.declared.types.HeapType.{HeapType}
use Rattle.w_types.specs.declared.types.HeapType.TheVariants as heap
use Rattle.w_types.specs.declared.types.ValType.{ValType}
use Rattle.w_types.specs.declared.types.ValType.TheVariants as val
use Rattle.w_syntax.specs.declared.locals.LocalRun.{LocalRun}

abbrev pub same_heap : HeapType → HeapType → Bool
same_heap heap.Func heap.Func = true
same_heap heap.NoFunc heap.NoFunc = true
same_heap heap.Cont heap.Cont = true
same_heap heap.NoCont heap.NoCont = true
same_heap (heap.Index x) (heap.Index y) = nat_eq x y
same_heap _ _ = false

abbrev pub same_kind : ValType → ValType → Bool
same_kind val.I32 val.I32 = true
same_kind val.I64 val.I64 = true
same_kind (val.Ref r) (val.Ref s) = cond r.nullable s.nullable (not s.nullable) && same_heap r.heap s.heap
same_kind _ _ = false

-- one run before others that are joined
unfoldable pub join : LocalRun → List LocalRun → List LocalRun
join l [] = cond (nat_eq l.count 0) [] (l ∷ [])
join l (m ∷ ms) = cond (nat_eq l.count 0) (m ∷ ms) (cond (same_kind l.kind m.kind) (record { count = l.count + m.count; kind = m.kind } ∷ ms) (l ∷ m ∷ ms))

-- these before others that are joined
unfoldable pub join_all : List LocalRun → List LocalRun → List LocalRun
join_all [] acc = acc
join_all (l ∷ ls) acc = join l (join_all ls acc)

abbrev pub joined : List LocalRun → List LocalRun
joined ls = join_all ls []

-- how many locals there are
unfoldable pub total : List LocalRun → ℕ
total [] = 0
total (l ∷ ls) = l.count + total ls

-- what the tree keeps of runs, where there are fewer than 2^32 locals
abbrev pub locals_of_runs : List LocalRun → Option (List LocalRun)
locals_of_runs ls = cond (nat_lt (total ls) (2 ^ 32)) (Some (joined ls)) None
