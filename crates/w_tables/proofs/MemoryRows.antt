-- Copies between two memories, of so few bytes as no run has.
use Rattle.std.proofs.Common.{◌≡◌, ℕ, List, [], ◌∷◌, Some, None, refl}
use Rattle.w_memory.specs.Memory.{Memory, init}
use Rattle.w_tables.specs.Store.{Store}
use Rattle.w_tables.specs.Operations.{empty, memory_copy}

-- a memory of these bytes
abbrev of_bytes : List ℕ → Memory
of_bytes bytes = record { bytes = bytes; max = None }

-- a store of two memories
abbrev two : List ℕ → List ℕ → Store
two first second = record empty { memories = of_bytes first ∷ of_bytes second ∷ [] }

abbrev store : Store
store = two (10 ∷ 11 ∷ []) (20 ∷ 21 ∷ 22 ∷ [])

copied_from_the_second : memory_copy store 0 1 0 1 2 ≡ (Some tt, two (21 ∷ 22 ∷ []) (20 ∷ 21 ∷ 22 ∷ []))
unfolding memory_copy init
copied_from_the_second = refl

copied_from_the_first : memory_copy store 1 0 1 0 2 ≡ (Some tt, two (10 ∷ 11 ∷ []) (20 ∷ 10 ∷ 11 ∷ []))
unfolding memory_copy init
copied_from_the_first = refl

copied_within_the_second : memory_copy store 1 1 1 0 2 ≡ (Some tt, two (10 ∷ 11 ∷ []) (20 ∷ 20 ∷ 21 ∷ []))
unfolding memory_copy init
copied_within_the_second = refl

not_copied_past_the_first : memory_copy store 0 1 1 0 2 ≡ (None, store)
unfolding memory_copy init
not_copied_past_the_first = refl

not_copied_from_past_the_first : memory_copy store 1 0 0 1 2 ≡ (None, store)
unfolding memory_copy init
not_copied_from_past_the_first = refl
