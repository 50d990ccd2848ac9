-- How many functions of the host the files name.
use Rattle.std.proofs.Common.{◌≡◌, ℕ, ◌+◌, ◌<◌, ◌≤◌, List, [], ◌∷◌, length, drop, get_or, refl, ap, ◌∙◌, length-append}
use Rattle.std.proofs.lemmas.List.{at_drop_more, at_drop_all, length-map}
use Rattle.w_syntax.specs.declared.module.Module.{Module}
use Rattle.w_linked.specs.Definitions.{type_count, of_files, own_functions, definitions, hosts}

-- how many functions of their own the files have
unfoldable pub own_count : List Module → ℕ
own_count [] = 0
own_count (m ∷ ms) = length m.functions + own_count ms

-- of a list of the indices of their types
own_counted : (n : ℕ) (ms : List Module) → length (of_files own_functions n ms) ≡ own_count ms
unfolding own_count
own_counted n [] = refl
own_counted n (m ∷ ms) =
    length-append (own_functions n m) (of_files own_functions (n + type_count m) ms)
    ∙ ap (λ (k : ℕ). k + length (of_files own_functions (n + type_count m) ms)) (length-map m.functions (λ (x : ℕ). n + x))
    ∙ ap (λ (k : ℕ). length m.functions + k) (own_counted (n + type_count m) ms)

-- all functions are those of the host and the files' own
pub all_functions : (ms : List Module) → length (definitions ms).functions ≡ hosts ms + own_count ms
all_functions ms = length-append _ (of_files own_functions 0 ms) ∙ ap (λ (k : ℕ). hosts ms + k) (own_counted 0 ms)

-- those of a file more
pub own_next : (ms : List Module) (i : ℕ) (d : Module) → i < length ms → own_count (drop i ms) ≡ length (get_or ms i d).functions + own_count (drop (i + 1) ms)
unfolding own_count
own_next ms i d lt = at_drop_more own_count ms i d lt

-- no file is left
pub own_none : (ms : List Module) (i : ℕ) → length ms ≤ i → own_count (drop i ms) ≡ 0
unfolding own_count
own_none ms i past = at_drop_all own_count ms i past
