-- What exports are found by.
use Rattle.std.specs.Prelude.{◌≡◌, ℕ, List, [], ◌∷◌, Option, Some, None, if◌then◌else◌}
use Rattle.std.specs.Borrow.{Bor}
use Rattle.std.specs.BTreeMap.{BTreeMap}
use Rattle.std.specs.BTreeMap as tree
use Rattle.std.specs.Cmp.Lexicographic.{slice_cmp}
use Rattle.std.specs.Ordering.{nat_cmp}
use Rattle.std.specs.Str.{bytes_eq}
use Rattle.w_syntax.specs.declared.module.Export.{Export}
use Rattle.w_syntax.specs.declared.module.ExternIndex.{ExternIndex}

-- what the first export of this name exports
abbrev pub index_named : List Export → List ℕ → Option ExternIndex
index_named [] name = None
index_named (e ∷ es) name = if bytes_eq e.name name then Some e.index else index_named es name

abbrev pub found : BTreeMap (Bor (List ℕ)) ExternIndex → List ℕ → Option ExternIndex
found m x = tree.get_by (λ (k : Bor (List ℕ)). slice_cmp nat_cmp x k.now) m

-- each name finds what it exports
abbrev pub Finds : BTreeMap (Bor (List ℕ)) ExternIndex → List Export → Type 0
Finds m es = (x : List ℕ) → found m x ≡ index_named es x
