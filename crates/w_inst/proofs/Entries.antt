-- The entry, export by export.
use Rattle.std.proofs.Common.{◌≡◌, ℕ, ◌+◌, ◌<◌, List, length, drop, get_or, refl, sym, ◌∙◌}
use Rattle.std.specs.Prelude.{true, false, codes}
use Rattle.std.specs.Str.{bytes_eq}
use Rattle.std.proofs.lemmas.List.{at_drop_more}
use Rattle.w_syntax.specs.declared.module.Export.{Export}
use Rattle.w_syntax.specs.declared.module.Module.{Module}
use Rattle.w_reduce.specs.Start.{entry_in, entry_of}

-- this export has the name
pub entry_here : (m : Module) (xs : List Export) (i : ℕ) (d : Export) → i < length xs → bytes_eq (get_or xs i d).name (codes "main") ≡ true
    → entry_in m (drop i xs) ≡ entry_of m (get_or xs i d).index
entry_here m xs i d h e = at_drop_more (entry_in m) xs i d h ∙ rw e refl

-- it has another name
pub entry_later : (m : Module) (xs : List Export) (i : ℕ) (d : Export) → i < length xs → bytes_eq (get_or xs i d).name (codes "main") ≡ false
    → entry_in m (drop (i + 1) xs) ≡ entry_in m (drop i xs)
entry_later m xs i d h e = sym (at_drop_more (entry_in m) xs i d h ∙ rw e refl)
