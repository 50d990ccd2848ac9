-- The functions of the host, import by import.
use Rattle.std.proofs.Common.{◌≡◌, ℕ, ◌+◌, ◌<◌, List, [], ◌∷◌, ◌++◌, length, drop, get_or, refl, sym, ap, ◌∙◌}
use Rattle.std.specs.Prelude.{Option, Some, None}
use Rattle.std.proofs.lemmas.List.{at_drop_more}
use Rattle.w_tables.specs.declared.entries.Printer.{Printer}
use Rattle.w_syntax.specs.declared.module.Import.{Import}
use Rattle.w_syntax.specs.declared.module.Module.{Module}
use Rattle.w_reduce.specs.Imports.{Found, All, Missing, and_first, printer_of, printers_of}

-- what was found behind these
abbrev pub behind : List Printer → Found → Found
behind [] found = found
behind (p ∷ ps) found = and_first (Some p) (behind ps found)

-- one more
behind_more : (ps : List Printer) (p : Printer) (found : Found) → behind (ps ++ p ∷ []) found ≡ behind ps (and_first (Some p) found)
behind_more [] p found = refl
behind_more (q ∷ ps) p found = ap (and_first (Some q)) (behind_more ps p found)

-- no more
behind_all : (ps : List Printer) → behind ps (All []) ≡ All ps
behind_all [] = refl
behind_all (p ∷ ps) = ap (and_first (Some p)) (behind_all ps)

-- one is missing
behind_missing : (ps : List Printer) → behind ps (Missing 0) ≡ Missing (length ps)
behind_missing [] = refl
behind_missing (p ∷ ps) = ap (and_first (Some p)) (behind_missing ps)

-- the import at this place
import_at : (m : Module) (xs : List Import) (i : ℕ) (d : Import) (r : Option Printer) → i < length xs → r ≡ printer_of m (get_or xs i d)
    → printers_of m (drop i xs) ≡ and_first r (printers_of m (drop (i + 1) xs))
import_at m xs i d r h e = at_drop_more (printers_of m) xs i d h ∙ ap (λ (o : Option Printer). and_first o (printers_of m (drop (i + 1) xs))) (sym e)

-- it names a function
pub found_more : (m : Module) (xs : List Import) (i : ℕ) (d : Import) (ps qs : List Printer) (p : Printer) (all : Found) → i < length xs
    → Some p ≡ printer_of m (get_or xs i d) → qs ≡ ps ++ p ∷ [] → all ≡ behind ps (printers_of m (drop i xs))
    → all ≡ behind qs (printers_of m (drop (i + 1) xs))
found_more m xs i d ps qs p all h e f a =
    a ∙ ap (behind ps) (import_at m xs i d (Some p) h e) ∙ sym (behind_more ps p (printers_of m (drop (i + 1) xs)))
    ∙ ap (λ (l : List Printer). behind l (printers_of m (drop (i + 1) xs))) (sym f)

-- it names none
pub found_none : (m : Module) (xs : List Import) (i : ℕ) (d : Import) (ps : List Printer) (n : ℕ) (all : Found) → i < length xs
    → None ≡ printer_of m (get_or xs i d) → n ≡ length ps → all ≡ behind ps (printers_of m (drop i xs)) → all ≡ Missing n
found_none m xs i d ps n all h e l a = a ∙ ap (behind ps) (import_at m xs i d None h e) ∙ behind_missing ps ∙ ap Missing (sym l)

-- all of them are found
pub found_all : (m : Module) (xs : List Import) (i : ℕ) (ps : List Printer) (all : Found) → drop i xs ≡ []
    → all ≡ behind ps (printers_of m (drop i xs)) → all ≡ All ps
found_all m xs i ps all e a = a ∙ ap (λ (l : List Import). behind ps (printers_of m l)) e ∙ behind_all ps
