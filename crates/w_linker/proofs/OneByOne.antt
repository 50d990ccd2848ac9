-- Files one by one: the last, their start functions, imports of the host, and limits.
use Rattle.std.proofs.Common.{◌≡◌, ℕ, suc, ◌+◌, ◌-◌, ◌<◌, List, [], ◌∷◌, ◌++◌, length, drop, get_or, Option, Some, None, slice_get, refl, sym, ap, ◌∙◌, append_assoc, append-nil, arith}
use Rattle.std.specs.Prelude.{All, codes, if◌then◌else◌}
use Rattle.std.specs.Str.{bytes_eq}
use Rattle.std.proofs.lemmas.List.{drop_more}
use Rattle.std.proofs.lemmas.List.Elements.{All-nil, All-cons, All-head, All-tail}
use Rattle.w_syntax.specs.declared.module.ExternType.{ExternType}
use Rattle.w_syntax.specs.declared.module.ExternType.TheVariants as imported
use Rattle.w_syntax.specs.declared.module.Import.{Import}
use Rattle.w_syntax.specs.declared.module.Module.{Module}
use Rattle.w_reduce.specs.declared.limit.StartLimit.{StartLimit}
use Rattle.w_tables.specs.declared.entries.Printer.{Printer}
use Rattle.w_reduce.specs.Imports.{printer_as, printer_of}
use Rattle.w_reduce.specs.Start.{entry, exceeded}
use Rattle.w_link.specs.Resolved.{Instance, at}
use Rattle.w_linked.specs.Linked.{all_starts, host_import, host_imports}
use Rattle.w_linked.specs.Starting.{last_entry, or_next, first_exceeded}
use Rattle.w_placing.specs.Placing.{zipped}
use Rattle.w_linker.specs.Parts.{in_last_of}

-- ## Two lists

-- what holds of the items of both holds of those of the first
pub all_front : {A : Type 0} (P : A → Type 0) (xs ys : List A) → All P (xs ++ ys) → All P xs
all_front P [] ys h = All-nil P
all_front P (x ∷ xs) ys h = All-cons P x xs (All-head P x (xs ++ ys) h) (all_front P xs ys (All-tail P x (xs ++ ys) h))

-- and of the second
pub all_behind : {A : Type 0} (P : A → Type 0) (xs ys : List A) → All P (xs ++ ys) → All P ys
all_behind P [] ys h = h
all_behind P (x ∷ xs) ys h = all_behind P xs ys (All-tail P x (xs ++ ys) h)

-- ## The last

-- the last of a list
pub last_entry_is : (ms : List Module) (m : Module) → slice_get ms (length ms - 1) ≡ Some m → entry m ≡ last_entry ms
last_entry_is [] m e = absurd (cc)
last_entry_is (n ∷ []) m e = let same : n ≡ m = (let d = sym (ap (slice_get (n ∷ [])) (let k : length (n ∷ []) - 1 ≡ 0 = omega arith in k)) ∙ e in cc) in ap entry (sym same)
last_entry_is (n ∷ o ∷ ms) m e =
    last_entry_is (o ∷ ms) m (sym (ap (slice_get (n ∷ o ∷ ms)) (let k : length (n ∷ o ∷ ms) - 1 ≡ suc (length (o ∷ ms) - 1) = omega arith in k)) ∙ e)

pub in_last_there : (is : List Instance) (i : Instance) (x : ℕ) → slice_get is (length is - 1) ≡ Some i → at i.functions x ≡ in_last_of is x
in_last_there [] i x e = absurd (cc)
in_last_there (j ∷ []) i x e = let same : j ≡ i = (let d = sym (ap (slice_get (j ∷ [])) (let k : length (j ∷ []) - 1 ≡ 0 = omega arith in k)) ∙ e in cc) in ap (λ (i : Instance). at i.functions x) (sym same)
in_last_there (j ∷ k ∷ is) i x e =
    in_last_there (k ∷ is) i x (sym (ap (slice_get (j ∷ k ∷ is)) (let n : length (j ∷ k ∷ is) - 1 ≡ suc (length (k ∷ is) - 1) = omega arith in n)) ∙ e)

-- ## Start functions

-- those from a place on
abbrev pub starts_from : List Module → List Instance → ℕ → List ℕ
starts_from ms is i = all_starts (zipped (drop i ms) (drop i is))

-- ## Imports

printer_as_same : (m : Module) (others : List Import) (name : List ℕ) (e : ExternType) → printer_as (record m { imports = others }) name e ≡ printer_as m name e
printer_as_same m others name (imported.Func x) = refl
printer_as_same m others name (imported.Table t) = refl
printer_as_same m others name (imported.Memory l) = refl
printer_as_same m others name (imported.Global g) = refl
printer_as_same m others name (imported.Tag t) = refl

-- of a module its types alone decide which imports are the host's
printer_same : (m : Module) (others : List Import) (i : Import) → printer_of (record m { imports = others }) i ≡ printer_of m i
printer_same m others i = ap (λ (o : Option Printer). if bytes_eq i.module_name (codes "host") then o else None) (printer_as_same m others i.item_name i.kind)

pub host_imports_same : (n : ℕ) (m : Module) (others is : List Import) → host_imports n (record m { imports = others }) is ≡ host_imports n m is
host_imports_same n m others [] = refl
host_imports_same n m others (i ∷ is) =
    ap (λ (o : Option Printer). host_import n i i.kind o ++ host_imports n (record m { imports = others }) is) (printer_same m others i)
    ∙ ap (λ (l : List Import). host_import n i i.kind (printer_of m i) ++ l) (host_imports_same n m others is)

-- one more at the end
pub host_imports_more : (n : ℕ) (m : Module) (is : List Import) (i : Import) → host_imports n m (is ++ i ∷ []) ≡ host_imports n m is ++ host_import n i i.kind (printer_of m i)
host_imports_more n m [] i = append-nil (host_import n i i.kind (printer_of m i))
host_imports_more n m (j ∷ is) i =
    ap (λ (l : List Import). host_import n j j.kind (printer_of m j) ++ l) (host_imports_more n m is i)
    ∙ sym (append_assoc (host_import n j j.kind (printer_of m j)) (host_imports n m is) (host_import n i i.kind (printer_of m i)))

-- ## Limits

-- the file at a place
pub exceeded_here : (ms : List Module) (i : ℕ) (m : Module) (o : Option StartLimit) → i < length ms → m ≡ get_or ms i m → exceeded m ≡ o
    → first_exceeded i (drop i ms) ≡ or_next i o (first_exceeded (suc i) (drop (i + 1) ms))
exceeded_here ms i m o lt e is =
    ap (first_exceeded i) (drop_more ms i m lt ∙ ap (λ (x : Module). x ∷ drop (i + 1) ms) (sym e)) ∙ ap (λ (x : Option StartLimit). or_next i x (first_exceeded (suc i) (drop (i + 1) ms))) is
