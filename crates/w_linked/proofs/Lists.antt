-- The lists of the linked module are those of what its files define.
use Rattle.std.proofs.Common.{◌≡◌, ℕ, ◌+◌, List, [], ◌∷◌, ◌++◌, map, flat_map, Option, Some, None, refl, ap, ◌∙◌}
use Rattle.std.proofs.lemmas.List.{map-append}
use Rattle.std.proofs.lemmas.Grind.{flat_map-append}
use Rattle.w_syntax.specs.declared.module.ExternType.{ExternType}
use Rattle.w_syntax.specs.declared.module.ExternType.TheVariants as imported
use Rattle.w_syntax.specs.declared.module.GlobalType.{GlobalType}
use Rattle.w_syntax.specs.declared.module.GlobalVariable.{GlobalVariable}
use Rattle.w_syntax.specs.declared.module.Import.{Import}
use Rattle.w_syntax.specs.declared.module.Limits.{Limits}
use Rattle.w_syntax.specs.declared.module.Module.{Module}
use Rattle.w_syntax.specs.declared.module.Table.{Table}
use Rattle.w_syntax.specs.declared.module.TableType.{TableType}
use Rattle.w_syntax.specs.declared.module.Tag.{Tag}
use Rattle.w_rules.specs.Spaces.{as_function, as_table, as_memory, as_global, as_tag, functions_of, tables_of, memories_of, globals_of, tags_of}
use Rattle.w_tables.specs.declared.entries.Printer.{Printer}
use Rattle.w_reduce.specs.Imports.{printer_of}
use Rattle.w_link.specs.Resolved.{Instance}
use Rattle.w_linked.specs.Definitions.{host_type, host_types, own_tables, own_globals}
use Rattle.w_linked.specs.Imports.{Placed}
use Rattle.w_linked.specs.Linked.{host_import, host_imports, of_placed, linked}
use Rattle.w_linked.proofs.Counting.{hosts_in, tables_in, globals_in, tags_in}
use Rattle.w_linked.proofs.SoundFunctions.{functions_in}

-- ## Lists made of lists

module _ {A B : Type 0} (f : Instance → Module → List A) where
  flat_of_placed : (h : A → List B) (ps : List Placed) → flat_map h (of_placed f ps) ≡ of_placed (λ i m. flat_map h (f i m)) ps
  flat_of_placed h [] = refl
  flat_of_placed h (p ∷ ps) =
      flat_map-append h (f p.instance p.source) (of_placed f ps) ∙ ap (λ (l : List B). flat_map h (f p.instance p.source) ++ l) (flat_of_placed h ps)

  map_of_placed : (h : A → B) (ps : List Placed) → map h (of_placed f ps) ≡ of_placed (λ i m. map h (f i m)) ps
  map_of_placed h [] = refl
  map_of_placed h (p ∷ ps) = map-append h (f p.instance p.source) (of_placed f ps) ∙ ap (λ (l : List B). map h (f p.instance p.source) ++ l) (map_of_placed h ps)

same_of_placed : {A : Type 0} (f g : Instance → Module → List A) → ((i : Instance) (m : Module) → f i m ≡ g i m) → (ps : List Placed) → of_placed f ps ≡ of_placed g ps
same_of_placed f g e [] = refl
same_of_placed {A} f g e (p ∷ ps) =
    ap (λ (l : List A). l ++ of_placed f ps) (e p.instance p.source) ∙ ap (λ (l : List A). g p.instance p.source ++ l) (same_of_placed f g e ps)

none_of_placed : {A : Type 0} (f : Instance → Module → List A) → ((i : Instance) (m : Module) → f i m ≡ []) → (ps : List Placed) → of_placed f ps ≡ []
none_of_placed f e [] = refl
none_of_placed f e (p ∷ ps) = rw (e p.instance p.source) (none_of_placed f e ps)

-- what is made of what was made
pub map_twice : {A B C : Type 0} (f : A → B) (g : B → C) (h : A → C) → ((x : A) → g (f x) ≡ h x) → (xs : List A) → map g (map f xs) ≡ map h xs
map_twice f g h e [] = refl
map_twice f g h e (x ∷ xs) = rw (e x, map_twice f g h e xs) refl

-- ## What the linked module imports: functions of the host

host_function : (n : ℕ) (i : Import) (e : ExternType) (o : Option Printer) → flat_map (λ (j : Import). as_function j.kind) (host_import n i e o) ≡ host_type n e o
host_function n i (imported.Func x) (Some p) = refl
host_function n i (imported.Func x) None = refl
host_function n i (imported.Table t) o = refl
host_function n i (imported.Memory l) o = refl
host_function n i (imported.Global g) o = refl
host_function n i (imported.Tag t) o = refl

host_functions : (n : ℕ) (m : Module) (is : List Import) → flat_map (λ (j : Import). as_function j.kind) (host_imports n m is) ≡ host_types n m is
host_functions n m [] = refl
host_functions n m (i ∷ is) =
    flat_map-append (λ (j : Import). as_function j.kind) (host_import n i i.kind (printer_of m i)) (host_imports n m is)
    ∙ ap (λ (l : List ℕ). l ++ flat_map (λ (j : Import). as_function j.kind) (host_imports n m is)) (host_function n i i.kind (printer_of m i))
    ∙ ap (λ (l : List ℕ). host_type n i.kind (printer_of m i) ++ l) (host_functions n m is)

module _ {A : Type 0} (f : ExternType → List A) (none : (x : ℕ) → f (imported.Func x) ≡ []) where
  no_other : (n : ℕ) (i : Import) (e : ExternType) (o : Option Printer) → flat_map (λ (j : Import). f j.kind) (host_import n i e o) ≡ []
  no_other n i (imported.Func x) (Some p) = rw (none (n + x)) refl
  no_other n i (imported.Func x) None = refl
  no_other n i (imported.Table t) o = refl
  no_other n i (imported.Memory l) o = refl
  no_other n i (imported.Global g) o = refl
  no_other n i (imported.Tag t) o = refl

  no_others : (n : ℕ) (m : Module) (is : List Import) → flat_map (λ (j : Import). f j.kind) (host_imports n m is) ≡ []
  no_others n m [] = refl
  no_others n m (i ∷ is) =
      flat_map-append (λ (j : Import). f j.kind) (host_import n i i.kind (printer_of m i)) (host_imports n m is)
      ∙ ap (λ (l : List A). l ++ flat_map (λ (j : Import). f j.kind) (host_imports n m is)) (no_other n i i.kind (printer_of m i))
      ∙ no_others n m is

  -- the linked module imports nothing else
  pub none_imported : (ps : List Placed) → flat_map (λ (j : Import). f j.kind) (linked ps).imports ≡ []
  none_imported ps =
      flat_of_placed (λ i m. host_imports i.types m m.imports) (λ (j : Import). f j.kind) ps
      ∙ none_of_placed (λ i m. flat_map (λ (j : Import). f j.kind) (host_imports i.types m m.imports)) (λ i m. no_others i.types m m.imports) ps

-- ## The lists

-- the types of functions: those of the host in front
pub functions_are : (ps : List Placed) → functions_of (linked ps) ≡ of_placed hosts_in ps ++ of_placed functions_in ps
functions_are ps =
    ap (λ (l : List ℕ). l ++ of_placed functions_in ps)
    (flat_of_placed (λ i m. host_imports i.types m m.imports) (λ (j : Import). as_function j.kind) ps
    ∙ same_of_placed (λ i m. flat_map (λ (j : Import). as_function j.kind) (host_imports i.types m m.imports)) hosts_in (λ i m. host_functions i.types m m.imports) ps)

abbrev pub table_types_in : Instance → Module → List TableType
table_types_in i m = own_tables i.types m

abbrev pub global_types_in : Instance → Module → List GlobalType
global_types_in i m = own_globals i.types m

-- tables
pub tables_are : (ps : List Placed) → tables_of (linked ps) ≡ of_placed table_types_in ps
tables_are ps =
    ap (λ (l : List TableType). l ++ map (λ (t : Table). t.kind) (linked ps).tables) (none_imported as_table (λ x. refl) ps)
    ∙ map_of_placed tables_in (λ (t : Table). t.kind) ps
    ∙ same_of_placed (λ i m. map (λ (t : Table). t.kind) (tables_in i m)) table_types_in (λ i m. map_twice _ (λ (t : Table). t.kind) _ (λ t. refl) m.tables) ps

-- memories
pub memories_are : (ps : List Placed) → memories_of (linked ps) ≡ (linked ps).memories
memories_are ps = ap (λ (l : List Limits). l ++ (linked ps).memories) (none_imported as_memory (λ x. refl) ps)

-- globals
pub globals_are : (ps : List Placed) → globals_of (linked ps) ≡ of_placed global_types_in ps
globals_are ps =
    ap (λ (l : List GlobalType). l ++ map (λ (g : GlobalVariable). g.kind) (linked ps).globals) (none_imported as_global (λ x. refl) ps)
    ∙ map_of_placed globals_in (λ (g : GlobalVariable). g.kind) ps
    ∙ same_of_placed (λ i m. map (λ (g : GlobalVariable). g.kind) (globals_in i m)) global_types_in (λ i m. map_twice _ (λ (g : GlobalVariable). g.kind) _ (λ g. refl) m.globals) ps

-- tags
pub tags_are : (ps : List Placed) → tags_of (linked ps) ≡ of_placed tags_in ps
tags_are ps = ap (λ (l : List Tag). l ++ (linked ps).tags) (none_imported as_tag (λ x. refl) ps)
