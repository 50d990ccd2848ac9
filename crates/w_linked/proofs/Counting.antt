-- How many of each thing the files before one define, and where a file stands.
use Rattle.std.proofs.Common.{◌≡◌, ℕ, ◌+◌, List, [], ◌∷◌, ◌++◌, map, length, refl, sym, ap, subst, ◌∙◌, append_assoc, append-nil, arith}
use Rattle.std.proofs.lemmas.List.{length-append, length-map}
use Rattle.w_types.specs.declared.types.RecGroup.{RecGroup}
use Rattle.w_types.specs.Groups.{subtypes_of, composite_of}
use Rattle.w_syntax.specs.declared.module.Data.{Data}
use Rattle.w_syntax.specs.declared.module.Elem.{Elem}
use Rattle.w_syntax.specs.declared.module.GlobalVariable.{GlobalVariable}
use Rattle.w_syntax.specs.declared.module.Limits.{Limits}
use Rattle.w_syntax.specs.declared.module.Module.{Module}
use Rattle.w_syntax.specs.declared.module.Table.{Table}
use Rattle.w_syntax.specs.declared.module.Tag.{Tag}
use Rattle.w_canon.specs.Classed.{count}
use Rattle.w_canon.proofs.Places.{count-append}
use Rattle.w_link.specs.Shifted.{group_shifted}
use Rattle.w_link.specs.Resolved.{Instance}
use Rattle.w_link.proofs.ShiftedTypes.{shifted_count}
use Rattle.w_link.specs.Items.{tag_shifted, resolved_table, resolved_global, resolved_elem, resolved_data}
use Rattle.w_linked.specs.Definitions.{Definitions, host_types}
use Rattle.w_linked.specs.Imports.{TypeTests, Address, Placed}
use Rattle.w_linked.specs.Linked.{Before, and_file, instance_of, of_placed}
use Rattle.w_linked.proofs.ImportsFit.{ImportsFit, imports_fit, hosts_counted}
use Rattle.w_linked.proofs.Placings.{Places, no_file, a_file}
use Rattle.w_linked.proofs.SoundFunctions.{of_both, functions_in}

-- ## What each file gives to the lists of all

abbrev pub groups_in : Instance → Module → List RecGroup
groups_in i m = map (group_shifted i.types) m.types

abbrev pub hosts_in : Instance → Module → List ℕ
hosts_in i m = host_types i.types m m.imports

abbrev pub tables_in : Instance → Module → List Table
tables_in i m = map (resolved_table i) m.tables

abbrev pub memories_in : Instance → Module → List Limits
memories_in i m = m.memories

abbrev pub globals_in : Instance → Module → List GlobalVariable
globals_in i m = map (resolved_global i) m.globals

abbrev pub tags_in : Instance → Module → List Tag
tags_in i m = map (tag_shifted i.types) m.tags

abbrev pub elements_in : Instance → Module → List Elem
elements_in i m = map (resolved_elem i) m.elements

abbrev pub datas_in : Instance → Module → List Data
datas_in i m = map (resolved_data i) m.datas

-- these are the numbers of what some files define, where the functions of the host are so many
pub record CountsOf (hosts : ℕ) (front : List Placed) (b : Before) : Type 0 where
  pub types : b.types ≡ count (of_placed groups_in front)
  pub printers : b.printers ≡ length (of_placed hosts_in front)
  pub functions : b.functions ≡ hosts + length (of_placed functions_in front)
  pub tables : b.tables ≡ length (of_placed tables_in front)
  pub memories : b.memories ≡ length (of_placed memories_in front)
  pub globals : b.globals ≡ length (of_placed globals_in front)
  pub tags : b.tags ≡ length (of_placed tags_in front)
  pub elements : b.elements ≡ length (of_placed elements_in front)
  pub datas : b.datas ≡ length (of_placed datas_in front)

-- one file more
pub length_more : {A : Type 0} (f : Instance → Module → List A) (front : List Placed) (p : Placed)
    → length (of_placed f (front ++ p ∷ [])) ≡ length (of_placed f front) + length (f p.instance p.source)
length_more {A} f front p =
    ap length (of_both f front (p ∷ [])) ∙ length-append (of_placed f front) (f p.instance p.source ++ [])
    ∙ ap (λ (l : List A). length (of_placed f front) + length l) (append-nil (f p.instance p.source))

count_more : (front : List Placed) (p : Placed) → count (of_placed groups_in (front ++ p ∷ [])) ≡ count (of_placed groups_in front) + count p.source.types
count_more front p =
    ap count (of_both groups_in front (p ∷ [])) ∙ count-append (of_placed groups_in front) (groups_in p.instance p.source ++ [])
    ∙ ap (λ (l : List RecGroup). count (of_placed groups_in front) + count l) (append-nil (groups_in p.instance p.source))
    ∙ ap (λ (k : ℕ). count (of_placed groups_in front) + k) (shifted_count p.instance.types p.source.types)

module _ (tests : TypeTests) (d : Definitions) (hosts : ℕ) where
  counts_more : (front : List Placed) (b : Before) (m : Module) (found : List Address) (k : ℕ)
      → ImportsFit tests d front m b.types b.printers m.imports found k → CountsOf hosts front b
      → CountsOf hosts (front ++ record { source = m; instance = instance_of b found m } ∷ []) (and_file b k m)
  counts_more front b m found k fit c =
      let i = instance_of b found m in
      let p : Placed = record { source = m; instance = i } in
      record {
        types = omega (arith, c.types, count_more front p, length-map (subtypes_of m.types) composite_of);
        printers = omega (arith, c.printers, hosts_counted tests d front m b.types fit, length_more hosts_in front p);
        functions = omega (arith, c.functions, length_more functions_in front p, length-map m.functions (λ (x : ℕ). b.types + x));
        tables = omega (arith, c.tables, length_more tables_in front p, length-map m.tables (resolved_table i));
        memories = omega (arith, c.memories, length_more memories_in front p);
        globals = omega (arith, c.globals, length_more globals_in front p, length-map m.globals (resolved_global i));
        tags = omega (arith, c.tags, length_more tags_in front p, length-map m.tags (tag_shifted b.types));
        elements = omega (arith, c.elements, length_more elements_in front p, length-map m.elements (resolved_elem i));
        datas = omega (arith, c.datas, length_more datas_in front p, length-map m.datas (resolved_data i));
      }

  -- ## Where a file stands

  -- behind these files
  pub record IsAt (front : List Placed) (p : Placed) : Type 0 where
    pub before : Before
    pub addresses : List Address
    pub printers : ℕ
    pub fit : ImportsFit tests d front p.source before.types before.printers p.source.imports addresses printers
    pub instance_is : p.instance ≡ instance_of before addresses p.source
    pub counts : CountsOf hosts front before

  cons_nil : {A : Type 0} (x : A) (front : List A) (back : List A) → [] ≡ front ++ x ∷ back → ⊥
  cons_nil x [] back e = cc
  cons_nil x (y ∷ front) back e = cc

  -- each file has its place
  pub is_at : {earlier : List Placed} {b : Before} {ms : List Module} {ps : List Placed} → Places tests d earlier b ms ps → CountsOf hosts earlier b
      → (front back : List Placed) (p : Placed) → ps ≡ front ++ p ∷ back → IsAt (earlier ++ front) p
  is_at no_file c front back p e = absurd (cons_nil p front back e)
  is_at {earlier = earlier} {b = b} (a_file {m = m} found k is h) c [] back p e =
      let q : Placed = record { source = m; instance = instance_of b found m } in
      let one : q ≡ p = cc in
      let here : IsAt earlier q = record {
        before = b;
        addresses = found;
        printers = k;
        fit = imports_fit tests d earlier m b.types b.printers m.imports found k is;
        instance_is = refl;
        counts = c;
      } in
      subst (IsAt (earlier ++ [])) one (subst (λ (l : List Placed). IsAt l q) (sym (append-nil earlier)) here)
  is_at {earlier = earlier} {b = b} (a_file {m = m} {ps = ps} found k is h) c (x ∷ front) back p e =
      let q : Placed = record { source = m; instance = instance_of b found m } in
      let one : q ≡ x = cc in
      let rest : ps ≡ front ++ p ∷ back = cc in
      let fit = imports_fit tests d earlier m b.types b.printers m.imports found k is in
      let there = is_at h (counts_more earlier b m found k fit c) front back p rest in
      subst (λ (y : Placed). IsAt (earlier ++ y ∷ front) p) one (subst (λ (l : List Placed). IsAt l p) (append_assoc earlier (q ∷ []) front) there)
