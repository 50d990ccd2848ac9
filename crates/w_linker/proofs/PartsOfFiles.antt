-- The parts of the files so far, a file more, and the module of all parts.
use Rattle.std.proofs.Common.{◌≡◌, ℕ, ◌<◌, List, [], ◌∷◌, ◌++◌, map, length, get_or, Option, refl, sym, ap, subst₂, ◌∙◌, append-nil, arith}
use Rattle.w_syntax.specs.declared.module.Module.{Module}
use Rattle.w_link.specs.Resolved.{Instance}
use Rattle.w_link.specs.Items.{resolved_export}
use Rattle.w_linked.specs.Imports.{Placed}
use Rattle.w_linked.specs.Linked.{host_imports, of_placed, linked}
use Rattle.w_linked.proofs.Counting.{groups_in, tables_in, memories_in, tags_in, globals_in, elements_in, datas_in}
use Rattle.w_linked.proofs.SoundFunctions.{of_both, functions_in, codes_in}
use Rattle.w_placing.specs.Placing.{zipped}
use Rattle.w_linker.specs.declared.program.Parts as parts
use Rattle.w_linker.specs.Parts.{AddsFile, ArePartsOf, Measured, module_of}
use Rattle.w_linker.proofs.LinkedProgram.{measured_more}

-- a file more
pub zipped_next : (ms : List Module) (is : List Instance) (m : Module) (d : Instance) → length ms < length is
    → zipped (ms ++ m ∷ []) is ≡ zipped ms is ++ record { source = m; instance = get_or is (length ms) d } ∷ []
zipped_next ms [] m d lt = absurd (omega (arith, lt))
zipped_next [] (i ∷ is) m d lt = refl
zipped_next (n ∷ ms) (i ∷ is) m d lt = ap (λ (ps : List Placed). record { source = n; instance = i } ∷ ps) (zipped_next ms is m d (omega (arith, lt)))

-- what it adds to a list
added : {A : Type 0} (f : Instance → Module → List A) (ps : List Placed) (p : Placed) (old new : List A) → old ≡ of_placed f ps → new ≡ old ++ f p.instance p.source
    → new ≡ of_placed f (ps ++ p ∷ [])
added {A} f ps p old new is made =
    made ∙ ap (λ (l : List A). l ++ f p.instance p.source) is
    ∙ ap (λ (l : List A). of_placed f ps ++ l) (sym (append-nil (f p.instance p.source))) ∙ sym (of_both f ps (p ∷ []))

pub parts_more : (ps : List Placed) (p : Placed) (old new : parts.Parts) → ArePartsOf ps old → AddsFile p old new → ArePartsOf (ps ++ p ∷ []) new
parts_more ps p old new h a = record {
  imports = added (λ i m. host_imports i.types m m.imports) ps p old.declarations.imports.items new.declarations.imports.items h.imports a.declares.imports;
  types = added groups_in ps p old.declarations.types.items new.declarations.types.items h.types a.declares.types;
  functions = added functions_in ps p old.declarations.functions.items new.declarations.functions.items h.functions a.declares.functions;
  exports = added (λ i m. map (resolved_export i) m.exports) ps p old.declarations.exports.items new.declarations.exports.items h.exports a.declares.exports;
  tables = added tables_in ps p old.stored.tables.items new.stored.tables.items h.tables a.stores.tables;
  memories = added memories_in ps p old.stored.memories.items new.stored.memories.items h.memories a.stores.memories;
  tags = added tags_in ps p old.stored.tags.items new.stored.tags.items h.tags a.stores.tags;
  globals = added globals_in ps p old.stored.globals.items new.stored.globals.items h.globals a.stores.globals;
  elements = added elements_in ps p old.contents.elements.items new.contents.elements.items h.elements a.contains.elements;
  codes = added codes_in ps p old.contents.codes.items new.contents.codes.items h.codes a.contains.codes;
  datas = added datas_in ps p old.contents.datas.items new.contents.datas.items h.datas a.contains.datas;
  measured = subst₂ (λ (hs ds : List ℕ). Measured (ps ++ p ∷ []) hs ds) (sym a.adds_heights) (sym a.adds_depths)
      (measured_more ps old.contents.heights.items old.contents.depths.items p a.heights a.depths h.measured a.measures);
}

-- the module of the parts of all files is the linked one
pub module_is : (ps : List Placed) (x : parts.Parts) (start : Option ℕ) → ArePartsOf ps x → start ≡ (linked ps).start → module_of x start ≡ linked ps
module_is ps x start h e =
    rw (h.types, h.imports, h.functions, h.tables, h.memories, h.tags, h.globals, h.exports, e, h.elements, h.codes, h.datas) refl
