-- Files that have all their imports, one after the other; and their lists.
use Rattle.std.proofs.Common.{◌≡◌, ℕ, ◌+◌, List, [], ◌∷◌, ◌++◌, length, refl, sym, ap, ◌∙◌, append_assoc, append-nil}
use Rattle.w_syntax.specs.declared.module.Module.{Module}
use Rattle.w_link.specs.Resolved.{Instance}
use Rattle.w_linked.specs.Definitions.{Definitions, type_count, of_files}
use Rattle.w_linked.specs.Imports.{TypeTests, Address, Placed, Imported, all, missing, imports_of}
use Rattle.w_linked.specs.Linked.{Before, and_file, instance_of, placed, and_files, placing, of_placed}

module _ (tests : TypeTests) (d : Definitions) where
  -- behind the files that stand earlier
  pub data Places : List Placed → Before → List Module → List Placed → Type 0 where
    no_file : {earlier : List Placed} {b : Before} → Places earlier b [] []
    a_file : {earlier : List Placed} {b : Before} {m : Module} {ms : List Module} {ps : List Placed} (found : List Address) (k : ℕ)
        → imports_of tests d earlier m b.types b.printers m.imports ≡ all found k
        → Places (earlier ++ record { source = m; instance = instance_of b found m } ∷ []) (and_file b k m) ms ps
        → Places earlier b (m ∷ ms) (record { source = m; instance = instance_of b found m } ∷ ps)

  abbrev Placed_by : List Placed → Before → List Module → List Placed → Type 0
  Placed_by earlier b ms qs = (ps : List Placed) × (qs ≡ earlier ++ ps) × Places earlier b ms ps

  by_imports : (earlier : List Placed) (b : Before) (m : Module) (ms : List Module) (qs : List Placed)
      → ((front : List Placed) (c : Before) → placing tests d front c ms ≡ placed qs → Placed_by front c ms qs)
      → (o : Imported) → imports_of tests d earlier m b.types b.printers m.imports ≡ o
      → and_files (length earlier) b m o (λ c p. placing tests d (earlier ++ p ∷ []) c ms) ≡ placed qs → Placed_by earlier b (m ∷ ms) qs
  by_imports earlier b m ms qs again (missing j) is e = absurd (cc)
  by_imports earlier b m ms qs again (all found k) is e =
      let p : Placed = record { source = m; instance = instance_of b found m } in
      let r = again (earlier ++ p ∷ []) (and_file b k m) e in
      (p ∷ r.0, r.1 ∙ append_assoc earlier (p ∷ []) r.0, a_file found k is r.2)

  -- files that are placed have all their imports, one after the other
  pub placed_by : (earlier : List Placed) (b : Before) (ms : List Module) (qs : List Placed) → placing tests d earlier b ms ≡ placed qs → Placed_by earlier b ms qs
  placed_by earlier b [] qs e = ([], (let one : qs ≡ earlier = cc in one ∙ sym (append-nil earlier)), no_file)
  placed_by earlier b (m ∷ ms) qs e =
      by_imports earlier b m ms qs (λ front c h. placed_by front c ms qs h) (imports_of tests d earlier m b.types b.printers m.imports) refl e

  -- what is told of each file by the types before it is what is told by its instance
  pub aligned : {A : Type 0} (f : ℕ → Module → List A) (g : Instance → Module → List A) → ((i : Instance) (m : Module) → f i.types m ≡ g i m)
      → {earlier : List Placed} {b : Before} {ms : List Module} {ps : List Placed} → Places earlier b ms ps → of_files f b.types ms ≡ of_placed g ps
  aligned f g e no_file = refl
  aligned {A} f g e {b = b} (a_file {m = m} {ms = ms} {ps = ps} found k is h) =
      ap (λ (l : List A). l ++ of_files f (b.types + type_count m) ms) (e (instance_of b found m) m) ∙ ap (λ (l : List A). g (instance_of b found m) m ++ l) (aligned f g e h)
