-- Files that are placed, one by one.
use Rattle.std.proofs.Common.{◌≡◌, ℕ, suc, ◌+◌, ◌<◌, ◌≤◌, List, [], ◌∷◌, ◌++◌, length, drop, get_or, refl, sym, ap, subst, ◌∙◌, arith, length-append}
use Rattle.std.specs.Prelude.{string_bytes}
use Rattle.std.proofs.lemmas.List.{at_drop_more, at_drop_all, length-map, map_push}
use Rattle.w_syntax.specs.declared.module.Module.{Module}
use Rattle.w_canon.specs.declared.entry.Entry.{Entry}
use Rattle.w_canon.specs.IsClassesOf.{IsClassesOf}
use Rattle.w_link.specs.Resolved.{Instance}
use Rattle.w_linked.specs.Definitions.{Definitions, hosts}
use Rattle.w_linked.specs.Imports.{TypeTests, Placed, Address, Imported, all, missing, file_name, imports_of}
use Rattle.w_linked.specs.Laws.{AreTestsOf}
use Rattle.w_linked.specs.Linked.{Before, Placing, placed, no_import, at_first, and_file, and_files, instance_of, placing}
use Rattle.w_placing.specs.declared.exports.File.{File}
use Rattle.w_placing.specs.Files.{IsFile, AreFiles, instances_of}
use Rattle.w_placing.specs.Placing.{zipped}
use Rattle.w_placing.specs.Tests.{tests_of}
use Rattle.w_placing.proofs.ByClasses.{only_tests}

-- one file more
are_more : (f : ℕ) (xs : List File) (ps : List Placed) (x : File) (p : Placed) → AreFiles f xs ps → IsFile (f + length xs) x p → AreFiles f (xs ++ x ∷ []) (ps ++ p ∷ [])
are_more f [] [] x p h is = (subst (λ (k : ℕ). IsFile k x p) (let e : f + 0 ≡ f = omega arith in e) is, tt)
are_more f [] (q ∷ ps) x p h is = absurd (h)
are_more f (y ∷ xs) [] x p h is = absurd (h)
are_more f (y ∷ xs) (q ∷ ps) x p h is = (h.0, are_more (suc f) xs ps x p h.1 (subst (λ (k : ℕ). IsFile k x p) (let e : f + suc (length xs) ≡ suc f + length xs = omega arith in e) is))

-- no file with no instance
zipped_none : (ms : List Module) → zipped ms [] ≡ []
zipped_none [] = refl
zipped_none (m ∷ ms) = refl

-- one more with its own
zipped_more : (ms : List Module) (is : List Instance) (d : Module) (i : Instance) → length is < length ms → zipped ms (is ++ i ∷ []) ≡ zipped ms is ++ record { source = get_or ms (length is) d; instance = i } ∷ []
zipped_more [] is d i lt = absurd (omega (arith, lt))
zipped_more (m ∷ ms) [] d i lt = ap (λ (ps : List Placed). record { source = m; instance = i } ∷ ps) (zipped_none ms)
zipped_more (m ∷ ms) (j ∷ is) d i lt = ap (λ (ps : List Placed). record { source = m; instance = j } ∷ ps) (zipped_more ms is d i (omega (arith, lt)))

-- as many as have one
length-zipped : (ms : List Module) (is : List Instance) → length is ≤ length ms → length (zipped ms is) ≡ length is
length-zipped ms [] le = ap length (zipped_none ms)
length-zipped [] (i ∷ is) le = absurd (omega (arith, le))
length-zipped (m ∷ ms) (i ∷ is) le = ap suc (length-zipped ms is (omega (arith, le)))

module _ (tests : TypeTests) (d : Definitions) (ms : List Module) where
  -- what all files come to
  abbrev pub All : Placing
  All = placing tests d [] (at_first (hosts ms)) ms

  -- the first i files are placed
  pub record PlacedTo (i : ℕ) (xs : List File) (b : Before) : Type 0 where
    pub many : length xs ≡ i
    pub files : AreFiles 0 xs (zipped ms (instances_of xs))
    pub goes : All ≡ placing tests d (zipped ms (instances_of xs)) b (drop i ms)

  -- no file is
  pub placed_none : (xs : List File) (b : Before) → xs ≡ [] → b ≡ at_first (hosts ms) → PlacedTo 0 xs b
  placed_none xs b none first =
      let start : PlacedTo 0 [] (at_first (hosts ms)) = record {
        many = refl;
        files = subst (AreFiles 0 []) (sym (zipped_none ms)) tt;
        goes = ap (λ (ps : List Placed). placing tests d ps (at_first (hosts ms)) ms) (sym (zipped_none ms));
      } in
      subst (λ (c : Before). PlacedTo 0 xs c) (sym first) (subst (λ (ys : List File). PlacedTo 0 ys (at_first (hosts ms))) (sym none) start)

  module _ (i : ℕ) (xs : List File) (b : Before) (m : Module) (to : PlacedTo i xs b) (lt : i < length ms) (at : m ≡ get_or ms i m) where
    -- the files so far
    abbrev earlier : List Placed
    earlier = zipped ms (instances_of xs)

    -- so many instances
    many_instances : length (instances_of xs) ≡ i
    many_instances = length-map xs (λ (x : File). x.instance) ∙ to.many

    -- so many files
    many_earlier : length earlier ≡ i
    many_earlier = length-zipped ms (instances_of xs) (omega (arith, many_instances, lt)) ∙ many_instances

    -- the next file, by its imports
    next_is : (r : Imported) → imports_of tests d earlier m b.types b.printers m.imports ≡ r
        → All ≡ and_files i b m r (λ c p. placing tests d (earlier ++ p ∷ []) c (drop (i + 1) ms))
    next_is r found =
        to.goes ∙ at_drop_more (placing tests d earlier b) ms i m lt
        ∙ ap (λ (n : Module). and_files (length earlier) b n (imports_of tests d earlier n b.types b.printers n.imports) (λ c p. placing tests d (earlier ++ p ∷ []) c (drop (i + 1) ms))) (sym at)
        ∙ ap (λ (q : Imported). and_files (length earlier) b m q (λ c p. placing tests d (earlier ++ p ∷ []) c (drop (i + 1) ms))) found
        ∙ ap (λ (f : ℕ). and_files f b m r (λ c p. placing tests d (earlier ++ p ∷ []) c (drop (i + 1) ms))) many_earlier

    -- for an import of the next there is nothing
    pub placed_missing : (j f : ℕ) → imports_of tests d earlier m b.types b.printers m.imports ≡ missing j → f ≡ length xs → All ≡ no_import f j
    placed_missing j f found many = next_is (missing j) found ∙ ap (λ (g : ℕ). no_import g j) (sym (many ∙ to.many))

    -- the next is placed
    pub placed_more : (found : List Address) (k : ℕ) (x : File) (ys : List File) (c : Before) → imports_of tests d earlier m b.types b.printers m.imports ≡ all found k
        → string_bytes x.name ≡ file_name (length xs) → x.exports ≡ m.exports → x.instance ≡ instance_of b found m → c ≡ and_file b k m → ys ≡ xs ++ x ∷ [] → PlacedTo (i + 1) ys c
    placed_more found k x ys c is name exports instance counts more =
        let p : Placed = record { source = m; instance = x.instance } in
        let n = length (instances_of xs) in
        let source : get_or ms n m ≡ m = ap (λ (j : ℕ). get_or ms j m) many_instances ∙ sym at in
        let zips : zipped ms (instances_of (xs ++ x ∷ [])) ≡ earlier ++ p ∷ [] =
        ap (zipped ms) (map_push (λ (y : File). y.instance) xs x) ∙ zipped_more ms (instances_of xs) m x.instance (omega (arith, many_instances, lt))
        ∙ ap (λ (s : Module). earlier ++ record { source = s; instance = x.instance } ∷ []) source in
        let all_of : PlacedTo (i + 1) (xs ++ x ∷ []) (and_file b k m) = record {
          many = omega (arith, length-append xs (x ∷ []), to.many);
          files = subst (AreFiles 0 (xs ++ x ∷ [])) (sym zips) (are_more 0 xs earlier x p to.files (record { name = name ∙ ap file_name (let e : length xs ≡ 0 + length xs = omega arith in e); exports = exports; instance = refl }));
          goes =
              next_is (all found k) is
              ∙ ap (λ (j : Instance). placing tests d (earlier ++ record { source = m; instance = j } ∷ []) (and_file b k m) (drop (i + 1) ms)) (sym instance)
              ∙ ap (λ (ps : List Placed). placing tests d ps (and_file b k m) (drop (i + 1) ms)) (sym zips);
        } in
        subst (λ (e : Before). PlacedTo (i + 1) ys e) (sym counts) (subst (λ (zs : List File). PlacedTo (i + 1) zs (and_file b k m)) (sym more) all_of)

  -- all are
  pub placed_all : (i : ℕ) (xs : List File) (b : Before) → length ms ≤ i → PlacedTo i xs b → All ≡ placed (zipped ms (instances_of xs))
  placed_all i xs b past to = to.goes ∙ at_drop_all (placing tests d (zipped ms (instances_of xs)) b) ms i past

-- so it is with any tests of the types
pub with_tests : (es : List Entry) (d e : Definitions) (ms : List Module) (r : Placing) → IsClassesOf d.types es → d ≡ e → All (tests_of es) d ms ≡ r
    → (tests : TypeTests) → AreTestsOf d.types tests → placing tests e [] (at_first (hosts ms)) ms ≡ r
with_tests es d e ms r is same came tests h =
    ap (λ (t : TypeTests). placing t e [] (at_first (hosts ms)) ms) (only_tests d.types es is tests h) ∙ ap (λ (f : Definitions). placing (tests_of es) f [] (at_first (hosts ms)) ms) (sym same) ∙ came
