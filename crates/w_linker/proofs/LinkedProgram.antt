-- The module that files make is what runs ask for, with the heights and the depths of its files' codes and the classes of all types.
use Rattle.std.proofs.Common.{◌≡◌, ℕ, ◌+◌, List, [], ◌∷◌, ◌++◌, map, length, Some, slice_get, refl, sym, ap, subst, subst₂, ◌∙◌, append_assoc, append-nil, arith}
use Rattle.std.specs.Prelude.{All}
use Rattle.std.proofs.lemmas.List.{length-append, length-map, map-append}
use Rattle.std.proofs.lemmas.List.Elements.{All-nil, All-cons, All-head, All-tail, All-append, All-weaker}
use Rattle.std.proofs.lemmas.Option.{slice_get_within}
use Rattle.lists.proofs.Lists.{get-front, get-behind}
use Rattle.w_types.specs.declared.types.CompType.{CompType}
use Rattle.w_types.specs.declared.types.CompType.TheVariants as comp
use Rattle.w_types.specs.declared.types.FuncType.{FuncType}
use Rattle.w_types.specs.declared.types.RecGroup.{RecGroup}
use Rattle.w_types.specs.declared.types.SubType.{SubType}
use Rattle.w_types.specs.Groups.{subtypes_of, composite_of, types_of}
use Rattle.w_syntax.specs.Functions.{type_of_function, code_of_function}
use Rattle.w_syntax.specs.declared.module.Func.{Func}
use Rattle.w_syntax.specs.declared.module.Module.{Module}
use Rattle.w_canon.specs.declared.entry.Entry.{Entry}
use Rattle.w_canon.specs.IsClassesOf.{IsClassesOf}
use Rattle.w_canon.proofs.MatchingTests.{same_decided, index_decided}
use Rattle.w_rules.specs.Facts.{AreMeasures, height_of}
use Rattle.w_rules.specs.Limits.{IsNarrow}
use Rattle.w_rules.specs.Peak.{depth}
use Rattle.w_rules.specs.Sound.{Sound, AreNarrow}
use Rattle.w_rules.specs.Valid.{Valid}
use Rattle.w_link.specs.Shifted.{type_shifted, sub_shifted, group_shifted, comp_shifted}
use Rattle.w_link.specs.Resolved.{Instance}
use Rattle.w_link.specs.Items.{resolved_func}
use Rattle.w_linked.specs.Definitions.{definitions, hosts}
use Rattle.w_linked.specs.Imports.{Placed}
use Rattle.w_linked.specs.Laws.{AreTestsOf, AreValid, CodeFacts}
use Rattle.w_linked.specs.Linked.{at_first, of_placed, linked}
use Rattle.w_linked.proofs.AllFit.{types_same}
use Rattle.w_linked.proofs.Counting.{groups_in}
use Rattle.w_linked.proofs.LinkedFacts.{codes_are_of_files}
use Rattle.w_linked.proofs.LinkedSound.{Each, and_file_holds, each_of_places, linked_is_sound}
use Rattle.w_linked.proofs.Placings.{Places, placed_by}
use Rattle.w_linked.proofs.SoundFunctions.{codes_in}
use Rattle.w_placing.specs.Placing.{zipped}
use Rattle.w_placing.specs.Tests.{tests_of}
use Rattle.w_linker.specs.Files.{AreLinked}
use Rattle.w_linker.specs.Parts.{IsAccepted, Measured, no_file, a_file}
use Rattle.w_linker.proofs.OneByOne.{all_front, all_behind}

-- ## Narrow types

comp_narrow : (n : ℕ) (t : CompType) → IsNarrow t → IsNarrow (comp_shifted n t)
comp_narrow n (comp.Func f) h = (omega (arith, h.0, length-map f.params (type_shifted n)), omega (arith, h.1, length-map f.results (type_shifted n)))
comp_narrow n (comp.Cont x) h = tt

subs_narrow : (n : ℕ) (ts : List SubType) → All IsNarrow (map composite_of ts) → All IsNarrow (map composite_of (map (sub_shifted n) ts))
subs_narrow n [] h = All-nil IsNarrow
subs_narrow n (t ∷ ts) h = All-cons IsNarrow (comp_shifted n t.composite) (map composite_of (map (sub_shifted n) ts))
    (comp_narrow n t.composite (All-head IsNarrow t.composite (map composite_of ts) h)) (subs_narrow n ts (All-tail IsNarrow t.composite (map composite_of ts) h))

abbrev Narrow : List RecGroup → Type 0
Narrow gs = All IsNarrow (types_of gs)

-- of a group, and of those behind it
group_narrow : (g : RecGroup) (gs : List RecGroup) → All IsNarrow (map composite_of g.types) → Narrow gs → Narrow (g ∷ gs)
unfolding subtypes_of
group_narrow g gs h k =
    subst (All IsNarrow) (sym (map-append composite_of g.types (subtypes_of gs))) (All-append IsNarrow (map composite_of g.types) (types_of gs) h k)

narrow_parts : (g : RecGroup) (gs : List RecGroup) → Narrow (g ∷ gs) → All IsNarrow (map composite_of g.types) × Narrow gs
unfolding subtypes_of
narrow_parts g gs h =
    let both = subst (All IsNarrow) (map-append composite_of g.types (subtypes_of gs)) h in
    (all_front IsNarrow (map composite_of g.types) (types_of gs) both, all_behind IsNarrow (map composite_of g.types) (types_of gs) both)

none_narrow : Narrow []
unfolding subtypes_of
none_narrow = All-nil IsNarrow

file_narrow : (n : ℕ) (gs behind : List RecGroup) → Narrow gs → Narrow behind → Narrow (map (group_shifted n) gs ++ behind)
file_narrow n [] behind h k = k
file_narrow n (g ∷ gs) behind h k =
    let both = narrow_parts g gs h in
    group_narrow (group_shifted n g) (map (group_shifted n) gs ++ behind) (subs_narrow n g.types both.0) (file_narrow n gs behind both.1 k)

all_narrow : (ps : List Placed) → Each IsAccepted ps → Narrow (of_placed groups_in ps)
all_narrow [] h = none_narrow
all_narrow (p ∷ ps) (and_file_holds h r) = file_narrow p.instance.types p.source.types (of_placed groups_in ps) h.within.params (all_narrow ps r)

-- ## Heights and depths

-- those of a file more
pub measured_more : (ps : List Placed) (hs ds : List ℕ) (p : Placed) (h d : List ℕ) → Measured ps hs ds → AreMeasures p.source h d → Measured (ps ++ p ∷ []) (hs ++ h) (ds ++ d)
measured_more _ _ _ p h d no_file m =
    subst₂ (λ (x y : List ℕ). Measured (p ∷ []) x y) (append-nil h) (append-nil d) (a_file m no_file)
measured_more _ _ _ p h d (a_file {p = q} {ps = ps} {h = g} {d = e} {hs = hs} {ds = ds} n r) m =
    subst₂ (λ (x y : List ℕ). Measured (q ∷ (ps ++ p ∷ [])) x y) (sym (append_assoc g hs h)) (sym (append_assoc e ds d)) (a_file n (measured_more ps hs ds p h d r m))

-- those of no files
pub none_measured : (hs ds : List ℕ) → hs ≡ [] → ds ≡ [] → Measured [] hs ds
none_measured hs ds e f = subst₂ (Measured []) (sym e) (sym f) no_file

-- as many as codes
heights_counted : {ps : List Placed} {hs ds : List ℕ} → Measured ps hs ds → length hs ≡ length (of_placed codes_in ps)
heights_counted no_file = refl
heights_counted (a_file {p = p} {ps = ps} {h = h} {hs = hs} m r) =
    omega (arith, m.as_many_heights, heights_counted r, length-append h hs, length-append (codes_in p.instance p.source) (of_placed codes_in ps), length-map p.source.codes (resolved_func p.instance))

depths_counted : {ps : List Placed} {hs ds : List ℕ} → Measured ps hs ds → length ds ≡ length (of_placed codes_in ps)
depths_counted no_file = refl
depths_counted (a_file {p = p} {ps = ps} {d = d} {ds = ds} m r) =
    omega (arith, m.as_many_depths, depths_counted r, length-append d ds, length-append (codes_in p.instance p.source) (of_placed codes_in ps), length-map p.source.codes (resolved_func p.instance))

-- the height and the depth of a code of a file
record MeasuredAt (front : List Placed) (p : Placed) (i : ℕ) (t : FuncType) (f : Func) (hs ds : List ℕ) : Type 0 where
  height : slice_get hs (length (of_placed codes_in front) + i) ≡ Some (height_of p.source t f)
  depth_is : slice_get ds (length (of_placed codes_in front) + i) ≡ Some (depth f.body)

in_front : (h hs : List ℕ) (i v : ℕ) → slice_get h i ≡ Some v → slice_get (h ++ hs) (0 + i) ≡ Some v
in_front h hs i v e =
    ap (slice_get (h ++ hs)) (omega arith) ∙ get-front h hs i (slice_get_within h i v e) ∙ e

behind_it : (h hs : List ℕ) (n k i v : ℕ) → n ≡ length h + k → slice_get hs (k + i) ≡ Some v → slice_get (h ++ hs) (n + i) ≡ Some v
behind_it h hs n k i v e is = ap (slice_get (h ++ hs)) (let a : n + i ≡ length h + (k + i) = omega (arith, e) in a) ∙ get-behind h hs (k + i) ∙ is

measured_at : (front : List Placed) (p : Placed) (i : ℕ) (t : FuncType) (f : Func) (back : List Placed) {ps : List Placed} {hs ds : List ℕ} → Measured ps hs ds → ps ≡ front ++ p ∷ back
    → type_of_function p.source i ≡ Some t → code_of_function p.source i ≡ Some f → MeasuredAt front p i t f hs ds
measured_at [] p i t f back no_file e has code = absurd (cc)
measured_at (x ∷ front) p i t f back no_file e has code = absurd (cc)
measured_at [] p i t f back (a_file {p = q} {h = h} {d = d} {hs = hs} {ds = ds} m r) e has code =
    let one : q ≡ p = cc in
    let n = subst (λ (x : Placed). AreMeasures x.source h d) one m in
    record { height = in_front h hs i _ (n.heights i t f has code); depth_is = in_front d ds i _ (n.depths i t f has code) }
measured_at (x ∷ front) p i t f back (a_file {p = q} {ps = ps} {h = h} {d = d} {hs = hs} {ds = ds} m r) e has code =
    let one : q ≡ x = cc in
    let rest : ps ≡ front ++ p ∷ back = cc in
    let n = subst (λ (x : Placed). AreMeasures x.source h d) one m in
    let w = measured_at front p i t f back r rest has code in
    let count = length-append (codes_in x.instance x.source) (of_placed codes_in front) in
    let own = length-map x.source.codes (resolved_func x.instance) in
    record {
      height = behind_it h hs _ (length (of_placed codes_in front)) i _ (omega (arith, count, own, n.as_many_heights)) w.height;
      depth_is = behind_it d ds _ (length (of_placed codes_in front)) i _ (omega (arith, count, own, n.as_many_depths)) w.depth_is;
    }

-- ## The module that files make

-- what classes say of types
pub tells_by : (gs : List RecGroup) (es : List Entry) → IsClassesOf gs es → AreTestsOf gs (tests_of es)
tells_by gs es is = record { same = same_decided gs es is; matches = index_decided gs es is }

module _ (es : List Entry) (ms : List Module) (is : List Instance) (a : AreLinked es ms is) where
  abbrev ps : List Placed
  ps = zipped ms is

  abbrev L : Module
  L = linked ps

  -- what the classes say of the types
  pub tells : AreTestsOf (definitions ms).types (tests_of es)
  tells = tells_by (definitions ms).types es a.classes

  pub good : AreValid ms
  good = All-weaker IsAccepted Valid (λ m h. h.valid) ms a.accepted

  pub places : Places (tests_of es) (definitions ms) [] (at_first (hosts ms)) ms ps
  places =
      let r = placed_by (tests_of es) (definitions ms) [] (at_first (hosts ms)) ms ps a.placed in
      subst (Places (tests_of es) (definitions ms) [] (at_first (hosts ms)) ms) (sym r.1) r.2

  pub types_are : L.types ≡ (definitions ms).types
  types_are = sym (types_same ms (tests_of es) ps places)

  pub is_narrow : AreNarrow L
  is_narrow = all_narrow ps (each_of_places IsAccepted (tests_of es) ms places a.accepted)

  pub is_sound : Sound L
  is_sound = linked_is_sound (tests_of es) ms ps tells good a.placed

  pub has_classes : IsClassesOf L.types es
  has_classes = subst (λ (gs : List RecGroup). IsClassesOf gs es) (sym types_are) a.classes

  module _ (hs ds : List ℕ) (measured : Measured ps hs ds) where
    facts_at : (i : ℕ) (t : FuncType) (f : Func) → type_of_function L i ≡ Some t → code_of_function L i ≡ Some f
        → (slice_get hs i ≡ Some (height_of L t f)) × (slice_get ds i ≡ Some (depth f.body))
    facts_at i t f has code =
        let c : CodeFacts ps i t f = codes_are_of_files (tests_of es) ms ps tells good a.placed i t f has code in
        let w = measured_at c.front c.file c.index c.type c.func c.back measured c.is c.has_type c.has_code in
        (ap (slice_get hs) c.counts ∙ w.height ∙ ap (λ (n : ℕ). Some n) (sym c.height), ap (slice_get ds) c.counts ∙ w.depth_is ∙ ap (λ (n : ℕ). Some n) (sym c.depth_is))

    pub has_measures : AreMeasures L hs ds
    has_measures = record {
      as_many_heights = heights_counted measured;
      as_many_depths = depths_counted measured;
      heights = λ i t f has code. (facts_at i t f has code).0;
      depths = λ i t f has code. (facts_at i t f has code).1;
    }
