-- What a file imports stands below its own definitions: globals.
use Rattle.std.proofs.Common.{◌≡◌, ◌⊎◌, inl, inr, ◌<◌, ◌≤◌, ◌+◌, ◌-◌, ℕ, zero, suc, true, List, [], ◌∷◌, ◌++◌, map, take, flat_map, length, Some, slice_get, refl, sym, ap, subst, ◌∙◌, append_assoc, arith}
use Rattle.std.specs.List.{range_with_len}
use Rattle.std.proofs.lemmas.Bool.{cases_lt}
use Rattle.std.proofs.lemmas.List.{length-append, length-map}
use Rattle.std.proofs.lemmas.Option.{slice_get_within, get_or_from_slice_get}
use Rattle.lists.proofs.Lists.{get-front, get-behind}
use Rattle.w_syntax.specs.declared.module.Export.{Export}
use Rattle.w_syntax.specs.declared.module.ExternIndex.{ExternIndex}
use Rattle.w_syntax.specs.declared.module.ExternIndex.TheVariants as index
use Rattle.w_syntax.specs.declared.module.ExternType.{ExternType}
use Rattle.w_syntax.specs.declared.module.ExternType.TheVariants as imported
use Rattle.w_syntax.specs.declared.module.GlobalType.{GlobalType}
use Rattle.w_syntax.specs.declared.module.GlobalVariable.{GlobalVariable}
use Rattle.w_syntax.specs.declared.module.Module.{Module}
use Rattle.w_canon.specs.Supertypes.{KeepsKinds}
use Rattle.w_rules.specs.Bodies.{ConstTyped}
use Rattle.w_rules.specs.Spaces.{as_global, imports_by, context_of, context_below, globals_of, globals_below}
use Rattle.w_rules.specs.Valid.{Valid, ExportItem, ExportValid, IsThere, GlobalItem, GlobalValid}
use Rattle.w_typed.specs.Stores.{Instances}
use Rattle.w_typed.proofs.Places.{instance_at, instance_count}
use Rattle.w_link.specs.Shifted.{type_shifted}
use Rattle.w_link.specs.Resolved.{Instance, at, code_resolved}
use Rattle.w_link.specs.Fits.{There, GlobalFits, Fits}
use Rattle.w_link.proofs.FineInstructions.{type_has}
use Rattle.w_link.specs.Items.{resolved_global}
use Rattle.w_linked.specs.Definitions.{definitions, hosts}
use Rattle.w_linked.specs.Imports.{TypeTests, Address, function, table, memory, global, tag, address_of, fits, Placed}
use Rattle.w_linked.specs.Laws.{AreTestsOf}
use Rattle.w_linked.specs.Linked.{as_global as global_address, at_first, of_placed, linked}
use Rattle.w_linked.proofs.AllFit.{some_at, there, types_same, functions_same, tables_same, memories_same, globals_same, tags_same, file_fits}
use Rattle.w_linked.proofs.Constants.{const_carried}
use Rattle.w_linked.proofs.Counting.{hosts_in, globals_in, IsAt}
use Rattle.w_linked.proofs.FilesFit.{KeepsFuncs, hosts_there}
use Rattle.w_linked.proofs.ImportsFit.{ExportOf, Alike, neither, one, imported_instances}
use Rattle.w_linked.proofs.Lists.{none_imported}
use Rattle.w_linked.proofs.Placings.{Places}
use Rattle.w_linked.proofs.SoundFunctions.{of_both, in_file, mapped_there}

-- ## Lists

range_at : (b n j : ℕ) → j < n → slice_get (range_with_len b n) j ≡ Some (b + j)
range_at b zero j lt = absurd (omega (arith, lt))
range_at b (suc n) zero lt = ap (λ (z : ℕ). Some z) (omega arith)
range_at b (suc n) (suc j) lt = range_at (b + 1) n j (omega (arith, lt)) ∙ ap (λ (z : ℕ). Some z) (omega arith)

taken_at : {A : Type 0} (k : ℕ) (xs : List A) (j : ℕ) (x : A) → slice_get (take k xs) j ≡ Some x → (slice_get xs j ≡ Some x) × (j < k)
taken_at zero xs j x e = absurd (cc)
taken_at (suc k) [] j x e = absurd (cc)
taken_at (suc k) (y ∷ xs) zero x e = (e, omega arith)
taken_at (suc k) (y ∷ xs) (suc j) x e = let r = taken_at k xs j x e in (r.0, (let l = r.1 in omega (arith, l)))

take_at : {A : Type 0} (k : ℕ) (xs : List A) (j : ℕ) → j < k → slice_get (take k xs) j ≡ slice_get xs j
take_at zero xs j lt = absurd (omega (arith, lt))
take_at (suc k) [] j lt = refl
take_at (suc k) (y ∷ xs) zero lt = refl
take_at (suc k) (y ∷ xs) (suc j) lt = take_at k xs j (omega (arith, lt))

at_front : (xs ys : List ℕ) (x a : ℕ) → slice_get xs x ≡ Some a → at (xs ++ ys) x ≡ a
at_front xs ys x a e = get_or_from_slice_get (xs ++ ys) x a x (get-front xs ys x (slice_get_within xs x a e) ∙ e)

at_behind : (xs : List ℕ) (b n x : ℕ) → length xs ≤ x → x < length xs + n → at (xs ++ range_with_len b n) x ≡ b + (x - length xs)
at_behind xs b n x le lt =
    let j = x - length xs in
    get_or_from_slice_get (xs ++ range_with_len b n) x (b + j) x
    (ap (slice_get (xs ++ range_with_len b n)) (omega (arith, le)) ∙ get-behind xs (range_with_len b n) j ∙ range_at b n j (omega (arith, le, lt)))

-- ## The addresses of globals

module _ (ms : List Module) (tests : TypeTests) (ps : List Placed) (h : Places tests (definitions ms) [] (at_first (hosts ms)) ms ps)
    (is : AreTestsOf (definitions ms).types tests) (funcs : KeepsFuncs (definitions ms).types) (keeps : KeepsKinds (linked ps).types)
    (valid : (front back : List Placed) (p : Placed) → ps ≡ front ++ p ∷ back → Valid p.source) where
  abbrev L : Module
  L = linked ps

  abbrev count : List Placed → ℕ
  count front = length (of_placed globals_in front)

  abbrev place : (front back : List Placed) (p : Placed) → ps ≡ front ++ p ∷ back → IsAt tests (definitions ms) (length (of_placed hosts_in ps)) front p
  place front back p split = there ms tests ps h is funcs front back p split

  abbrev below : List Placed → ℕ → GlobalType → Type 0
  below front a g = a < count front

  -- what a file imports
  abbrev ImportsBelow : (front back : List Placed) (p : Placed) → ps ≡ front ++ p ∷ back → Type 0
  ImportsBelow front back p split = Instances (below front) (flat_map global_address (place front back p split).addresses) (imports_by as_global p.source)

  number : (front back : List Placed) (p : Placed) (split : ps ≡ front ++ p ∷ back) → p.instance.globals
      ≡ flat_map global_address (place front back p split).addresses ++ range_with_len (place front back p split).before.globals (length p.source.globals)
  number front back p split = ap (λ (i : Instance). i.globals) (place front back p split).instance_is

  -- any global that a file names is among those up to its own
  any_below : (front back : List Placed) (p : Placed) (split : ps ≡ front ++ p ∷ back) → ImportsBelow front back p split → (x : ℕ) → x < length (globals_of p.source)
      → (x < length (imports_by as_global p.source)) ⊎ (length (imports_by as_global p.source) ≤ x) → at p.instance.globals x < count front + length p.source.globals
  any_below front back p split b x lt (inl low) =
      let y = some_at (imports_by as_global p.source) x low in
      let i = instance_at x y.0 b y.1 in
      let e = ap (λ (l : List ℕ). at l x) (number front back p split) ∙ at_front (flat_map global_address (place front back p split).addresses) _ x i.item i.is in
      omega (arith, e, i.holds)
  any_below front back p split b x lt (inr high) =
      let own = length p.source.globals in
      let all = length-append (imports_by as_global p.source) (map (λ (g : GlobalVariable). g.kind) p.source.globals) in
      let many = length-map p.source.globals (λ (g : GlobalVariable). g.kind) in
      let c = instance_count b in
      let e = ap (λ (l : List ℕ). at l x) (number front back p split)
      ∙ at_behind (flat_map global_address (place front back p split).addresses) (place front back p split).before.globals own x (omega (arith, high, c)) (omega (arith, lt, all, many, c)) in
      omega (arith, e, high, lt, all, many, c, (place front back p split).counts.globals)

  -- an export of an earlier file
  by_index : (front back : List Placed) (p : Placed) (split : ps ≡ front ++ p ∷ back) → ImportsBelow front back p split → (a : ℕ) (x : ExternIndex)
      → global a ≡ address_of p.instance x → IsThere p.source x → a < count front + length p.source.globals
  by_index front back p split b a (index.Global x) e there =
      let s : a ≡ at p.instance.globals x = cc in
      let lt = any_below front back p split b x there (cases_lt x (length (imports_by as_global p.source))) in
      omega (arith, s, lt)
  by_index front back p split b a _ e there = absurd (cc)

  export_below : (front back : List Placed) (p : Placed) (split : ps ≡ front ++ p ∷ back) (a : ℕ) → ExportOf front (global a)
      → ((front' back' : List Placed) (q : Placed) (s : ps ≡ front' ++ q ∷ back') → length front' < length front → ImportsBelow front' back' q s) → a < count front
  export_below front back p split a x again =
      let q = x.file in
      let s : ps ≡ x.front ++ q ∷ (x.back ++ p ∷ back) = split ∙ ap (λ (l : List Placed). l ++ p ∷ back) x.is ∙ append_assoc x.front (q ∷ x.back) (p ∷ back) in
      let few : length front ≡ length x.front + suc (length x.back) = ap length x.is ∙ length-append x.front (q ∷ x.back) in
      let v : ExportValid q.source x.place = valid x.front (x.back ++ p ∷ back) q s (ExportItem x.place) (slice_get_within q.source.exports x.place x.export x.there) in
      let one : v.export ≡ x.export = (let e = v.is in let f = x.there in cc) in
      let is_there : IsThere q.source x.export.index = subst (λ (e : Export). IsThere q.source e.index) one v.there in
      let b = again x.front (x.back ++ p ∷ back) q s (omega (arith, few)) in
      let lt = by_index x.front (x.back ++ p ∷ back) q s b a x.export.index x.address is_there in
      let all = ap (λ (l : List Placed). count l) x.is ∙ ap length (of_both globals_in x.front (q ∷ x.back))
      ∙ length-append (of_placed globals_in x.front) (of_placed globals_in (q ∷ x.back)) in
      omega (arith, lt, all, length-append (globals_in q.instance q.source) (of_placed globals_in x.back), length-map q.source.globals (resolved_global q.instance))

  of_file : (front back : List Placed) (p : Placed) (split : ps ≡ front ++ p ∷ back)
      → ((front' back' : List Placed) (q : Placed) (s : ps ≡ front' ++ q ∷ back') → length front' < length front → ImportsBelow front' back' q s)
      → (e : ExternType) (a : Address) → fits tests (definitions ms) (place front back p split).before.types e a ≡ true → ExportOf front a
      → Alike tests (definitions ms) front p.source (place front back p split).before.types as_global global_address (below front) (global_address a) (as_global e)
  of_file front back p split again (imported.Global g) (global a) fit from = one (export_below front back p split a from again)
  of_file front back p split again (imported.Func x) (function a) fit from = neither
  of_file front back p split again (imported.Table t) (table a) fit from = neither
  of_file front back p split again (imported.Memory l) (memory a) fit from = neither
  of_file front back p split again (imported.Tag t) (tag a) fit from = neither
  of_file front back p split again _ _ fit from = absurd (cc)

  imports_below : (fuel : ℕ) (front back : List Placed) (p : Placed) (split : ps ≡ front ++ p ∷ back) → length front < fuel → ImportsBelow front back p split
  imports_below zero front back p split lt = absurd (omega (arith, lt))
  imports_below (suc fuel) front back p split lt =
      imported_instances tests (definitions ms) front p.source (place front back p split).before.types as_global global_address (below front) (λ x k e. neither)
      (of_file front back p split (λ f b q s l. imports_below fuel f b q s (omega (arith, lt, l)))) (place front back p split).fit
      (hosts_there tests (definitions ms) ps front back p split (place front back p split) is funcs (types_same ms tests ps h) (functions_same ms tests ps h) (tables_same ms tests ps h)
      (memories_same ms tests ps h) (globals_same ms tests ps h) (tags_same ms tests ps h))

  -- ## The globals below one

  module _ (front back : List Placed) (p : Placed) (split : ps ≡ front ++ p ∷ back) (k : ℕ) where
    abbrev kinds : List GlobalType
    kinds = map (λ (g : GlobalVariable). g.kind) p.source.globals

    abbrev imports : List GlobalType
    imports = imports_by as_global p.source

    abbrev Found : ℕ → GlobalType → Type 0
    Found x g = (slice_get (globals_of p.source) x ≡ Some g) × (at p.instance.globals x < count front + k)

    found_by : (x : ℕ) (g : GlobalType) → slice_get (globals_below p.source k) x ≡ Some g → (x < length imports) ⊎ (length imports ≤ x) → Found x g
    found_by x g e (inl low) =
        let first = sym (get-front imports (take k kinds) x low) ∙ e in
        let i = instance_at x g (imports_below (suc (length front)) front back p split (omega arith)) first in
        let a = ap (λ (l : List ℕ). at l x) (number front back p split) ∙ at_front (flat_map global_address (place front back p split).addresses) _ x i.item i.is in
        (get-front imports kinds x low ∙ first, omega (arith, a, i.holds))
    found_by x g e (inr high) =
        let j = x - length imports in
        let s : x ≡ length imports + j = omega (arith, high) in
        let second = sym (get-behind imports (take k kinds) j) ∙ ap (slice_get (imports ++ take k kinds)) (sym s) ∙ e in
        let t = taken_at k kinds j g second in
        let within = slice_get_within kinds j g t.0 in
        let c = instance_count (imports_below (suc (length front)) front back p split (omega arith)) in
        let a = ap (λ (l : List ℕ). at l x) (number front back p split)
        ∙ at_behind (flat_map global_address (place front back p split).addresses) (place front back p split).before.globals (length p.source.globals) x (omega (arith, high, c))
        (omega (arith, s, c, within, length-map p.source.globals (λ (g : GlobalVariable). g.kind))) in
        (ap (slice_get (imports ++ kinds)) s ∙ get-behind imports kinds j ∙ t.0, omega (arith, a, t.1, high, c, (place front back p split).counts.globals))

    none : imports_by as_global L ≡ []
    none = none_imported as_global (λ x. refl) ps

    global_there : (x : ℕ) (g : GlobalType) → slice_get (globals_below p.source k) x ≡ Some g
        → There (slice_get (globals_below L (count front + k)) (at p.instance.globals x)) (GlobalFits p.instance.types L.types g)
    global_there x g e =
        let f = found_by x g e (cases_lt x (length imports)) in
        let u = (file_fits ms tests ps h is funcs front back p split).globals x g f.0 in
        let all = map (λ (g : GlobalVariable). g.kind) L.globals in
        record {
          value = u.value;
          is = ap (λ (l : List GlobalType). slice_get (l ++ take (count front + k) all) (at p.instance.globals x)) none ∙ take_at (count front + k) all (at p.instance.globals x) f.1
              ∙ ap (λ (l : List GlobalType). slice_get (l ++ all) (at p.instance.globals x)) (sym none) ∙ u.is;
          holds = u.holds;
        }

    below_fits : Fits p.instance (context_below p.source k) (context_below L (count front + k))
    below_fits =
        let f = file_fits ms tests ps h is funcs front back p split in
        record {
          types = f.types;
          functions = f.functions;
          tables = f.tables;
          memories = f.memories;
          globals = global_there;
          tags = f.tags;
          elements = f.elements;
          datas = f.datas;
          declared = f.declared;
          locals = f.locals;
          results = f.results;
          labels = f.labels;
        }

  -- global j
  pub global_sound : (j : ℕ) (x : GlobalVariable) → slice_get L.globals j ≡ Some x → GlobalValid L j
  global_sound j x e =
      let r = in_file globals_in ps j x e in
      let p = r.file in
      let i = p.instance in
      let g = mapped_there (resolved_global i) p.source.globals r.index x r.there in
      let v : GlobalValid p.source r.index = valid r.front r.back p r.is (GlobalItem r.index) (slice_get_within p.source.globals r.index g.0 g.1) in
      let one : v.global ≡ g.0 = (let a = v.is in let b = g.1 in cc) in
      let all : resolved_global i v.global ≡ x = ap (resolved_global i) one ∙ g.2 in
      let f = file_fits ms tests ps h is funcs r.front r.back p r.is in
      let init =
      const_carried i (context_below p.source r.index) (context_below L (count r.front + r.index)) keeps (below_fits r.front r.back p r.is r.index)
      v.global.init v.global.kind.kind v.init in
      record {
        global = resolved_global i v.global;
        is = e ∙ ap (λ (y : GlobalVariable). Some y) (sym all);
        valid = type_has i (context_of p.source) (context_of L) f v.global.kind.kind v.valid;
        init = subst (λ (k : ℕ). ConstTyped (context_below L k) (code_resolved i v.global.init) (type_shifted i.types v.global.kind.kind)) (sym r.counts) init;
      }
