-- What is known of the codes of the linked module is what is known of those of its files.
use Rattle.std.proofs.Common.{◌≡◌, ℕ, ◌+◌, inl, List, ◌∷◌, length, Option, Some, None, slice_get, refl, sym, ap, subst, subst₂, ◌∙◌, arith, []}
use Rattle.std.specs.Prelude.{option_map}
use Rattle.std.proofs.lemmas.Option.{slice_get-map, slice_get_within}
use Rattle.w_types.specs.declared.types.FuncType.{FuncType}
use Rattle.w_syntax.specs.Functions.{type_at, type_of_function, code_of_function, func_type}
use Rattle.w_syntax.specs.declared.module.Func.{Func}
use Rattle.w_rules.specs.Facts.{height_of}
use Rattle.w_rules.specs.Peak.{depth}
use Rattle.w_rules.specs.Spaces.{context_of}
use Rattle.w_rules.specs.Valid.{FunctionItem, FunctionValid}
use Rattle.w_link.specs.Shifted.{func_shifted}
use Rattle.w_link.proofs.Peaks.{height_same, depth_same}
use Rattle.w_link.specs.Items.{resolved_func}
use Rattle.w_linked.specs.Definitions.{definitions, hosts}
use Rattle.w_linked.specs.Imports.{Placed}
use Rattle.w_linked.specs.Laws.{CodeFacts, CodesAreOfFiles}
use Rattle.w_linked.specs.Linked.{at_first, linked, of_placed}
use Rattle.w_linked.proofs.LinkedSound.{files}
use Rattle.w_linked.proofs.Placings.{placed_by}
use Rattle.w_linked.proofs.SoundFunctions.{AreFiles, functions_in, codes_in, in_file, among_all, mapped_there, own_type}
use Rattle.w_linked.proofs.SoundItems.{same_some}

module _ (ps : List Placed) (files : AreFiles ps) where
  facts_by : (j : ℕ) (t : FuncType) (f : Func) (o : Option ℕ) → slice_get (linked ps).functions j ≡ o → type_at (linked ps) o ≡ Some t
      → code_of_function (linked ps) j ≡ Some f
      → CodeFacts ps j t f
  facts_by j t f None is has code = absurd (cc)
  facts_by j t f (Some y) is has code =
      let r = in_file functions_in ps j y is in
      let p = r.file in
      let i = p.instance in
      let x = mapped_there (λ (x : ℕ). i.types + x) p.source.functions r.index y r.there in
      let v : FunctionValid p.source r.index = files.valid r.front r.back p r.is (FunctionItem r.index) (inl (slice_get_within p.source.functions r.index x.0 x.1)) in
      let fit = files.fits r.front r.back p r.is in
      let place : j ≡ length (of_placed codes_in r.front) + r.index = omega (arith, r.counts, files.counts r.front (p ∷ r.back) r.is) in
      let here = slice_get-map (resolved_func i) p.source.codes r.index ∙ ap (option_map (resolved_func i)) v.has_code in
      let its_code : code_of_function (linked ps) j ≡ Some (resolved_func i v.func) =
      ap (slice_get (linked ps).codes) place ∙ among_all codes_in ps r.front r.back p r.index (resolved_func i v.func) r.is here in
      let its_type : type_at (linked ps) (Some y) ≡ Some (func_shifted i.types v.type) =
      ap (func_type (linked ps)) (sym x.2) ∙ own_type ps files p r.index v.type (slice_get p.source.functions r.index) fit refl v.has_type x.0 x.1 in
      let same_type : func_shifted i.types v.type ≡ t = same_some its_type has in
      let same_code : resolved_func i v.func ≡ f = same_some its_code code in
      record {
        front = r.front;
        file = p;
        back = r.back;
        index = r.index;
        is = r.is;
        counts = place;
        type = v.type;
        func = v.func;
        has_type = v.has_type;
        has_code = v.has_code;
        height = subst₂ (λ (u : FuncType) (g : Func). height_of (linked ps) u g ≡ height_of p.source v.type v.func) same_type same_code
            (height_same i (context_of p.source) (context_of (linked ps)) fit v.type.params v.func.locals v.type.results v.func.body v.body 0);
        depth_is = subst (λ (g : Func). depth g.body ≡ depth v.func.body) same_code (depth_same i v.func.body);
      }

  -- what is known of code j
  pub code_facts : (j : ℕ) (t : FuncType) (f : Func) → type_of_function (linked ps) j ≡ Some t → code_of_function (linked ps) j ≡ Some f → CodeFacts ps j t f
  code_facts j t f has code = facts_by j t f (slice_get (linked ps).functions j) refl has code

-- each code of the module that valid files make is one of a file, and as high and as deep
pub codes_are_of_files : CodesAreOfFiles
codes_are_of_files tests ms ps tells good e =
    let r = placed_by tests (definitions ms) [] (at_first (hosts ms)) ms ps e in
    subst (λ (qs : List Placed). (j : ℕ) (t : FuncType) (f : Func) → type_of_function (linked qs) j ≡ Some t → code_of_function (linked qs) j ≡ Some f → CodeFacts qs j t f)
    (sym r.1) (code_facts r.0 (files ms tests r.0 r.2 tells good))
