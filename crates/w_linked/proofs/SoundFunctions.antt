-- The functions of the linked module are valid, as those of its files are.
use Rattle.std.proofs.Common.{◌≡◌, ◌⊎◌, inl, inr, ℕ, ◌+◌, ◌-◌, ◌<◌, ◌≤◌, List, [], ◌∷◌, ◌++◌, map, length, Option, Some, None, slice_get, refl, sym, ap, subst, ◌∙◌, append_assoc, arith}
use Rattle.std.specs.Prelude.{All, option_map}
use Rattle.std.proofs.lemmas.Bool.{cases_lt}
use Rattle.std.proofs.lemmas.List.{length-append}
use Rattle.std.proofs.lemmas.List.Elements.{All-head, All-tail, All-nil, All-cons}
use Rattle.std.proofs.lemmas.Option.{slice_get-map, slice_get_within}
use Rattle.lists.proofs.Lists.{get-front, get-behind}
use Rattle.w_types.specs.declared.types.FuncType.{FuncType}
use Rattle.w_types.specs.declared.types.ValType.{ValType}
use Rattle.w_types.specs.Groups.{types_of}
use Rattle.w_syntax.specs.Functions.{func_type, type_at}
use Rattle.w_syntax.specs.declared.locals.LocalRun.{LocalRun}
use Rattle.w_syntax.specs.declared.module.Func.{Func}
use Rattle.w_syntax.specs.declared.module.Module.{Module}
use Rattle.w_canon.specs.Supertypes.{KeepsKinds}
use Rattle.w_rules.specs.Spaces.{context_of}
use Rattle.w_rules.specs.Types.{IsValidType}
use Rattle.w_rules.specs.Valid.{Valid, FunctionItem, FunctionValid}
use Rattle.w_link.specs.Shifted.{type_shifted, func_shifted}
use Rattle.w_link.specs.Resolved.{Instance, run_shifted}
use Rattle.w_link.specs.Fits.{Fits}
use Rattle.w_link.specs.Items.{resolved_func}
use Rattle.w_linked.specs.Imports.{Placed}
use Rattle.w_linked.specs.Linked.{of_placed, linked}
use Rattle.w_link.proofs.FineInstructions.{type_has, func_there}
use Rattle.w_link.proofs.Carried.{body_carried}

-- ## Lists of all files

module _ {A : Type 0} (f : Instance → Module → List A) where
  -- those of some files, and of others behind
  pub of_both : (front back : List Placed) → of_placed f (front ++ back) ≡ of_placed f front ++ of_placed f back
  of_both [] back = refl
  of_both (p ∷ front) back = ap (λ (l : List A). f p.instance p.source ++ l) (of_both front back) ∙ sym (append_assoc (f p.instance p.source) (of_placed f front) (of_placed f back))

  -- an item of all files is one of a file
  pub record InFile (ps : List Placed) (j : ℕ) (x : A) : Type 0 where
    pub front : List Placed
    pub file : Placed
    pub back : List Placed
    pub index : ℕ
    pub is : ps ≡ front ++ file ∷ back
    pub counts : j ≡ length (of_placed f front) + index
    pub there : slice_get (f file.instance file.source) index ≡ Some x

  later_file : (p : Placed) (ps : List Placed) (j k : ℕ) (x : A) → j ≡ length (f p.instance p.source) + k → InFile ps k x → InFile (p ∷ ps) j x
  later_file p ps j k x e r = record {
    front = p ∷ r.front;
    file = r.file;
    back = r.back;
    index = r.index;
    is = ap (λ (l : List Placed). p ∷ l) r.is;
    counts = omega (arith, e, r.counts, length-append (f p.instance p.source) (of_placed f r.front));
    there = r.there;
  }

  in_first : (p : Placed) (ps : List Placed) (j : ℕ) (x : A) → ((k : ℕ) → slice_get (of_placed f ps) k ≡ Some x → InFile ps k x)
      → slice_get (of_placed f (p ∷ ps)) j ≡ Some x
      → (j < length (f p.instance p.source)) ⊎ (length (f p.instance p.source) ≤ j) → InFile (p ∷ ps) j x
  in_first p ps j x again is (inl low) = record {
    front = [];
    file = p;
    back = ps;
    index = j;
    is = refl;
    counts = omega arith;
    there = sym (get-front (f p.instance p.source) (of_placed f ps) j low) ∙ is;
  }
  in_first p ps j x again is (inr high) =
      let own = f p.instance p.source in
      let k = j - length own in
      let e : j ≡ length own + k = omega (arith, high) in
      later_file p ps j k x e (again k (sym (get-behind own (of_placed f ps) k) ∙ ap (slice_get (own ++ of_placed f ps)) (sym e) ∙ is))

  pub in_file : (ps : List Placed) (j : ℕ) (x : A) → slice_get (of_placed f ps) j ≡ Some x → InFile ps j x
  in_file [] j x is = absurd (cc)
  in_file (p ∷ ps) j x is = in_first p ps j x (λ k. in_file ps k x) is (cases_lt j (length (f p.instance p.source)))

  -- an item of a file is one of all
  pub among_all : (ps front back : List Placed) (p : Placed) (k : ℕ) (x : A) → ps ≡ front ++ p ∷ back → slice_get (f p.instance p.source) k ≡ Some x
      → slice_get (of_placed f ps) (length (of_placed f front) + k) ≡ Some x
  among_all ps front back p k x is there =
      let own = f p.instance p.source in
      ap (λ (l : List Placed). slice_get (of_placed f l) (length (of_placed f front) + k)) is
      ∙ ap (λ (l : List A). slice_get l (length (of_placed f front) + k)) (of_both front (p ∷ back))
      ∙ get-behind (of_placed f front) (of_placed f (p ∷ back)) k
      ∙ get-front own (of_placed f back) k (slice_get_within own k x there)
      ∙ there

-- ## Functions

abbrev pub functions_in : Instance → Module → List ℕ
functions_in i m = map (λ (x : ℕ). i.types + x) m.functions

abbrev pub codes_in : Instance → Module → List Func
codes_in i m = map (resolved_func i) m.codes

-- what is known of all types, and of each file
pub record AreFiles (ps : List Placed) : Type 0 where
  pub keeps : KeepsKinds (linked ps).types
  pub valid : (front back : List Placed) (p : Placed) → ps ≡ front ++ p ∷ back → Valid p.source
  pub fits : (front back : List Placed) (p : Placed) → ps ≡ front ++ p ∷ back → Fits p.instance (context_of p.source) (context_of (linked ps))
  -- each function has code
  pub codes : (front back : List Placed) (p : Placed) → ps ≡ front ++ p ∷ back → length p.source.functions ≡ length p.source.codes
  pub counts : (front back : List Placed) → ps ≡ front ++ back → length (of_placed functions_in front) ≡ length (of_placed codes_in front)

-- an item that was made is made of one
pub mapped_there : {A B : Type 0} (f : A → B) (xs : List A) (k : ℕ) (y : B) → slice_get (map f xs) k ≡ Some y → (x : A) × (slice_get xs k ≡ Some x) × (f x ≡ y)
mapped_there {A = A} f xs k y is = by (slice_get xs k) refl
  where
    by : (o : Option A) → slice_get xs k ≡ o → (x : A) × (slice_get xs k ≡ Some x) × (f x ≡ y)
    by None e = absurd (let d = slice_get-map f xs k ∙ ap (option_map f) e in cc)
    by (Some x) e = let d = slice_get-map f xs k ∙ ap (option_map f) e in (x, e, (let s : f x ≡ y = cc in s))

runs_valid : (i : Instance) (n m : ℕ) → ((t : ValType) → IsValidType n t → IsValidType m (type_shifted i.types t)) → (rs : List LocalRun)
    → All (λ (r : LocalRun). IsValidType n r.kind) rs
    → All (λ (r : LocalRun). IsValidType m r.kind) (map (run_shifted i.types) rs)
runs_valid i n m carry [] h = All-nil (λ (r : LocalRun). IsValidType m r.kind)
runs_valid i n m carry (r ∷ rs) h = All-cons (λ (r : LocalRun). IsValidType m r.kind) (run_shifted i.types r) (map (run_shifted i.types) rs)
    (carry r.kind (All-head (λ (r : LocalRun). IsValidType n r.kind) r rs h)) (runs_valid i n m carry rs (All-tail (λ (r : LocalRun). IsValidType n r.kind) r rs h))

module _ (ps : List Placed) (files : AreFiles ps) where
  -- the type of a file's function is there
  pub own_type : (p : Placed) (k : ℕ) (t : FuncType) (o : Option ℕ) → Fits p.instance (context_of p.source) (context_of (linked ps))
      → slice_get p.source.functions k ≡ o → type_at p.source o ≡ Some t
      → (y : ℕ) → o ≡ Some y → func_type (linked ps) (p.instance.types + y) ≡ Some (func_shifted p.instance.types t)
  own_type p k t None f is h y e = absurd (cc)
  own_type p k t (Some x) f is h y e =
      let same : x ≡ y = cc in
      func_there p.instance (context_of p.source) (context_of (linked ps)) f y t (subst (λ z. func_type p.source z ≡ Some t) same h)

  -- function j
  pub function_sound : (j y : ℕ) → slice_get (linked ps).functions j ≡ Some y → FunctionValid (linked ps) j
  function_sound j y is =
      let r = in_file functions_in ps j y is in
      let p = r.file in
      let i = p.instance in
      let x = mapped_there (λ (x : ℕ). i.types + x) p.source.functions r.index y r.there in
      let v : FunctionValid p.source r.index = files.valid r.front r.back p r.is (FunctionItem r.index) (inl (slice_get_within p.source.functions r.index x.0 x.1)) in
      let f = files.fits r.front r.back p r.is in
      let code = slice_get-map (resolved_func i) p.source.codes r.index ∙ ap (option_map (resolved_func i)) v.has_code in
      let place : j ≡ length (of_placed codes_in r.front) + r.index = omega (arith, r.counts, files.counts r.front (p ∷ r.back) r.is) in
      record {
        type = func_shifted i.types v.type;
        func = resolved_func i v.func;
        has_type = ap (type_at (linked ps)) is ∙ ap (func_type (linked ps)) (sym x.2)
            ∙ own_type p r.index v.type (slice_get p.source.functions r.index) f refl v.has_type x.0 x.1;
        has_code = ap (slice_get (linked ps).codes) place ∙ among_all codes_in ps r.front r.back p r.index (resolved_func i v.func) r.is code;
        locals = runs_valid i (length (types_of p.source.types)) (length (types_of (linked ps).types))
            (λ t h. type_has i (context_of p.source) (context_of (linked ps)) f t h) v.func.locals v.locals;
        body = body_carried i (context_of p.source) (context_of (linked ps)) files.keeps f v.type.params v.func.locals v.type.results v.func.body v.body;
      }
