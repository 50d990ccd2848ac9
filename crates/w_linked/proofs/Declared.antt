-- Functions that a file declares are declared in the linked module.
use Rattle.std.proofs.Common.{◌≡◌, ◌<◌, inl, inr, ℕ, zero, suc, Bool, true, false, List, [], ◌∷◌, ◌++◌, map, flat_map, length, Option, Some, None, slice_get, refl, sym, ap, subst, ◌∙◌, arith}
use Rattle.std.specs.Prelude.{Contains, slice_index_or, option_map}
use Rattle.std.proofs.lemmas.Grind.{flat_map-append}
use Rattle.std.proofs.lemmas.List.{map-append}
use Rattle.std.proofs.lemmas.List.Elements.{Contains-append_left, Contains-append_right, Contains-append_cases}
use Rattle.std.proofs.lemmas.Option.{get_or_from_slice_get}
use Rattle.w_syntax.specs.Code.{Code, Done, Plain, Block, If, IfElse}
use Rattle.w_syntax.specs.declared.instructions.Op.{Op}
use Rattle.w_syntax.specs.declared.instructions.Op.TheVariants as op
use Rattle.w_syntax.specs.declared.instructions.ReferenceOp.TheVariants as reference
use Rattle.w_syntax.specs.declared.module.Elem.{Elem}
use Rattle.w_syntax.specs.declared.module.Export.{Export}
use Rattle.w_syntax.specs.declared.module.ExternIndex.{ExternIndex}
use Rattle.w_syntax.specs.declared.module.ExternIndex.TheVariants as index
use Rattle.w_syntax.specs.declared.module.GlobalVariable.{GlobalVariable}
use Rattle.w_syntax.specs.declared.module.Module.{Module}
use Rattle.w_syntax.specs.declared.module.Table.{Table}
use Rattle.w_rules.specs.Spaces.{IsDeclared, declared_of, functions_of, named_by, named_in, named_in_some, named_of, exported}
use Rattle.w_rules.proofs.Marks.{declared_decided}
use Rattle.w_link.specs.Resolved.{Instance, at, op_resolved, code_resolved}
use Rattle.w_link.specs.Items.{resolved_table, resolved_global, resolved_index, resolved_export, resolved_elem}
use Rattle.w_linked.specs.Imports.{Placed}
use Rattle.w_linked.specs.Linked.{of_placed, linked}
use Rattle.w_linked.proofs.SoundFunctions.{of_both}

-- ## Names

named_op : (i : Instance) (o : Op) → named_by (op_resolved i o) ≡ map (at i.functions) (named_by o)
named_op i (op.Control o) = refl
named_op i (op.Parametric o) = refl
named_op i (op.Variable o) = refl
named_op i (op.Table o) = refl
named_op i (op.Memory o) = refl
named_op i (op.Numeric o) = refl
named_op i (op.Reference (reference.Null h)) = refl
named_op i (op.Reference reference.IsNull) = refl
named_op i (op.Reference (reference.Func x)) = refl
named_op i (op.Reference reference.AsNonNull) = refl
named_op i (op.Switching o) = refl

both_mapped : (f : ℕ → ℕ) {xs ys : List ℕ} (xs' ys' : List ℕ) → xs ≡ map f xs' → ys ≡ map f ys' → xs ++ ys ≡ map f (xs' ++ ys')
both_mapped f {xs = xs} {ys = ys} xs' ys' e h = ap (λ (l : List ℕ). l ++ ys) e ∙ ap (λ (l : List ℕ). map f xs' ++ l) h ∙ sym (map-append f xs' ys')

named_code : (i : Instance) (k : Code) → named_in (code_resolved i k) ≡ map (at i.functions) (named_in k)
named_code i Done = refl
named_code i (Plain o k) = both_mapped (at i.functions) (named_by o) (named_in k) (named_op i o) (named_code i k)
named_code i (Block kind x b k) = both_mapped (at i.functions) (named_in b) (named_in k) (named_code i b) (named_code i k)
named_code i (If x b k) = both_mapped (at i.functions) (named_in b) (named_in k) (named_code i b) (named_code i k)
named_code i (IfElse x b y k) =
    both_mapped (at i.functions) (named_in b) (named_in y ++ named_in k) (named_code i b)
    (both_mapped (at i.functions) (named_in y) (named_in k) (named_code i y) (named_code i k))

named_some : (i : Instance) (o : Option Code) → named_in_some (option_map (code_resolved i) o) ≡ map (at i.functions) (named_in_some o)
named_some i (Some k) = named_code i k
named_some i None = refl

named_export : (i : Instance) (x : ExternIndex) → exported (resolved_index i x) ≡ map (at i.functions) (exported x)
named_export i (index.Func x) = refl
named_export i (index.Table x) = refl
named_export i (index.Memory x) = refl
named_export i (index.Global x) = refl
named_export i (index.Tag x) = refl

-- what resolved items name
flat_resolved : {A : Type 0} (r : A → A) (f : ℕ → ℕ) (h : A → List ℕ) → ((x : A) → h (r x) ≡ map f (h x)) → (xs : List A) → flat_map h (map r xs) ≡ map f (flat_map h xs)
flat_resolved r f h e [] = refl
flat_resolved r f h e (x ∷ xs) = both_mapped f (h x) (flat_map h xs) (e x) (flat_resolved r f h e xs)

codes_resolved : (i : Instance) (ks : List Code) → flat_map named_in (map (code_resolved i) ks) ≡ map (at i.functions) (flat_map named_in ks)
codes_resolved i ks = flat_resolved (code_resolved i) (at i.functions) named_in (named_code i) ks

-- ## Among all

more_contained : (y x : ℕ) (ys : List ℕ) → Contains ys x → Contains (y ∷ ys) x
more_contained y x ys c = (suc c.0, (let l = c.1 in omega (arith, l)), c.2)

one_mapped : (f : ℕ → ℕ) (y x : ℕ) (ys : List ℕ) → (Contains ys x → Contains (map f ys) (f x)) → (k : ℕ) → k < length (y ∷ ys) → slice_index_or (y ∷ ys) k x ≡ x
    → Contains (map f (y ∷ ys)) (f x)
one_mapped f y x ys again zero l e = (0, omega arith, ap f e)
one_mapped f y x ys again (suc k) l e = more_contained (f y) (f x) (map f ys) (again (k, omega (arith, l), e))

contains_mapped : (f : ℕ → ℕ) (xs : List ℕ) (x : ℕ) → Contains xs x → Contains (map f xs) (f x)
contains_mapped f [] x c = absurd (let l = c.1 in omega (arith, l))
contains_mapped f (y ∷ ys) x c = one_mapped f y x ys (contains_mapped f ys x) c.0 c.1 c.2

module _ {A : Type 0} (g : Instance → Module → List A) (h : A → List ℕ) where
  among : (front back : List Placed) (p : Placed) (x : ℕ) → Contains (flat_map h (g p.instance p.source)) x → Contains (flat_map h (of_placed g (front ++ p ∷ back))) x
  among front back p x c =
      let own = g p.instance p.source in
      let e : flat_map h (of_placed g (front ++ p ∷ back)) ≡ flat_map h (of_placed g front) ++ (flat_map h own ++ flat_map h (of_placed g back)) =
      ap (flat_map h) (of_both g front (p ∷ back)) ∙ flat_map-append h (of_placed g front) (own ++ of_placed g back)
      ∙ ap (λ (l : List ℕ). flat_map h (of_placed g front) ++ l) (flat_map-append h own (of_placed g back)) in
      subst (λ (l : List ℕ). Contains l x) (sym e)
      (Contains-append_right (flat_map h (of_placed g front)) (flat_map h own ++ flat_map h (of_placed g back)) x (Contains-append_left (flat_map h own) (flat_map h (of_placed g back)) x c))

abbrev of_exports : Module → List ℕ
of_exports m = flat_map (λ (e : Export). exported e.index) m.exports

abbrev of_elements : Module → List ℕ
of_elements m = flat_map (λ (e : Elem). flat_map named_in e.items) m.elements

abbrev of_globals : Module → List ℕ
of_globals m = flat_map (λ (g : GlobalVariable). named_in g.init) m.globals

abbrev of_tables : Module → List ℕ
of_tables m = flat_map (λ (t : Table). named_in_some t.init) m.tables

module _ (ps front back : List Placed) (p : Placed) (split : ps ≡ front ++ p ∷ back) where
  moved : {A : Type 0} (r : Instance → A → A) (xs : Module → List A) (h : A → List ℕ) → ((x : A) → h (r p.instance x) ≡ map (at p.instance.functions) (h x)) → (x : ℕ)
      → Contains (flat_map h (xs p.source)) x → Contains (flat_map h (of_placed (λ i m. map (r i) (xs m)) ps)) (at p.instance.functions x)
  moved r xs h e x c =
      let own = contains_mapped (at p.instance.functions) (flat_map h (xs p.source)) x c in
      let here = subst (λ (l : List ℕ). Contains l (at p.instance.functions x)) (sym (flat_resolved (r p.instance) (at p.instance.functions) h e (xs p.source))) own in
      subst (λ (l : List Placed). Contains (flat_map h (of_placed (λ i m. map (r i) (xs m)) l)) (at p.instance.functions x)) (sym split)
      (among (λ i m. map (r i) (xs m)) h front back p (at p.instance.functions x) here)

  abbrev L : Module
  L = linked ps

  abbrev address : ℕ → ℕ
  address x = at p.instance.functions x

  third : (x : ℕ) → Contains (of_globals p.source ++ of_tables p.source) x → Contains (of_globals L ++ of_tables L) (address x)
  third x c = elim (Contains-append_cases (of_globals p.source) (of_tables p.source) x c) [
    | inl a ↦ Contains-append_left (of_globals L) (of_tables L) (address x)
        (moved resolved_global (λ m. m.globals) (λ (g : GlobalVariable). named_in g.init) (λ g. named_code p.instance g.init) x a)
    | inr b ↦ Contains-append_right (of_globals L) (of_tables L) (address x)
        (moved resolved_table (λ m. m.tables) (λ (t : Table). named_in_some t.init) (λ t. named_some p.instance t.init) x b)
  ]

  second : (x : ℕ) → Contains (of_elements p.source ++ (of_globals p.source ++ of_tables p.source)) x
      → Contains (of_elements L ++ (of_globals L ++ of_tables L)) (address x)
  second x c = elim (Contains-append_cases (of_elements p.source) (of_globals p.source ++ of_tables p.source) x c) [
    | inl a ↦ Contains-append_left (of_elements L) (of_globals L ++ of_tables L) (address x)
        (moved resolved_elem (λ m. m.elements) (λ (e : Elem). flat_map named_in e.items) (λ e. codes_resolved p.instance e.items) x a)
    | inr b ↦ Contains-append_right (of_elements L) (of_globals L ++ of_tables L) (address x) (third x b)
  ]

  -- what the file names is named, by its address
  named_there : (x : ℕ) → Contains (named_of p.source) x → Contains (named_of L) (address x)
  named_there x c = elim (Contains-append_cases (of_exports p.source) (of_elements p.source ++ (of_globals p.source ++ of_tables p.source)) x c) [
    | inl a ↦ Contains-append_left (of_exports L) (of_elements L ++ (of_globals L ++ of_tables L)) (address x)
        (moved resolved_export (λ m. m.exports) (λ (e : Export). exported e.index) (λ e. named_export p.instance e.index) x a)
    | inr b ↦ Contains-append_right (of_exports L) (of_elements L ++ (of_globals L ++ of_tables L)) (address x) (second x b)
  ]

  flag_there : (s : List Bool) (x : ℕ) → slice_index_or s x false ≡ true → slice_get s x ≡ Some true
  flag_there [] x e = absurd (cc)
  flag_there (b ∷ s) zero e = ap (λ (z : Bool). Some z) e
  flag_there (b ∷ s) (suc x) e = flag_there s x e

  -- a function that the file declares is declared, where it is there
  pub declared_there : (x : ℕ) → at p.instance.functions x < length (functions_of (linked ps)) → slice_get (declared_of p.source) x ≡ Some true
      → slice_get (declared_of (linked ps)) (at p.instance.functions x) ≡ Some true
  declared_there x there e =
      let flag : true ≡ slice_index_or (declared_of p.source) x false = sym (get_or_from_slice_get (declared_of p.source) x true false e) in
      let d : IsDeclared p.source x = (declared_decided p.source x true flag).0 refl in
      let y = at p.instance.functions x in
      let all : IsDeclared (linked ps) y = record { is_there = there; is_named = named_there x d.is_named } in
      let set = (declared_decided (linked ps) y (slice_index_or (declared_of (linked ps)) y false) refl).1 all in
      flag_there (declared_of (linked ps)) y set
