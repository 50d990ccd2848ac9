-- Exports by their names.
use Rattle.std.proofs.Common.{◌≡◌, ℕ, List, [], ◌∷◌, Bool, true, false, cond, Option, Some, Bor, refl, sym, ap, ◌∙◌}
use Rattle.std.specs.BTreeMap.{BTreeMap, is_at}
use Rattle.std.specs.BTreeMap as tree
use Rattle.std.specs.Cmp.Lexicographic.{slice_cmp}
use Rattle.std.specs.Option.{option_map}
use Rattle.std.specs.Ordering.{nat_cmp}
use Rattle.std.specs.Str.{bytes_eq}
use Rattle.std.proofs.lemmas.Map.Text.{is_eq-slice_cmp}
use Rattle.w_syntax.specs.declared.module.Export.{Export}
use Rattle.w_syntax.specs.declared.module.ExternIndex.{ExternIndex}
use Rattle.w_link.specs.Resolved.{Instance}
use Rattle.w_linked.specs.Imports.{Address, address_of, exported_in}
use Rattle.w_placing.specs.Exports.{index_named, found, Finds}

-- one export more, in front
pub finds_more : (x : Bor (List ℕ)) (v : ExternIndex) (d : Export) (old more : BTreeMap (Bor (List ℕ)) ExternIndex) (es : List Export) → x.now ≡ d.name → v ≡ d.index
    → ((q : Bor (List ℕ)) → tree.get (λ x y. slice_cmp nat_cmp x.now y.now) more q ≡ cond (is_at (λ y. slice_cmp nat_cmp x.now y.now) q) (Some v) (tree.get (λ x y. slice_cmp nat_cmp x.now y.now) old q))
    → Finds old es → Finds more (d ∷ es)
finds_more x v d old more es name is updates h q =
    updates (record { ref_ptr = (0, 0); now = q })
    ∙ ap (λ (b : Bool). cond b (Some v) (found old q)) (is_eq-slice_cmp x.now q)
    ∙ ap (λ (o : Option ExternIndex). cond (bytes_eq x.now q) (Some v) o) (h q)
    ∙ ap (λ (n : List ℕ). cond (bytes_eq n q) (Some v) (index_named es q)) name
    ∙ ap (λ (e : ExternIndex). cond (bytes_eq d.name q) (Some e) (index_named es q)) is

-- a choice between what is there and another
mapped_cond : {A B : Type 0} (f : A → B) (b : Bool) (x : A) (o : Option A) → option_map f (cond b (Some x) o) ≡ cond b (Some (f x)) (option_map f o)
mapped_cond f true x o = refl
mapped_cond f false x o = refl

-- the address of the first export of a name
pub exported_named : (i : Instance) (es : List Export) (name : List ℕ) → exported_in i es name ≡ option_map (address_of i) (index_named es name)
exported_named i [] name = refl
exported_named i (e ∷ es) name =
    ap (λ (o : Option Address). cond (bytes_eq e.name name) (Some (address_of i e.index)) o) (exported_named i es name)
    ∙ sym (mapped_cond (address_of i) (bytes_eq e.name name) e.index (index_named es name))
