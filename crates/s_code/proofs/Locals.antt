-- Locals of names.
use Rattle.std.proofs.Common.{◌≡◌, ℕ, Bool, true, false, cond, List, ◌∷◌, Option, Some, Bor, refl, ap, ◌∙◌}
use Rattle.std.specs.BTreeMap.{BTreeMap, is_at}
use Rattle.std.specs.BTreeMap as tree
use Rattle.std.specs.Cmp.Lexicographic.{slice_cmp}
use Rattle.std.specs.Option.{option_map}
use Rattle.std.specs.Ordering.{nat_cmp}
use Rattle.std.specs.Str.{bytes_eq}
use Rattle.std.proofs.lemmas.Map.Text.{is_eq-slice_cmp}
use Rattle.s_code.specs.declared.layout.LocalName.{LocalName}
use Rattle.s_code.specs.Layouts.{Local, local_of}
use Rattle.s_code.specs.Views.{local_in, locals_in, found, FoundLocals}

mapped_cond : {A B : Type 0} (f : A → B) (b : Bool) (x : A) (o : Option A) → option_map f (cond b (Some x) o) ≡ cond b (Some (f x)) (option_map f o)
mapped_cond f true x o = refl
mapped_cond f false x o = refl

-- one name more, in front
pub found_more : (x : Bor (List ℕ)) (l : LocalName) (old more : BTreeMap (Bor (List ℕ)) LocalName) (ls : List LocalName) → x.now ≡ l.name.now
    → ((q : Bor (List ℕ)) → tree.get (λ x y. slice_cmp nat_cmp x.now y.now) more q ≡ cond (is_at (λ y. slice_cmp nat_cmp x.now y.now) q) (Some l) (tree.get (λ x y. slice_cmp nat_cmp x.now y.now) old q))
    → FoundLocals old ls → FoundLocals more (l ∷ ls)
found_more x l old more ls name updates h q =
    ap (option_map local_in) (updates (record { ref_ptr = (0, 0); now = q }))
    ∙ mapped_cond local_in (is_at (λ (y : Bor (List ℕ)). slice_cmp nat_cmp x.now y.now) (record { ref_ptr = (0, 0); now = q })) l (tree.get (λ (x y : Bor (List ℕ)). slice_cmp nat_cmp x.now y.now) old (record { ref_ptr = (0, 0); now = q }))
    ∙ ap (λ (b : Bool). cond b (Some (local_in l)) (found old q)) (is_eq-slice_cmp x.now q)
    ∙ ap (λ (o : Option Local). cond (bytes_eq x.now q) (Some (local_in l)) o) (h q)
    ∙ ap (λ (n : List ℕ). cond (bytes_eq n q) (Some (local_in l)) (local_of (locals_in ls) q)) name
