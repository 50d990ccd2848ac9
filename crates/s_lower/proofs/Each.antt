-- What each declaration of a list adds, one after another.
use Rattle.std.proofs.Common.{◌≡◌, ℕ, ◌+◌, ◌<◌, false, List, [], ◌∷◌, ◌++◌, length, map, drop, get_or, refl, sym, ap, ◌∙◌, append_assoc}
use Rattle.w_types.specs.declared.types.HeapType.TheVariants as heap
use Rattle.w_syntax.specs.declared.module.Elem.{Elem}
use Rattle.w_syntax.specs.declared.module.ElemMode.TheVariants as mode
use Rattle.w_syntax.specs.Code.{Code}
use Rattle.w_syntax.specs.Items.{reference_to}
use Rattle.s_syntax.specs.declared.script.Declaration.{Declaration}
use Rattle.s_index.specs.Numbers.{function_index}
use Rattle.s_code.specs.Lowered.{for_each, declared}
use Rattle.lists.proofs.Lists.{cell}

-- the items of one declaration more
pub one_more : {A : Type 0} (make : Declaration → List A) (ds : List Declaration) (i : ℕ) (d : Declaration) (old new before : List A) → i < length ds → d ≡ get_or ds i d
    → new ≡ old ++ make d → old ++ for_each make (drop i ds) ≡ before ++ for_each make ds → new ++ for_each make (drop (i + 1) ds) ≡ before ++ for_each make ds
one_more make ds i d old new before h e made is =
    ap (λ (xs : List _). xs ++ for_each make (drop (i + 1) ds)) made
    ∙ append_assoc old (make d) (for_each make (drop (i + 1) ds))
    ∙ ap (λ (es : List Declaration). old ++ for_each make es) (sym (cell ds i d h e))
    ∙ is

-- ## Functions that are declared

references : (ds es : List Declaration) → map reference_to (map (λ (d : Declaration). function_index ds d.name) es) ≡ map (λ (d : Declaration). reference_to (function_index ds d.name)) es
references ds [] = refl
references ds (e ∷ es) = ap (λ (ks : List Code). reference_to (function_index ds e.name) ∷ ks) (references ds es)

-- the segment, where there are some
pub declared_some : (ds es : List Declaration) (xs : List ℕ) (made : List Elem) → xs ≡ map (λ (d : Declaration). function_index ds d.name) es → (length xs ≡ 0 → ⊥)
    → made ≡ record { kind = record { nullable = false; heap = heap.Func }; items = map reference_to xs; mode = mode.Declarative } ∷ [] → made ≡ declared ds es
declared_some ds [] xs made is some m = absurd (some (ap (λ (ys : List ℕ). length ys) is))
declared_some ds (e ∷ es) xs made is some m =
    m ∙ ap (λ (ks : List Code). let s : Elem = record { kind = record { nullable = false; heap = heap.Func }; items = ks; mode = mode.Declarative } in s ∷ []) (ap (λ (ys : List ℕ). map reference_to ys) is ∙ references ds (e ∷ es))
