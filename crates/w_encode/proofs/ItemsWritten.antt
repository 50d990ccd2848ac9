-- The items of an element segment, written one after another by their places.
use Rattle.std.proofs.Common.{◌≡◌, ℕ, ◌+◌, Bool, true, false, List, [], ◌∷◌, ◌++◌, drop, Option, Some, refl, sym, ap, ◌∙◌, append_assoc}
use Rattle.std.specs.List.{flat_map}
use Rattle.std.specs.Prelude.{◌&&◌, is_some, slice_get}
use Rattle.std.proofs.lemmas.List.{drop_more}
use Rattle.std.proofs.lemmas.Option.{slice_get_within, get_or_from_slice_get}
use Rattle.w_syntax.specs.Code.{Code, Done, Plain}
use Rattle.w_syntax.specs.Expr.{tokens}
use Rattle.w_syntax.specs.declared.instructions.Op.{Op}
use Rattle.w_syntax.specs.declared.instructions.Op.TheVariants as op
use Rattle.w_syntax.specs.declared.instructions.ReferenceOp.{ReferenceOp}
use Rattle.w_encode.specs.FieldsWritten.{function_of, are_functions}
use Rattle.w_encode.specs.InstructionsWritten.{op_written, reference_written, expr_written}

-- the item at a place, and those behind it
drop_at_item : {A : Type 0} (xs : List A) (i : ℕ) (x : A) → slice_get xs i ≡ Some x → drop i xs ≡ x ∷ drop (i + 1) xs
drop_at_item xs i x e = drop_more xs i x (slice_get_within xs i x e) ∙ ap (λ z. z ∷ drop (i + 1) xs) (get_or_from_slice_get xs i x x e)

-- one item more is written, by f
pub item_more : (f : Code → List ℕ) (cs : List Code) (i : ℕ) (c : Code) (out new total : List ℕ) → slice_get cs i ≡ Some c → new ≡ out ++ f c
    → out ++ flat_map f (drop i cs) ≡ total → new ++ flat_map f (drop (i + 1) cs) ≡ total
item_more f cs i c out new total is wrote h =
    ap (λ (l : List ℕ). l ++ flat_map f (drop (i + 1) cs)) wrote ∙ append_assoc out (f c) (flat_map f (drop (i + 1) cs))
    ∙ ap (λ (ds : List Code). out ++ flat_map f ds) (sym (drop_at_item cs i c is)) ∙ h

-- ## Whether all items are functions

from_place : (cs : List Code) (i : ℕ) (c : Code) (o : Option ℕ) (b : Bool) → slice_get cs i ≡ Some c → o ≡ function_of c → is_some o ≡ b
    → are_functions (drop i cs) ≡ are_functions cs → b && are_functions (drop (i + 1) cs) ≡ are_functions cs
from_place cs i c o b is e t h =
    ap (λ x. x && are_functions (drop (i + 1) cs)) (sym t ∙ ap is_some e) ∙ ap are_functions (sym (drop_at_item cs i c is)) ∙ h

-- not where the item at a place is none
pub not_functions : (cs : List Code) (i : ℕ) (c : Code) (o : Option ℕ) → slice_get cs i ≡ Some c → o ≡ function_of c → is_some o ≡ false
    → are_functions (drop i cs) ≡ are_functions cs → false ≡ are_functions cs
not_functions cs i c o is e t h = from_place cs i c o false is e t h

-- and by those behind it where it is one
pub functions_behind : (cs : List Code) (i : ℕ) (c : Code) (o : Option ℕ) → slice_get cs i ≡ Some c → o ≡ function_of c → is_some o ≡ true
    → are_functions (drop i cs) ≡ are_functions cs → are_functions (drop (i + 1) cs) ≡ are_functions cs
functions_behind cs i c o is e t h = from_place cs i c o true is e t h

-- ## An expression of one instruction

one_written : (o : Op) → expr_written (Plain o Done) ≡ op_written o ++ 0x0B ∷ []
unfolding tokens
one_written o = refl

-- a reference instruction and an end
pub reference_put : (out new more : List ℕ) (r : ReferenceOp) → new ≡ out ++ reference_written r → more ≡ new ++ 0x0B ∷ []
    → more ≡ out ++ expr_written (Plain (op.Reference r) Done)
reference_put out new more r e f =
    f ∙ ap (λ (l : List ℕ). l ++ 0x0B ∷ []) e ∙ append_assoc out (reference_written r) (0x0B ∷ []) ∙ ap (λ (l : List ℕ). out ++ l) (sym (one_written (op.Reference r)))
