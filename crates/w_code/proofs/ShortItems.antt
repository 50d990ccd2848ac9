-- What the items of element segments are read as: one `ref.func` or `ref.null`, and functions by their indices.
use Rattle.std.proofs.Common.{◌≡◌, ℕ, zero, suc, List, [], ◌∷◌, map, drop, Option, Some, None, refl, ap, ◌∙◌}
use Rattle.std.specs.Prelude.{option_map}
use Rattle.w_leb.specs.Format.{Reading, ReadsAt, byte, then, image, many, counted}
use Rattle.w_leb.specs.FormatLaws.{some_parts}
use Rattle.w_leb.specs.Formats.{number, vec}
use Rattle.w_leb.specs.Number.{unsigned}
use Rattle.w_types.specs.declared.types.HeapType.{HeapType}
use Rattle.w_syntax.specs.Code.{Done, Plain, after}
use Rattle.w_syntax.specs.Expr.{Top, step, read_expr}
use Rattle.w_syntax.specs.ExprLaws.{one_on}
use Rattle.w_syntax.specs.Fields.{expr, function_item}
use Rattle.w_syntax.specs.Items.{reference_to, null_of}
use Rattle.w_syntax.specs.Tokens.{instruction, other, token}
use Rattle.w_syntax.specs.Types.{heaptype}
use Rattle.w_syntax.specs.declared.instructions.Op.{Op}
use Rattle.w_syntax.specs.declared.instructions.Op.TheVariants as op
use Rattle.w_syntax.specs.declared.instructions.ReferenceOp.TheVariants as reference
use Rattle.w_syntax.specs.declared.instructions.Token.TheVariants as tok

-- ## One instruction and its end

func_token : (more after : List ℕ) (x : ℕ) → unsigned 32 more ≡ Some (x, after) → token.read (0xD2 ∷ more) ≡ Some (tok.Plain (op.Reference (reference.Func x)), after)
unfolding token instruction other
func_token more after x e = rw e refl

null_token : (more after : List ℕ) (h : HeapType) → heaptype.read more ≡ Some (h, after) → token.read (0xD0 ∷ more) ≡ Some (tok.Plain (op.Reference (reference.Null h)), after)
unfolding token instruction other
null_token more after h e = rw e refl

end_token : (rest : List ℕ) → token.read (0x0B ∷ rest) ≡ Some (tok.End, rest)
unfolding token
end_token rest = refl

-- an instruction and its end are an expression
one_read : (b rest : List ℕ) (o : Op) → token.read b ≡ Some (tok.Plain o, 0x0B ∷ rest) → read_expr b ≡ Some (Plain o Done, rest)
unfolding read_expr step after
one_read b rest o e = one_on Top Done b (tok.Plain o) (0x0B ∷ rest) e ∙ one_on Top (Plain o Done) (0x0B ∷ rest) tok.End rest (end_token rest)

-- the byte in front
pub in_front : (b more : List ℕ) (k : ℕ) → byte b ≡ Some (k, more) → b ≡ k ∷ more
in_front [] more k e = absurd cc
in_front (j ∷ b) more k e = let s = some_parts j k b more e in cc (s.0, s.1)

pub function_read : (b more after rest : List ℕ) (x : ℕ) → byte b ≡ Some (0xD2, more) → unsigned 32 more ≡ Some (x, after) → byte after ≡ Some (0x0B, rest)
    → expr.read b ≡ Some (reference_to x, rest)
unfolding expr
function_read b more after rest x t n e =
    one_read b rest _ (ap token.read (in_front b more 0xD2 t) ∙ func_token more after x n ∙ ap (λ (l : List ℕ). Some (tok.Plain (op.Reference (reference.Func x)), l)) (in_front after rest 0x0B e))

pub null_read : (b more after rest : List ℕ) (h : HeapType) → byte b ≡ Some (0xD0, more) → heaptype.read more ≡ Some (h, after) → byte after ≡ Some (0x0B, rest)
    → expr.read b ≡ Some (null_of h, rest)
unfolding expr
null_read b more after rest h t n e =
    one_read b rest _ (ap token.read (in_front b more 0xD0 t) ∙ null_token more after h n ∙ ap (λ (l : List ℕ). Some (tok.Plain (op.Reference (reference.Null h)), l)) (in_front after rest 0x0B e))

-- ## Lists of what stands for something

many_image : {A B : Type 0} (f : A → B) (r : Reading A) (n : ℕ) (b : List ℕ) → many (image f r) n b ≡ image (map f) (many r n) b
unfolding many
many_image f r zero b = refl
many_image {A} {B} f r (suc n) b = by (r b) (λ rest. many_image f r n rest)
  where
    later : (x : A) (o : Option (List A × List ℕ)) (p : Option (List B × List ℕ)) → p ≡ then o (λ xs rest. Some (map f xs, rest))
        → then p (λ ys more. Some (f x ∷ ys, more)) ≡ then (then o (λ xs more. Some (x ∷ xs, more))) (λ xs rest. Some (map f xs, rest))
    later x None p e = rw e refl
    later x (Some q) p e = rw e refl

    by : (o : Option (A × List ℕ)) → ((rest : List ℕ) → many (image f r) n rest ≡ image (map f) (many r n) rest)
        → then (then o (λ x rest. Some (f x, rest))) (λ y rest. then (many (image f r) n rest) (λ ys more. Some (y ∷ ys, more)))
        ≡ then (then o (λ x rest. then (many r n rest) (λ xs more. Some (x ∷ xs, more)))) (λ xs rest. Some (map f xs, rest))
    by None again = refl
    by (Some p) again = later p.0 (many r n p.1) (many (image f r) n p.1) (again p.1)

counted_image : {A B : Type 0} (f : A → B) (r : Reading A) (b : List ℕ) → counted (unsigned 32) (image f r) b ≡ image (map f) (counted (unsigned 32) r) b
unfolding counted
counted_image f r b = by (unsigned 32 b)
  where
    by : (o : Option (ℕ × List ℕ)) → then o (λ k rest. many (image f r) k rest) ≡ then (then o (λ k rest. many r k rest)) (λ xs rest. Some (map f xs, rest))
    by None = refl
    by (Some p) = many_image f r p.0 p.1

functions_read : (b : List ℕ) → (vec function_item).read b ≡ image (map reference_to) (vec (number 32)).read b
unfolding function_item
functions_read b = counted_image reference_to (unsigned 32) b

-- indices are read as references
pub indices_read : (bytes : List ℕ) (at : ℕ) (o : Option (List ℕ × ℕ)) → ReadsAt (vec (number 32)).read bytes at o
    → ReadsAt (vec function_item).read bytes at (option_map (λ p. (map reference_to p.0, p.1)) o)
indices_read bytes at None h = functions_read (drop at bytes) ∙ rw h refl
indices_read bytes at (Some p) h = (functions_read (drop at bytes) ∙ rw h.0 refl, h.1, h.2)
