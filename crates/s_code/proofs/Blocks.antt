-- The blocks of clauses, and names that are set.
use Rattle.std.proofs.Common.{◌≡◌, ℕ, suc, ◌+◌, ◌-◌, ◌<◌, List, [], ◌∷◌, ◌++◌, length, take, drop, get_or, refl, sym, ap, ◌∙◌, arith, append_assoc, length-drop}
use Rattle.std.proofs.lemmas.List.{append-nil, length-map}
use Rattle.std.proofs.Math.Seq.{take-suc}
use Rattle.w_syntax.specs.declared.instructions.Token.{Token}
use Rattle.w_syntax.specs.declared.instructions.Token.TheVariants as tok
use Rattle.w_syntax.specs.declared.instructions.BlockKind.TheVariants as kind
use Rattle.w_syntax.specs.declared.instructions.BlockType.TheVariants as block_type
use Rattle.w_syntax.specs.Code.{Code, Done, Plain, Block}
use Rattle.w_syntax.specs.Expr.{tokens}
use Rattle.s_syntax.specs.declared.name.Name.{Name}
use Rattle.s_syntax.specs.declared.script.Declaration.{Declaration}
use Rattle.s_index.specs.Indices.{clause_type_index}
use Rattle.s_code.specs.declared.handler.Placed.{Placed as Kept}
use Rattle.s_code.specs.Clauses.{placed_in, placed_all, open_token, opens, closes}
use Rattle.s_code.specs.Handlers.{Placed, clause_code, blocks, set_names}
use Rattle.s_code.specs.Instructions.{local_set}
use Rattle.s_code.specs.Layouts.{Layout, local_number}
use Rattle.s_code.specs.Writes.{Writes}
use Rattle.lists.proofs.Lists.{cell, cell_back}

-- the last name of a list is set first
pub set_last : (Γ : Layout) (xs : List Name) (x : Name) (c : Code) → set_names Γ (xs ++ x ∷ []) c ≡ Plain (local_set (local_number Γ x)) (set_names Γ xs c)
set_last Γ [] x c = refl
set_last Γ (y ∷ ys) x c = set_last Γ ys x (Plain (local_set (local_number Γ y)) c)

-- blocks are opened, then comes what runs in them, and then they are closed
pub blocks_tokens : (ds : List Declaration) (ps : List Placed) (c : Code) → tokens (blocks ds ps c) ≡ opens ds ps ++ (tokens c ++ closes ds ps)
unfolding tokens
blocks_tokens ds [] c = sym (append-nil (tokens c))
blocks_tokens ds (p ∷ ps) c =
    let behind : Code = clause_code ds (length ps) p in
    blocks_tokens ds ps (Block kind.Block (block_type.Index (clause_type_index ds (length p.clause.arguments))) c behind)
    ∙ ap (λ (ts : List Token). opens ds ps ++ open_token ds p ∷ ts) (append_assoc (tokens c) (tok.End ∷ tokens behind) (closes ds ps))
    ∙ sym (append_assoc (opens ds ps) (open_token ds p ∷ []) (tokens c ++ closes ds (p ∷ ps)))

pub blocks_written : (ds : List Declaration) (ps : List Placed) (c : Code) (o0 o1 o2 o3 : List Token)
    → o1 ≡ o0 ++ opens ds ps → Writes o1 c o2 Done → o3 ≡ o2 ++ closes ds ps → Writes o0 (blocks ds ps c) o3 Done
unfolding tokens
blocks_written ds ps c o0 o1 o2 o3 opened inside closed =
    ap (λ (ts : List Token). o0 ++ ts) (blocks_tokens ds ps c)
    ∙ sym (append_assoc o0 (opens ds ps) (tokens c ++ closes ds ps))
    ∙ ap (λ (ts : List Token). ts ++ (tokens c ++ closes ds ps)) (sym opened)
    ∙ sym (append_assoc o1 (tokens c) (closes ds ps))
    ∙ ap (λ (ts : List Token). ts ++ closes ds ps) (inside ∙ append-nil o2)
    ∙ sym closed ∙ sym (append-nil o3)

-- the last of so many items from the front
pub taken_last : {A : Type 0} (xs : List A) (b : ℕ) (x : A) → b < length xs → x ≡ get_or xs (length xs - 1 - b) x → take (length xs - b) xs ≡ take (length xs - (b + 1)) xs ++ x ∷ []
taken_last xs b x h e =
    let i : length xs - b ≡ suc (length xs - 1 - b) = omega (arith, h) in
    let j : length xs - 1 - b ≡ length xs - (b + 1) = omega (arith, h) in
    let within : length xs - 1 - b < length xs = omega (arith, h) in
    ap (λ (k : ℕ). take k xs) i ∙ take-suc xs (length xs - 1 - b) x within
    ∙ ap (λ (y : _). take (length xs - 1 - b) xs ++ y ∷ []) (sym e) ∙ ap (λ (k : ℕ). take k xs ++ x ∷ []) j

-- the block of one clause more
pub opened_more : (ds : List Declaration) (ps : List Kept) (b : ℕ) (p : Kept) (o0 o1 o2 : List Token) → b < length ps → p ≡ get_or ps (length ps - 1 - b) p
    → o2 ≡ o1 ++ open_token ds (placed_in p) ∷ [] → o1 ≡ o0 ++ opens ds (placed_all (drop (length ps - b) ps)) → o2 ≡ o0 ++ opens ds (placed_all (drop (length ps - (b + 1)) ps))
opened_more ds ps b p o0 o1 o2 h e opened before =
    opened ∙ ap (λ (ts : List Token). ts ++ open_token ds (placed_in p) ∷ []) before
    ∙ append_assoc o0 (opens ds (placed_all (drop (length ps - b) ps))) (open_token ds (placed_in p) ∷ [])
    ∙ ap (λ (qs : List Kept). o0 ++ opens ds (placed_all qs)) (sym (cell_back ps b p h e))

-- a clause behind its block's end
pub closed_more : (ds : List Declaration) (ps : List Kept) (i : ℕ) (p : Kept) (o0 o1 o2 : List Token) → i < length ps → p ≡ get_or ps i p
    → o1 ≡ o0 ++ tok.End ∷ [] → Writes o1 (clause_code ds (length ps - 1 - i) (placed_in p)) o2 Done
    → o2 ++ closes ds (placed_all (drop (i + 1) ps)) ≡ o0 ++ closes ds (placed_all (drop i ps))
unfolding tokens
closed_more ds ps i p o0 o1 o2 h e ended clause =
    let later : List Placed = placed_all (drop (i + 1) ps) in
    let many : length ps - 1 - i ≡ length later = left in
    sym (ap (λ (qs : List Kept). o0 ++ closes ds (placed_all qs)) (cell ps i p h e)
    ∙ sym (append_assoc o0 (tok.End ∷ []) (tokens (clause_code ds (length later) (placed_in p)) ++ closes ds later))
    ∙ ap (λ (ts : List Token). ts ++ (tokens (clause_code ds (length later) (placed_in p)) ++ closes ds later)) (sym ended)
    ∙ ap (λ (n : ℕ). o1 ++ (tokens (clause_code ds n (placed_in p)) ++ closes ds later)) (sym many)
    ∙ sym (append_assoc o1 (tokens (clause_code ds (length ps - 1 - i) (placed_in p))) (closes ds later))
    ∙ ap (λ (ts : List Token). ts ++ closes ds later) (clause ∙ append-nil o2))
  where
    left : length ps - 1 - i ≡ length (placed_all (drop (i + 1) ps))
    left = let d = length-drop (i + 1) ps in let m = length-map (drop (i + 1) ps) placed_in in omega (arith, d, m, h)
