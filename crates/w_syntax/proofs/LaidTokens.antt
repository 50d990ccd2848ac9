-- A flat list is written as its tree is, whatever is written of a token.
use Rattle.std.proofs.Common.{◌≡◌, ℕ, ◌+◌, List, [], ◌∷◌, ◌++◌, refl, sym, ap, ◌∙◌, append_assoc, Result, Ok, Err}
use Rattle.std.specs.List.{flat_map}
use Rattle.std.specs.Prelude.{OnOk}
use Rattle.w_syntax.specs.declared.instructions.Instr.{Instr}
use Rattle.w_syntax.specs.declared.instructions.Instr.TheVariants as flat
use Rattle.w_syntax.specs.declared.instructions.Token.{Token}
use Rattle.w_syntax.specs.declared.instructions.Token.TheVariants as tok
use Rattle.w_syntax.specs.declared.packed.PackedInstr.{PackedInstr}
use Rattle.w_syntax.specs.Code.{Code, Done, Plain, Block, If, IfElse}
use Rattle.w_syntax.specs.Expr.{tokens}
use Rattle.w_syntax.specs.Flat.{laid, size, whole, as_token}
use Rattle.w_syntax.specs.Packed.{unpacked, unpacked_all}
use Rattle.w_syntax.proofs.PackedLists.{flat_map_unpacked}

-- a sequence, where what follows it is written alike
written_laid : (w : Token → List ℕ) (k : ℕ) (c : Code) (is : List Instr) (ts : List Token) → flat_map (λ i. w (as_token i)) is ≡ flat_map w ts → flat_map (λ i. w (as_token i)) (laid k c ++ is) ≡ flat_map w (tokens c ++ ts)
unfolding laid tokens
written_laid w k Done is ts e = e
written_laid w k (Plain o r) is ts e = ap (λ (l : List ℕ). w (tok.Plain o) ++ l) (written_laid w (k + 1) r is ts e)
written_laid w k (Block kind b x r) is ts e =
    let rest = written_laid w (k + 2 + size x) r is ts e in
    let inner = written_laid w (k + 1) x (flat.End ∷ (laid (k + 2 + size x) r ++ is)) (tok.End ∷ (tokens r ++ ts)) (ap (λ (l : List ℕ). w tok.End ++ l) rest) in
    ap (λ (l : List ℕ). w (tok.Block kind b) ++ l) (ap (flat_map (λ i. w (as_token i))) (append_assoc (laid (k + 1) x) (flat.End ∷ laid (k + 2 + size x) r) is) ∙ inner ∙ ap (flat_map w) (sym (append_assoc (tokens x) (tok.End ∷ tokens r) ts)))
written_laid w k (If b x r) is ts e =
    let rest = written_laid w (k + 2 + size x) r is ts e in
    let inner = written_laid w (k + 1) x (flat.End ∷ (laid (k + 2 + size x) r ++ is)) (tok.End ∷ (tokens r ++ ts)) (ap (λ (l : List ℕ). w tok.End ++ l) rest) in
    ap (λ (l : List ℕ). w (tok.If b) ++ l) (ap (flat_map (λ i. w (as_token i))) (append_assoc (laid (k + 1) x) (flat.End ∷ laid (k + 2 + size x) r) is) ∙ inner ∙ ap (flat_map w) (sym (append_assoc (tokens x) (tok.End ∷ tokens r) ts)))
written_laid w k (IfElse b x y r) is ts e =
    let rest = written_laid w (k + 3 + size x + size y) r is ts e in
    let other = written_laid w (k + 2 + size x) y (flat.End ∷ (laid (k + 3 + size x + size y) r ++ is)) (tok.End ∷ (tokens r ++ ts)) (ap (λ (l : List ℕ). w tok.End ++ l) rest) in
    let inner = written_laid w (k + 1) x (flat.Else ∷ (laid (k + 2 + size x) y ++ flat.End ∷ (laid (k + 3 + size x + size y) r ++ is))) (tok.Else ∷ (tokens y ++ tok.End ∷ (tokens r ++ ts))) (ap (λ (l : List ℕ). w tok.Else ++ l) other) in
    let f : (laid (k + 1) x ++ flat.Else ∷ (laid (k + 2 + size x) y ++ flat.End ∷ laid (k + 3 + size x + size y) r)) ++ is ≡ laid (k + 1) x ++ flat.Else ∷ (laid (k + 2 + size x) y ++ flat.End ∷ (laid (k + 3 + size x + size y) r ++ is)) = simp append_assoc in
    let g : (tokens x ++ tok.Else ∷ (tokens y ++ tok.End ∷ tokens r)) ++ ts ≡ tokens x ++ tok.Else ∷ (tokens y ++ tok.End ∷ (tokens r ++ ts)) = simp append_assoc in
    ap (λ (l : List ℕ). w (tok.If b) ++ l) (ap (flat_map (λ i. w (as_token i))) f ∙ inner ∙ ap (flat_map w) (sym g))

-- what writing a body's packed list did, it did of the body
pub put_laid : {E : Type 0} (w : Token → List ℕ) (result : Result (Unit {0}) E) (new old : List ℕ) (ps : List PackedInstr) (c : Code) → unpacked_all ps ≡ whole c
    → OnOk result (new ≡ old ++ flat_map (λ p. w (as_token (unpacked p))) ps) → OnOk result (new ≡ old ++ flat_map w (tokens c ++ tok.End ∷ []))
put_laid w (Ok t) new old ps c e h =
    h ∙ ap (λ (l : List ℕ). old ++ l) (flat_map_unpacked (λ i. w (as_token i)) ps ∙ ap (flat_map (λ i. w (as_token i))) e ∙ written_laid w 0 c (flat.End ∷ []) (tok.End ∷ []) refl)
put_laid w (Err x) new old ps c e h = h
