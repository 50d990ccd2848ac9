-- What each row of the table of instructions makes of the bytes behind its opcode.
use Rattle.std.proofs.Common.{◌≡◌, Bool, true, false, cond, List, [], ◌∷◌, Some, refl, subst}
use Rattle.std.specs.Prelude.{⊤}
use Rattle.std.specs.Str.{bytes_eq}
use Rattle.w_leb.specs.Number.{unsigned}
use Rattle.w_syntax.specs.Tokens.{token, instruction, other, plain, control_op, numeric_op, arithmetic, comparison, memory_op, memarg, bulk}
use Rattle.w_words.specs.Words.{Word}
use Rattle.w_lines.specs.Instructions.{Row, rows, row_in}
use Rattle.w_lines.specs.NameTable.{FormReads}

abbrev EachReads : List Row → Type 0
EachReads [] = ⊤
EachReads (r ∷ rs) = FormReads r.0 r.2 × EachReads rs

infixr 10 ◌&◌
abbrev ◌&◌ : {P Q : Type 0} → P → Q → P × Q
p & q = (p, q)

rows_read : EachReads rows
unfolding rows token instruction other plain control_op numeric_op arithmetic comparison memory_op memarg bulk unsigned
rows_read =
    refl
    & refl
    & (λ b. refl)
    & (λ b. refl)
    & (λ b. refl)
    & refl
    & refl
    & (λ bs rest x e. rw e refl)
    & (λ bs rest x e. rw e refl)
    & (λ ls l. refl)
    & refl
    & (λ bs rest x e. rw e refl)
    & (λ bs cs rest x y e f. rw (e, f) refl)
    & (λ bs rest x e. rw e refl)
    & (λ bs cs rest x y e f. rw (e, f) refl)
    & (λ bs rest x e. rw e refl)
    & (λ bs rest x e. rw e refl)
    & refl
    & refl
    & (λ ts. refl)
    & (λ bs rest x e. rw e refl)
    & (λ bs rest x e. rw e refl)
    & (λ bs rest x e. rw e refl)
    & (λ bs rest x e. rw e refl)
    & (λ bs rest x e. rw e refl)
    & (λ bs rest x e. rw e refl)
    & (λ bs rest x e. rw e refl)
    & (λ bs rest m e. rw e refl)
    & (λ bs rest m e. rw e refl)
    & (λ bs rest m e. rw e refl)
    & (λ bs rest m e. rw e refl)
    & (λ bs rest m e. rw e refl)
    & (λ bs rest m e. rw e refl)
    & (λ bs rest m e. rw e refl)
    & (λ bs rest m e. rw e refl)
    & (λ bs rest m e. rw e refl)
    & (λ bs rest m e. rw e refl)
    & (λ bs rest m e. rw e refl)
    & (λ bs rest m e. rw e refl)
    & (λ bs rest m e. rw e refl)
    & (λ bs rest m e. rw e refl)
    & (λ bs rest m e. rw e refl)
    & (λ bs rest m e. rw e refl)
    & (λ bs rest m e. rw e refl)
    & (λ bs rest m e. rw e refl)
    & (λ bs rest m e. rw e refl)
    & (λ bs rest x e. rw e refl)
    & (λ bs rest x e. rw e refl)
    & (λ z. refl)
    & (λ z. refl)
    & refl
    & refl
    & refl
    & refl
    & refl
    & refl
    & refl
    & refl
    & refl
    & refl
    & refl
    & refl
    & refl
    & refl
    & refl
    & refl
    & refl
    & refl
    & refl
    & refl
    & refl
    & refl
    & refl
    & refl
    & refl
    & refl
    & refl
    & refl
    & refl
    & refl
    & refl
    & refl
    & refl
    & refl
    & refl
    & refl
    & refl
    & refl
    & refl
    & refl
    & refl
    & refl
    & refl
    & refl
    & refl
    & refl
    & refl
    & refl
    & refl
    & refl
    & refl
    & refl
    & refl
    & refl
    & refl
    & refl
    & refl
    & refl
    & refl
    & refl
    & refl
    & refl
    & refl
    & refl
    & refl
    & refl
    & (λ h. refl)
    & refl
    & (λ bs rest x e. rw e refl)
    & refl
    & (λ bs rest x e. rw e refl)
    & (λ bs rest x e. rw e refl)
    & (λ bs rest x e. rw e refl)
    & (λ bs cs rest x y e f. rw (e, f) refl)
    & (λ bs rest x e. rw e refl)
    & (λ t cs. refl)
    & (λ bs cs rest x y e f. rw (e, f) refl)
    & (λ bs cs rest x y e f. rw (e, f) refl)
    & (λ bs rest x e. rw e refl)
    & (λ bs cs rest x y e f. rw (e, f) refl)
    & (λ bs rest x e. rw e refl)
    & (λ bs cs rest x y e f. rw (e, f) refl)
    & (λ bs rest x e. rw e refl)
    & (λ bs cs rest x y e f. rw (e, f) refl)
    & (λ bs rest x e. rw e refl)
    & (λ bs rest x e. rw e refl)
    & (λ bs rest x e. rw e refl)
    & tt

found_with : (v : Bool) (r : Row) (rs : List Row) (w : Word) (q : Row) → bytes_eq w r.1 ≡ v → FormReads r.0 r.2 → (row_in rs w ≡ Some q → FormReads q.0 q.2) → cond v (Some r) (row_in rs w) ≡ Some q → FormReads q.0 q.2
found_with true r rs w q e h k g = let same : r ≡ q = cc in subst (λ (p : Row). FormReads p.0 p.2) same h
found_with false r rs w q e h k g = k g

found_reads : (rs : List Row) (w : Word) (q : Row) → EachReads rs → row_in rs w ≡ Some q → FormReads q.0 q.2
found_reads [] w q h e = absurd cc
found_reads (r ∷ rs) w q h e = found_with (bytes_eq w r.1) r rs w q refl h.0 (found_reads rs w q h.1) e

-- a row that is found
pub row_reads : (w : Word) (q : Row) → row_in rows w ≡ Some q → FormReads q.0 q.2
row_reads w q e = found_reads rows w q rows_read e
