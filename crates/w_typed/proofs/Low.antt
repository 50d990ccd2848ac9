-- How many operands and labels a frame holds, and will.
use Rattle.std.proofs.Common.{◌≡◌, ◌≤◌, ℕ, suc, ◌+◌, ◌-◌, max, nat_eq, Bool, true, false, if◌then◌else◌, List, [], ◌∷◌, slice_get, Option, Some, None, refl, sym, ap, subst, ◌∙◌, arith}
use Rattle.w_types.specs.declared.types.RecGroup.{RecGroup}
use Rattle.w_types.specs.declared.types.ValType.{ValType}
use Rattle.lists.specs.Rows.{Row, ε, ◌▹◌, ◌⧺◌, size}
use Rattle.w_syntax.specs.Code.{Code, Done, Plain, Block, If, IfElse}
use Rattle.w_syntax.specs.declared.instructions.BlockKind.{BlockKind}
use Rattle.w_syntax.specs.declared.instructions.BlockType.{BlockType}
use Rattle.w_syntax.specs.declared.instructions.Clause.{Clause}
use Rattle.w_syntax.specs.declared.instructions.Clause.TheVariants as clause
use Rattle.w_syntax.specs.declared.instructions.Op.{Op}
use Rattle.w_syntax.specs.declared.module.Module.{Module}
use Rattle.w_rules.specs.Context as rules
use Rattle.w_rules.specs.Context.{Arrow, arrow_of, labelled}
use Rattle.w_rules.specs.InstructionTypes.{InstrType, fixed, polymorphic, table_polymorphic, drops, selects, tests_null, as_non_null, on_null, untyped, instr_type, sets}
use Rattle.w_rules.specs.Matching.{RowMatches, known}
use Rattle.w_rules.specs.Operands.{Operand}
use Rattle.w_rules.specs.Peak.{net, in_arrow, moved, past_net, past_arrow, label_top, clause_tops, extra, peak}
use Rattle.w_rules.specs.Typing.{HasType, HasInstrType}
use Rattle.w_rules.proofs.Preorder.{row_size}
use Rattle.w_reduce.proofs.Deep.{one_deep}
use Rattle.w_reduce.specs.Handlers.{label_clause}
use Rattle.w_reduce.specs.Room.{most_operands}
use Rattle.w_typed.specs.Contexts.{Scope, under, in_scope, IsHeld, IsLow, CodeTyped, LaterTyped}

-- ## Peaks

-- the beginning is below the peak
pub least : (c : rules.Context) (s : List Bool) (k : Code) (h : ℕ) → h ≤ peak c s k h
least c s Done h = omega arith
least c s (Plain o k) h = omega arith
least c s (Block b x i k) h = omega arith
least c s (If x i k) h = omega arith
least c s (IfElse x i j k) h = omega arith

-- behind an instruction that holds no others
past_peak : (o : Option (ℕ × ℕ)) (n : ℕ × ℕ) (a h most : ℕ) (f : ℕ → ℕ) → o ≡ Some n → max a (past_net o h f) ≤ most → f (moved h n) ≤ most
past_peak None n a h most f is le = absurd (cc)
past_peak (Some q) n a h most f is le =
    let same : q ≡ n = cc in
    let here : f (moved h q) ≤ most = omega (arith, le) in subst (λ (x : ℕ × ℕ). f (moved h x) ≤ most) same here

-- in a block, and behind it
block_peaks : (o : Option Arrow) (a : Arrow) (h most : ℕ) (f g : Arrow → ℕ) → o ≡ Some a → max h (in_arrow o (λ (x : Arrow). max (f x) (g x))) ≤ most → (f a ≤ most) × (g a ≤ most)
block_peaks None a h most f g is le = absurd (cc)
block_peaks (Some b) a h most f g is le =
    let same : b ≡ a = cc in
    subst (λ (x : Arrow). (f x ≤ most) × (g x ≤ most)) same (omega (arith, le), omega (arith, le))

-- ## Sizes

-- one row beside another
pub size_beside : {A : Type 0} (xs ys : Row A) → size (xs ⧺ ys) ≡ size xs + size ys
size_beside xs ε = omega arith
size_beside xs (ys ▹ y) = let h = size_beside xs ys in omega (arith, h)

-- a row of value types has one size as types of operands
pub size_known : (ts : Row ValType) → size (known ts) ≡ size ts
size_known ε = refl
size_known (ts ▹ t) = ap suc (size_known ts)

-- value types above operands
pub size_above : (beneath : Row Operand) (ts : Row ValType) → size (beneath ⧺ known ts) ≡ size beneath + size ts
size_above beneath ts = let a = size_beside beneath (known ts) in let b = size_known ts in omega (arith, a, b)

-- an instruction type takes and gives as many as it says
pub record Counts (it : InstrType) (ts ws : Row Operand) : Type 0 where
  pub count : ℕ × ℕ
  pub is : net it ≡ Some count
  pub there : count.0 ≤ size ts
  pub gives : size ws ≡ size ts - count.0 + count.1

module _ (gs : List RecGroup) where
  -- a row gives as many
  type_counts : (ins outs ts ws : Row Operand) → HasType gs ins outs ts ws → (size ins ≤ size ts) × (size ws ≡ size ts - size ins + size outs)
  type_counts ins outs ts ws t =
      let taken = row_size gs ts (t.beneath ⧺ ins) t.takes in
      let given = row_size gs (t.beneath ⧺ outs) ws t.gives in
      let a = size_beside t.beneath ins in
      let b = size_beside t.beneath outs in (omega (arith, taken, a), omega (arith, taken, given, a, b))

  -- each type
  pub counts_of : (it : InstrType) (ts ws : Row Operand) → HasInstrType gs it ts ws → (net it ≡ None → ⊥) → Counts it ts ws
  counts_of (fixed ins outs) ts ws t some =
      let n = type_counts (known ins) (known outs) ts ws t in
      let a = size_known ins in
      let b = size_known outs in
      let p = n.0 in
      let q = n.1 in
      record { count = (size ins, size outs); is = refl; there = omega (arith, p, a); gives = omega (arith, q, a, b) }
  counts_of (polymorphic ins) ts ws t some = absurd (some refl)
  counts_of (table_polymorphic one others) ts ws t some = absurd (some refl)
  counts_of drops ts ws (u, t) some = let n = type_counts _ _ ts ws t in record { count = (1, 0); is = refl; there = n.0; gives = n.1 }
  counts_of selects ts ws (u, i, t) some = let n = type_counts _ _ ts ws t in record { count = (3, 1); is = refl; there = n.0; gives = n.1 }
  counts_of tests_null ts ws (h, t) some = let n = type_counts _ _ ts ws t in record { count = (1, 1); is = refl; there = n.0; gives = n.1 }
  counts_of as_non_null ts ws (h, t) some = let n = type_counts _ _ ts ws t in record { count = (1, 1); is = refl; there = n.0; gives = n.1 }
  counts_of (on_null vs) ts ws (h, t) some =
      let n = type_counts _ _ ts ws t in
      let a = size_known vs in
      let p = n.0 in
      let q = n.1 in
      record { count = (size vs + 1, size vs + 1); is = refl; there = omega (arith, p, a); gives = omega (arith, q, a) }
  counts_of untyped ts ws t some = absurd t

-- ## Code

module _ (m : Module) {c : Scope} where
  -- what is low is held
  pub low_held : {s : List Bool} {k : Code} {n : ℕ} → IsLow m c s k n → IsHeld m c n
  low_held {s = s} {k = k} {n = n} h =
      let p = h.operands in
      let q = h.labels in
      let below = least (in_scope m c) s k (c.base + n) in
      let one = one_deep k in record { operands = omega (arith, p, below); labels = omega (arith, q, one) }

  -- code that is reached later too
  pub as_later : {s : List Bool} {k : Code} {ts us : Row Operand} → CodeTyped m c s k ts us → LaterTyped m c s k ts us
  as_later h = record { derives = h.derives; none = h.none; fits = h.fits; low = λ inside room. h.low inside }

  -- and that is, where its operands are held
  pub reached : {s : List Bool} {k : Code} {ts us : Row Operand} → ((c.results ≡ None → ⊥) → c.base + size ts ≤ most_operands m c.function) → LaterTyped m c s k ts us → CodeTyped m c s k ts us
  reached room h = record { derives = h.derives; none = h.none; fits = h.fits; low = λ inside. h.low inside (room inside) }

  -- operands may be of types that match
  pub low_sub : {s : List Bool} {k : Code} {ts ts' : Row Operand} → RowMatches m.types ts' ts → IsLow m c s k (size ts) → IsLow m c s k (size ts')
  low_sub {s = s} {k = k} {ts = ts} {ts' = ts'} q h = subst (IsLow m c s k) (sym (row_size m.types ts' ts q)) h

  -- behind an instruction that holds no others
  pub low_next : {s : List Bool} {k : Code} (ts ws : Row Operand) (o : Op) → IsLow m c s (Plain o k) (size ts) → HasInstrType m.types (instr_type (in_scope m c) s o) ts ws
      → (net (instr_type (in_scope m c) s o) ≡ None → ⊥) → IsLow m c (sets o s) k (size ws)
  low_next {s = s} {k = k} ts ws o h t some =
      let n = counts_of m.types (instr_type (in_scope m c) s o) ts ws t some in
      let there = n.there in
      let gives = n.gives in
      let same : moved (c.base + size ts) n.count ≡ c.base + size ws = omega (arith, there, gives) in
      record {
        operands = subst (λ (x : ℕ). peak (in_scope m c) (sets o s) k x ≤ most_operands m c.function) same
            (past_peak (net (instr_type (in_scope m c) s o)) n.count (max (c.base + size ts) (extra (in_scope m c) o (c.base + size ts))) (c.base + size ts) (most_operands m c.function)
            (peak (in_scope m c) (sets o s) k) n.is h.operands);
        labels = h.labels;
      }

  -- what it adds
  pub low_extra : {s : List Bool} {k : Code} {n : ℕ} (o : Op) → IsLow m c s (Plain o k) n → extra (in_scope m c) o (c.base + n) ≤ most_operands m c.function
  low_extra o h = let p = h.operands in omega (arith, p)

-- ## Blocks

module _ (m : Module) {c : Scope} where
  -- inside a block, and behind it, that takes n operands above others
  pub low_inside : {s : List Bool} {x k : Code} (kind : BlockKind) (b : BlockType) (a : Arrow) (beneath : ℕ) → arrow_of (in_scope m c) b ≡ Some a
      → IsLow m c s (Block kind b x k) (beneath + size a.from) → IsLow m (under beneath (rules.label_of kind a) c) s x (size a.from) × IsLow m c s k (beneath + size a.to)
  low_inside {s = s} {x = x} {k = k} kind b a beneath is h =
      let n : ℕ = c.base + (beneath + size a.from) in
      let both = block_peaks (arrow_of (in_scope m c) b) a n (most_operands m c.function) (λ (y : Arrow). peak (labelled (in_scope m c) (rules.label_of kind y)) s x n)
      (λ (y : Arrow). peak (in_scope m c) s k (past_arrow y n)) is h.operands in
      let q = h.labels in
      let there : n ≡ c.base + beneath + size a.from = omega arith in
      let gone : past_arrow a n ≡ c.base + (beneath + size a.to) = omega arith in (
        record {
          operands = subst (λ (z : ℕ). peak (labelled (in_scope m c) (rules.label_of kind a)) s x z ≤ most_operands m c.function) there both.0;
          labels = omega (arith, q);
        },
        record { operands = subst (λ (z : ℕ). peak (in_scope m c) s k z ≤ most_operands m c.function) gone both.1; labels = omega (arith, q) },
      )

  -- likewise of an if, above whose operands a number stands
  pub low_in_if : {s : List Bool} {x k : Code} (b : BlockType) (a : Arrow) (beneath : ℕ) → arrow_of (in_scope m c) b ≡ Some a
      → IsLow m c s (If b x k) (suc (beneath + size a.from)) → IsLow m (under beneath a.to c) s x (size a.from) × IsLow m c s k (beneath + size a.to)
  low_in_if {s = s} {x = x} {k = k} b a beneath is h =
      let n : ℕ = c.base + suc (beneath + size a.from) in
      let both = block_peaks (arrow_of (in_scope m c) b) a n (most_operands m c.function) (λ (y : Arrow). peak (labelled (in_scope m c) y.to) s x (n - 1))
      (λ (y : Arrow). peak (in_scope m c) s k (past_arrow y (n - 1))) is h.operands in
      let q = h.labels in
      let there : n - 1 ≡ c.base + beneath + size a.from = omega arith in
      let gone : past_arrow a (n - 1) ≡ c.base + (beneath + size a.to) = omega arith in (
        record { operands = subst (λ (z : ℕ). peak (labelled (in_scope m c) a.to) s x z ≤ most_operands m c.function) there both.0; labels = omega (arith, q) },
        record { operands = subst (λ (z : ℕ). peak (in_scope m c) s k z ≤ most_operands m c.function) gone both.1; labels = omega (arith, q) },
      )

  -- and of one with an else
  pub low_in_else : {s : List Bool} {x y k : Code} (b : BlockType) (a : Arrow) (beneath : ℕ) → arrow_of (in_scope m c) b ≡ Some a
      → IsLow m c s (IfElse b x y k) (suc (beneath + size a.from))
      → IsLow m (under beneath a.to c) s x (size a.from) × IsLow m (under beneath a.to c) s y (size a.from) × IsLow m c s k (beneath + size a.to)
  low_in_else {s = s} {x = x} {y = y} {k = k} b a beneath is h =
      let n : ℕ = c.base + suc (beneath + size a.from) in
      let both = block_peaks (arrow_of (in_scope m c) b) a n (most_operands m c.function)
      (λ (z : Arrow). max (peak (labelled (in_scope m c) z.to) s x (n - 1)) (peak (labelled (in_scope m c) z.to) s y (n - 1)))
      (λ (z : Arrow). peak (in_scope m c) s k (past_arrow z (n - 1))) is h.operands in
      let q = h.labels in
      let two = both.0 in
      let there : n - 1 ≡ c.base + beneath + size a.from = omega arith in
      let gone : past_arrow a (n - 1) ≡ c.base + (beneath + size a.to) = omega arith in (
        record {
          operands = subst (λ (z : ℕ). peak (labelled (in_scope m c) a.to) s x z ≤ most_operands m c.function) there (omega (arith, two));
          labels = omega (arith, q);
        },
        record {
          operands = subst (λ (z : ℕ). peak (labelled (in_scope m c) a.to) s y z ≤ most_operands m c.function) there (omega (arith, two));
          labels = omega (arith, q);
        },
        record { operands = subst (λ (z : ℕ). peak (in_scope m c) s k z ≤ most_operands m c.function) gone both.1; labels = omega (arith, q) },
      )

-- ## Branches

module _ (gs : List RecGroup) {ts : Row Operand} where
  -- what a label takes is among the operands
  pub taken_among : (beneath : Row Operand) (taken : Row ValType) → RowMatches gs ts (beneath ⧺ known taken) → size taken ≤ size ts
  taken_among beneath taken r =
      let n = row_size gs ts (beneath ⧺ known taken) r in
      let a = size_beside beneath (known taken) in
      let b = size_known taken in omega (arith, n, a, b)

  -- beneath one more
  pub taken_below : {t : Operand} (beneath : Row Operand) (taken : Row ValType) → RowMatches gs ts ((beneath ⧺ known taken) ▹ t) → size taken ≤ size ts
  taken_below {t} beneath taken r =
      let n = row_size gs ts ((beneath ⧺ known taken) ▹ t) r in
      let a = size_beside beneath (known taken) in
      let b = size_known taken in omega (arith, n, a, b)

  -- with it
  pub one_among : {t : Operand} (beneath : Row Operand) (taken : Row ValType) → RowMatches gs ts ((beneath ⧺ known taken) ▹ t) → suc (size taken) ≤ size ts
  one_among {t} beneath taken r =
      let n = row_size gs ts ((beneath ⧺ known taken) ▹ t) r in
      let a = size_beside beneath (known taken) in
      let b = size_known taken in omega (arith, n, a, b)

  -- as others that match it
  pub ins_below : {t : Operand} (beneath ins : Row Operand) (taken : Row ValType) → RowMatches gs ts ((beneath ⧺ ins) ▹ t) → RowMatches gs ins (known taken) → size taken ≤ size ts
  ins_below {t} beneath ins taken r q =
      let n = row_size gs ts ((beneath ⧺ ins) ▹ t) r in
      let a = size_beside beneath ins in
      let d = row_size gs ins (known taken) q in
      let b = size_known taken in omega (arith, n, a, b, d)

-- and so the frame holds it
pub room : (m : Module) {c : Scope} {k n : ℕ} → k ≤ n → IsHeld m c n → c.base + k ≤ most_operands m c.function
room m few h = let n = h.operands in omega (arith, few, n)

-- nothing is low where something is
pub low_done : (m : Module) {c : Scope} {s : List Bool} {k : Code} {n : ℕ} → IsLow m c s k n → IsLow m c s Done n
low_done m {c = c} {s = s} {k = k} {n = n} h =
    let p = h.operands in
    let q = h.labels in
    let below = least (in_scope m c) s k (c.base + n) in
    let one = one_deep k in record { operands = omega (arith, p, below); labels = omega (arith, q, one) }

-- ## Clauses

-- the first clause that fits, or a later one
first_top : (labels : List (Row ValType)) (h x e l l' : ℕ) (hs : List Clause) (us : Row ValType) (b : Bool) → (if b then Some l' else label_clause e hs) ≡ Some l
    → slice_get labels l ≡ Some us → (label_clause e hs ≡ Some l → h + size us ≤ clause_tops labels h hs) → h + size us ≤ max (label_top h (slice_get labels l')) (clause_tops labels h hs)
first_top labels h x e l l' hs us true is at later =
    let same : slice_get labels l' ≡ Some us = ap (slice_get labels) (let k : l' ≡ l = cc in k) ∙ at in
    let top : label_top h (slice_get labels l') ≡ h + size us = ap (label_top h) same in omega (arith, top)
first_top labels h x e l l' hs us false is at later = let n = later is in omega (arith, n)

-- what the label of a clause takes is among the tops of its resume
top_of_label : (labels : List (Row ValType)) (h e l : ℕ) (hs : List Clause) (us : Row ValType) → label_clause e hs ≡ Some l → slice_get labels l ≡ Some us
    → h + size us ≤ clause_tops labels h hs
top_of_label labels h e l [] us is at = absurd (cc)
top_of_label labels h e l (clause.Label x l' ∷ hs) us is at =
    first_top labels h x e l l' hs us (nat_eq x e) is at (λ later. top_of_label labels h e l hs us later at)
top_of_label labels h e l (clause.Switch x ∷ hs) us is at = top_of_label labels h e l hs us is at

-- so its frame holds it
pub label_held : (m : Module) {c : Scope} {n : ℕ} (beneath : Row Operand) (e l : ℕ) (hs : List Clause) (us : Row ValType) → label_clause e hs ≡ Some l → slice_get c.labels l ≡ Some us
    → ((c.results ≡ None → ⊥) → clause_tops c.labels (c.base + size beneath) hs ≤ most_operands m c.function)
    → ((c.results ≡ None → ⊥) → IsHeld m c n) → (c.results ≡ None → ⊥) → IsHeld m c (size (beneath ⧺ known us))
label_held m {c = c} beneath e l hs us is at tops others i =
    let top = top_of_label c.labels (c.base + size beneath) e l hs us is at in
    let most = tops i in
    let all = size_beside beneath (known us) in
    let few = size_known us in
    let there = others i in
    record { operands = omega (arith, top, most, all, few); labels = there.labels }
