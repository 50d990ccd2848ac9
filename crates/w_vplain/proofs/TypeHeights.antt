-- An instruction type moves the number of operands as it says.
use Rattle.std.proofs.Common.{◌≡◌, ℕ, suc, ◌+◌, ◌-◌, ◌≤◌, Bool, true, false, ◌&&◌, List, ◌∷◌, Option, Some, None, refl, sym, ap, arith}
use Rattle.w_types.specs.declared.types.ValType.{ValType}
use Rattle.w_types.specs.declared.types.ValType.TheVariants.{I32}
use Rattle.lists.specs.Rows.{Row, ε, ◌▹◌, ◌⧺◌, size}
use Rattle.w_canon.specs.declared.entry.Entry.{Entry}
use Rattle.w_rules.specs.Operands.{Operand}
use Rattle.w_rules.specs.Operands.{Known}
use Rattle.w_rules.specs.InstructionTypes.{InstrType, fixed, polymorphic, table_polymorphic, drops, selects, tests_null, as_non_null, on_null, untyped}
use Rattle.w_rules.specs.Matching.{known}
use Rattle.w_rules.specs.Peak.{net, moved}
use Rattle.w_rules.specs.Typing.{ref_to}
use Rattle.w_flow.specs.Flow.{Flow, ◌>>=◌, operand_test, pops, pop, pop_ref, heap_of, select_of, step, all_long, pops_each}
use Rattle.w_vplain.specs.Measures.{tally}
use Rattle.w_vplain.proofs.Options.{Whenever, whenever_bind, whenever_map, always, when_if}

-- ## Rows

-- the size of two rows
pub size-beside : {A : Type 0} (xs ys : Row A) → size (xs ⧺ ys) ≡ size xs + size ys
size-beside xs ε = omega arith
size-beside xs (ys ▹ y) = omega (arith, size-beside xs ys)

-- as many operands as types
pub size-known : (ts : Row ValType) → size (known ts) ≡ size ts
size-known ε = refl
size-known (ts ▹ t) = ap suc (size-known ts)

-- the size with types at the right
pub size-pushed : (xs : Row Operand) (ts : Row ValType) → size (xs ⧺ known ts) ≡ size xs + size ts
size-pushed xs ts = omega (arith, size-beside xs (known ts), size-known ts)

-- ## Taking operands

-- where no more may lie beneath, as many operands are taken as there are types
pub pops_long : (es : List Entry) (ts : Row Operand) (us : Row ValType) → Whenever (pops es false ts us) (λ (w : Row Operand). size w + size us ≡ size ts)
pops_long es ts ε = omega arith
pops_long es ε (us ▹ u) = tt
pops_long es (ts ▹ t) (us ▹ u) = when_if (operand_test es t u) (pops es false ts us) _
    (whenever_map (pops es false ts us) (λ (w : Row Operand). size w + size us ≡ size ts) _ (pops_long es ts us) (λ w h. omega arith))

-- the topmost operand is one
pop_long : (ts : Row Operand) → Whenever (pop false ts) (λ (r : Row Operand × Operand). size r.0 + 1 ≡ size ts)
pop_long ε = tt
pop_long (ts ▹ t) = omega arith

-- also where it is a reference
pop_ref_long : (ts : Row Operand) → Whenever (pop_ref false ts) (λ r. size r.0 + 1 ≡ size ts)
pop_ref_long ts = whenever_bind (pop false ts) _ _ (whenever_map (pop false ts) (λ (r : Row Operand × Operand). size r.0 + 1 ≡ size ts) _ (pop_long ts) (λ r h.
    whenever_bind (heap_of r.1) _ _ (always (heap_of r.1) _ (λ k. h))))

-- ## Types

-- the number of operands after the type, among those of the blocks around
abbrev pub Goes : InstrType → Bool → Row Operand → Flow → Type 0
Goes l p ts w = (b : Option ℕ) → tally w.any w.operands b ≡ (tally p ts b >>= λ h. net l >>= λ n. Some (moved h n))

-- a place that cannot be reached has no number
no_tally : (o : Option ℕ) (n : Option ℕ) → n ≡ None → None ≡ (o >>= λ h. n)
no_tally None n e = refl
no_tally (Some h) n e = sym e

-- so many are taken, and so many given
counted : (ts ws : Row Operand) (n : ℕ × ℕ) → size ws + n.0 ≡ size ts + n.1 → n.0 ≤ size ts → (b : Option ℕ) →
    tally false ws b ≡ (tally false ts b >>= λ h. Some (moved h n))
counted ts ws n e le None = refl
counted ts ws n e le (Some b) = let q : b + size ws ≡ (b + size ts) - n.0 + n.1 = omega arith in ap Some q

-- what cannot be reached stays so
still : (es : List Entry) (l : InstrType) (ts : Row Operand) → Whenever (step es l true ts) (λ (w : Flow). w.any ≡ true)
still es (fixed ins outs) ts = whenever_bind (pops es true ts ins) _ _ (always (pops es true ts ins) _ (λ w. refl))
still es (polymorphic ins) ts = whenever_bind (pops es true ts ins) _ _ (always (pops es true ts ins) _ (λ w. refl))
still es (table_polymorphic one others) ts = whenever_bind (pops es true ts (ε ▹ I32)) _ _ (always (pops es true ts (ε ▹ I32)) _ (λ w.
    when_if (all_long (size one) others && pops_each es true w (one ∷ others)) (Some (record { any = true; operands = ε })) _ refl))
still es drops ts = whenever_bind (pop true ts) _ _ (always (pop true ts) _ (λ r. refl))
still es selects ts = whenever_bind (pops es true ts (ε ▹ I32)) _ _ (always (pops es true ts (ε ▹ I32)) _ (λ w.
    whenever_bind (pop true w) _ _ (always (pop true w) _ (λ r. whenever_bind (pop true r.0) _ _ (always (pop true r.0) _ (λ q.
    whenever_bind (select_of q.1 r.1) _ _ (always (select_of q.1 r.1) _ (λ t. refl))))))))
still es tests_null ts = whenever_bind (pop_ref true ts) _ _ (always (pop_ref true ts) _ (λ r. refl))
still es as_non_null ts = whenever_bind (pop_ref true ts) _ _ (always (pop_ref true ts) _ (λ r. refl))
still es (on_null us) ts = whenever_bind (pop_ref true ts) _ _ (always (pop_ref true ts) _ (λ r.
    whenever_bind (pops es true r.0 us) _ _ (always (pops es true r.0 us) _ (λ w. refl))))
still es untyped ts = tt

-- an instruction type from a place that cannot be reached
from_still : (l : InstrType) (ts : Row Operand) (w : Flow) → w.any ≡ true → Goes l true ts w
from_still l ts w e b = ap (λ (p : Bool). tally p w.operands b) e

-- an instruction type from a place that can
reached_step : (es : List Entry) (l : InstrType) (ts : Row Operand) → Whenever (step es l false ts) (Goes l false ts)
reached_step es (fixed ins outs) ts = whenever_bind (pops es false ts ins) _ _ (whenever_map (pops es false ts ins) _ _ (pops_long es ts ins) (λ w h c.
    counted ts (w ⧺ known outs) (size ins, size outs) (omega (arith, size-pushed w outs)) (omega arith) c))
reached_step es (polymorphic ins) ts = whenever_bind (pops es false ts ins) _ _ (always (pops es false ts ins) _ (λ w c. no_tally (tally false ts c) None refl))
reached_step es (table_polymorphic one others) ts = whenever_bind (pops es false ts (ε ▹ I32)) _ _ (always (pops es false ts (ε ▹ I32)) _ (λ w.
    when_if (all_long (size one) others && pops_each es false w (one ∷ others)) (Some (record { any = true; operands = ε })) _ (λ c. no_tally (tally false ts c) None refl)))
reached_step es drops ts = whenever_bind (pop false ts) _ _ (whenever_map (pop false ts) _ _ (pop_long ts) (λ r h c.
    counted ts r.0 (1, 0) (omega arith) (omega arith) c))
reached_step es selects ts = whenever_bind (pops es false ts (ε ▹ I32)) _ _ (whenever_map (pops es false ts (ε ▹ I32)) _ _ (pops_long es ts (ε ▹ I32)) (λ w h.
    whenever_bind (pop false w) _ _ (whenever_map (pop false w) _ _ (pop_long w) (λ r k. whenever_bind (pop false r.0) _ _ (whenever_map (pop false r.0) _ _ (pop_long r.0) (λ q m.
    whenever_bind (select_of q.1 r.1) _ _ (always (select_of q.1 r.1) _ (λ t c. counted ts (q.0 ▹ t) (3, 1) (omega arith) (omega arith) c))))))))
reached_step es tests_null ts = whenever_bind (pop_ref false ts) _ _ (whenever_map (pop_ref false ts) _ _ (pop_ref_long ts) (λ r h c.
    counted ts (r.0 ▹ Known I32) (1, 1) (omega arith) (omega arith) c))
reached_step es as_non_null ts = whenever_bind (pop_ref false ts) _ _ (whenever_map (pop_ref false ts) _ _ (pop_ref_long ts) (λ r h c.
    counted ts (r.0 ▹ ref_to false r.1) (1, 1) (omega arith) (omega arith) c))
reached_step es (on_null us) ts = whenever_bind (pop_ref false ts) _ _ (whenever_map (pop_ref false ts) _ _ (pop_ref_long ts) (λ r h.
    whenever_bind (pops es false r.0 us) _ _ (whenever_map (pops es false r.0 us) _ _ (pops_long es r.0 us) (λ w k c.
    counted ts ((w ⧺ known us) ▹ ref_to false r.1) (size us + 1, size us + 1) (omega (arith, size-pushed w us)) (omega arith) c))))
reached_step es untyped ts = tt

-- a step moves the number of operands as its type says
pub step_tally : (es : List Entry) (l : InstrType) (p : Bool) (ts : Row Operand) → Whenever (step es l p ts) (Goes l p ts)
step_tally es l true ts = whenever_map (step es l true ts) _ _ (still es l ts) (λ w e. from_still l ts w e)
step_tally es l false ts = reached_step es l ts
