-- The canonical spelling of a function's code spells it, and is at most twice as long as any.
use Rattle.std.proofs.Common.{◌≡◌, ℕ, zero, suc, ◌+◌, ◌*◌, ◌/◌, ◌^◌, ◌<◌, ◌≤◌, inl, inr, cond, List, [], ◌∷◌, ◌++◌, length, refl, ap, subst, ◌∙◌, arith}
use Rattle.std.specs.Prelude.{nat_eq}
use Rattle.std.specs.List.{flat_map}
use Rattle.std.proofs.lemmas.List.{length-append}
use Rattle.std.proofs.lemmas.Bool.{cases_lt, lt-ltb, le-ltb, ltb-true, cond_both}
use Rattle.w_leb.specs.Format.{Each, Counted}
use Rattle.w_leb.specs.Formats.{number, ◌⊗◌}
use Rattle.w_leb.specs.Number.{shortest, shortest_in}
use Rattle.w_leb.specs.ShortestLaws.{shortest_spells, shortest_is_short, within_bits, twice}
use Rattle.w_leb.specs.CanonicalLaws.{IsCanonical, canon_number, canon_pair, canon_image, canon_sized, each_short, vec_written}
use Rattle.w_syntax.specs.declared.locals.LocalRun.{LocalRun}
use Rattle.w_syntax.specs.Types.{valtype}
use Rattle.w_syntax.specs.Locals.{same_kind, join, join_all, joined, total}
use Rattle.w_syntax.specs.LocalsLaws.{all_joined, joined_twice, total_joined, few_joined}
use Rattle.w_syntax.specs.Fields.{run, locals, expr, func, code}
use Rattle.w_encode.specs.TypesWritten.{valtype_written}
use Rattle.w_encode.specs.InstructionsWritten.{expr_written}
use Rattle.w_encode.specs.Canon.{run_written, func_written, code_written}
use Rattle.w_encode.proofs.TypesCanonical.{canon_valtype}
use Rattle.w_encode.proofs.InstructionsCanonical.{canon_expr}

canon_run : IsCanonical run run_written
unfolding run
canon_run = canon_image (number 32 ⊗ valtype) (λ p. shortest p.0 ++ valtype_written p.1) (λ p. record { count = p.0; kind = p.1 }) run_written (canon_pair (number 32) valtype shortest valtype_written (canon_number 32 (omega arith)) canon_valtype) (λ p. refl)

-- ## Joined locals are no longer

-- a larger number takes no fewer bytes
grows : (k m n : ℕ) → m ≤ n → length (shortest_in k m) ≤ length (shortest_in k n)
unfolding shortest_in
grows zero m n le = omega arith
grows (suc k) m n le = elim (cases_lt n 128) [
  | inl low ↦ let small : m < 128 = omega arith in rw (lt-ltb m 128 small, lt-ltb n 128 low) (omega arith)
  | inr high ↦ elim (cases_lt m 128) [
    | inl small ↦ rw (lt-ltb m 128 small, le-ltb n 128 high) (omega arith)
    | inr big ↦ rw (le-ltb m 128 big, le-ltb n 128 high) (omega (arith, grows k (m / 128) (n / 128) (omega arith)))
  ]
]

-- a sum takes no more bytes than its parts
sum_short : (m n : ℕ) → length (shortest (m + n)) ≤ length (shortest m) + length (shortest n)
unfolding shortest_in
sum_short m n = elim (cases_lt m n) [
  | inl lt ↦ omega (arith, twice 9 (m + n) n (omega arith), grows 9 0 m (omega arith))
  | inr ge ↦ omega (arith, twice 9 (m + n) m (omega arith), grows 9 0 n (omega arith))
]

-- what holds of all that a run before others may become holds of them joined
when_joined : (P : List LocalRun → Type 0) (l m : LocalRun) (ms : List LocalRun) → P (m ∷ ms) → P (record { count = l.count + m.count; kind = m.kind } ∷ ms) → P (l ∷ m ∷ ms) → P (join l (m ∷ ms))
unfolding join
when_joined P l m ms none same other =
    let grown : LocalRun = record { count = l.count + m.count; kind = m.kind } in
    cond_both (nat_eq l.count 0) (m ∷ ms) (cond (same_kind l.kind m.kind) (grown ∷ ms) (l ∷ m ∷ ms)) P (λ e. none) (λ e. cond_both (same_kind l.kind m.kind) (grown ∷ ms) (l ∷ m ∷ ms) P (λ f. same) (λ f. other))

-- also with no others
when_alone : (P : List LocalRun → Type 0) (l : LocalRun) → P [] → P (l ∷ []) → P (join l [])
unfolding join
when_alone P l none one = cond_both (nat_eq l.count 0) [] (l ∷ []) P (λ e. none) (λ e. one)

join_short : (l : LocalRun) (ms : List LocalRun) → length (flat_map run_written (join l ms)) ≤ length (run_written l) + length (flat_map run_written ms)
join_short l [] = when_alone (λ rs. length (flat_map run_written rs) ≤ length (run_written l) + 0) l (omega arith) (omega (arith, length-append (run_written l) []))
join_short l (m ∷ ms) = when_joined (λ rs. length (flat_map run_written rs) ≤ length (run_written l) + length (flat_map run_written (m ∷ ms))) l m ms
    (omega arith)
    (omega (
      arith,
      sum_short l.count m.count,
      length-append (shortest (l.count + m.count)) (valtype_written m.kind),
      length-append (shortest m.count) (valtype_written m.kind),
      length-append (shortest l.count) (valtype_written l.kind),
      length-append (run_written (record { count = l.count + m.count; kind = m.kind })) (flat_map run_written ms),
      length-append (run_written m) (flat_map run_written ms),
    ))
    (omega (arith, length-append (run_written l) (flat_map run_written (m ∷ ms))))

all_short : (ls : List LocalRun) → length (flat_map run_written (joined ls)) ≤ length (flat_map run_written ls)
unfolding join_all
all_short [] = omega arith
all_short (l ∷ ls) = omega (arith, join_short l (joined ls), all_short ls, length-append (run_written l) (flat_map run_written ls))

-- ## Joined locals are spelled

-- what holds of a run that is written
abbrev IsRunWritten : LocalRun → Type 0
IsRunWritten l = (l.count < 2 ^ 32) × valtype.Spells (valtype_written l.kind) l.kind

abbrev AllWritten : List LocalRun → Type 0
AllWritten [] = Unit {0}
AllWritten (l ∷ ls) = IsRunWritten l × AllWritten ls

one_written : (a : List ℕ) (l : LocalRun) → run.Spells a l → length a ≤ 2 ^ 30 → IsRunWritten l
unfolding run
one_written a l h le =
    let p = h.0 in
    let t = h.1 in
    subst IsRunWritten h.2 (within_bits 32 p.0 t.0 t.3, canon_valtype.again t.1 p.1 t.4 (omega (arith, ap length t.2, length-append t.0 t.1)))

all_written : (e : List ℕ) (xs : List LocalRun) → Each run.Spells e xs → length e ≤ 2 ^ 30 → AllWritten xs
unfolding Each
all_written e [] h le = tt
all_written e (l ∷ ls) h le =
    let len : length e ≡ length h.0 + length h.1 = ap length h.2 ∙ length-append h.0 h.1 in
    (one_written h.0 l h.3 (omega arith), all_written h.1 ls h.4 (omega arith))

each_written : (xs : List LocalRun) → AllWritten xs → Each run.Spells (flat_map run_written xs) xs
unfolding Each run
each_written [] h = refl
each_written (l ∷ ls) h = (run_written l, flat_map run_written ls, refl, ((l.count, l.kind), (shortest l.count, valtype_written l.kind, refl, shortest_spells 9 32 l.count (omega arith) h.0.0, h.0.1), refl), each_written ls h.1)

join_written : (l : LocalRun) (ms : List LocalRun) → IsRunWritten l → AllWritten ms → l.count + total ms < 2 ^ 32 → AllWritten (join l ms)
unfolding total
join_written l [] h g lt = when_alone AllWritten l tt (h, tt)
join_written l (m ∷ ms) h g lt = when_joined AllWritten l m ms g ((omega arith, g.0.1), g.1) (h, g)

all_are_written : (ls : List LocalRun) → AllWritten ls → total ls < 2 ^ 32 → AllWritten (joined ls)
unfolding join_all total
all_are_written [] h lt = tt
all_are_written (l ∷ ls) h lt = join_written l (joined ls) h.0 (all_are_written ls h.1 (omega arith)) (omega (arith, total_joined ls))

canon_locals : IsCanonical locals (vec_written run_written)
unfolding locals Counted
canon_locals = record {
  short = λ b ys h.
      let xs = h.0 in
      let c = h.1.0 in
      subst (λ (v : List LocalRun). length (vec_written run_written v) ≤ 2 * length b) h.2
      (omega (
        arith,
        grows 9 (length (joined xs)) (length xs) (few_joined xs),
        shortest_is_short 9 32 (length xs) c.0 c.3,
        all_short xs,
        each_short run run_written canon_run c.1 xs c.4,
        ap length c.2,
        length-append c.0 c.1,
        length-append (shortest (length (joined xs))) (flat_map run_written (joined xs)),
      ));
  again = λ b ys h le.
      let xs = h.0 in
      let c = h.1.0 in
      let len : length b ≡ length c.0 + length c.1 = ap length c.2 ∙ length-append c.0 c.1 in
      let lt = ltb-true (total xs) (2 ^ 32) h.1.1 in
      let small : length (joined xs) < 2 ^ 32 = omega (arith, few_joined xs, within_bits 32 (length xs) c.0 c.3) in
      let w = all_are_written xs (all_written c.1 xs c.4 (omega arith)) lt in
      let js = joined xs in
      subst (λ (v : List LocalRun). locals.Spells (vec_written run_written v) v) h.2
      (js, ((shortest (length js), flat_map run_written js, refl, shortest_spells 9 32 (length js) (omega arith) small, each_written js w), lt-ltb (total js) (2 ^ 32) (omega (arith, total_joined xs))), joined_twice js (all_joined xs));
}

canon_func : IsCanonical func func_written
unfolding func
canon_func = canon_image (locals ⊗ expr) (λ p. vec_written run_written p.0 ++ expr_written p.1) (λ p. record { locals = p.0; body = p.1 }) func_written (canon_pair locals expr (vec_written run_written) expr_written canon_locals canon_expr) (λ p. refl)

pub canon_code : IsCanonical code code_written
unfolding code
canon_code = canon_sized func func_written canon_func
