-- How a run ends is read as it is written.
use Rattle.std.proofs.Common.{◌≡◌, ℕ, Bool, true, false, cond, List, [], ◌∷◌, ◌++◌, Option, Some, None, refl, sym, ap, subst, ◌∙◌, inl, inr, arith, decimal}
use Rattle.std.specs.Prelude.{option_map, codes, nat_eq}
use Rattle.std.specs.Str.{bytes_eq}
use Rattle.w_reduce.specs.declared.limit.RunLimit.{RunLimit}
use Rattle.w_reduce.specs.declared.limit.RunLimit.TheVariants.{Frames, Handles, Conts}
use Rattle.w_reduce.specs.declared.trap.Trap.{Trap}
use Rattle.w_reduce.specs.declared.trap.Trap.TheVariants as trap
use Rattle.w_words.specs.Words.{IsClean, behind, or_else}
use Rattle.w_words.specs.Numbers.{number_of}
use Rattle.w_words.specs.Pieces.{InLine}
use Rattle.w_words.proofs.Readings.{tested, mapped, then_some, either, behind_sound}
use Rattle.w_words.proofs.Numerals.{number_sound, number_complete, number_clean}
use Rattle.w_words.proofs.Pieces.{words_in_line}
use Rattle.w_trace.specs.declared.trace.Ending.{Ending}
use Rattle.w_trace.specs.declared.trace.Ending.TheVariants as ending
use Rattle.w_trace.specs.Endings.{trap_text, run_limit_text, ending_text}
use Rattle.w_trace.specs.Lines.{TrapFits, EndingFits}
use Rattle.w_trace.specs.Reading.{bounds_trap_said, plain_trap_said, unhandled_said, trap_said, limit_said, limit_or_trap_said, ending_said}

-- ## What is read was written so

abbrev TrapTold : List ℕ → Trap → Type 0
TrapTold t x = TrapFits x × (trap_text x ≡ t)

bounds_sound : (t : List ℕ) (x : Trap) → bounds_trap_said t ≡ Some x → TrapTold t x
bounds_sound t x e = elim (tested (bytes_eq t (codes "trap memory out of bounds")) t (codes "trap memory out of bounds") trap.MemoryOutOfBounds x _ refl e) [
  | inl p ↦ subst (TrapTold t) p.1 (tt, sym p.0)
  | inr e2 ↦ elim (tested (bytes_eq t (codes "trap table out of bounds")) t (codes "trap table out of bounds") trap.TableOutOfBounds x _ refl e2) [
    | inl p ↦ subst (TrapTold t) p.1 (tt, sym p.0)
    | inr e3 ↦ elim (tested (bytes_eq t (codes "trap undefined element")) t (codes "trap undefined element") trap.UndefinedElement x _ refl e3) [
      | inl p ↦ subst (TrapTold t) p.1 (tt, sym p.0)
      | inr e4 ↦ elim (tested (bytes_eq t (codes "trap null element")) t (codes "trap null element") trap.NullElement x _ refl e4) [
        | inl p ↦ subst (TrapTold t) p.1 (tt, sym p.0)
        | inr e5 ↦ elim (tested (bytes_eq t (codes "trap null reference")) t (codes "trap null reference") trap.NullReference x None refl e5) [
          | inl p ↦ subst (TrapTold t) p.1 (tt, sym p.0)
          | inr e6 ↦ absurd cc
        ]
      ]
    ]
  ]
]

plain_sound : (t : List ℕ) (x : Trap) → plain_trap_said t ≡ Some x → TrapTold t x
plain_sound t x e = elim (tested (bytes_eq t (codes "trap unreachable")) t (codes "trap unreachable") trap.Unreachable x _ refl e) [
  | inl p ↦ subst (TrapTold t) p.1 (tt, sym p.0)
  | inr e2 ↦ elim (tested (bytes_eq t (codes "trap divide by zero")) t (codes "trap divide by zero") trap.DivideByZero x _ refl e2) [
    | inl p ↦ subst (TrapTold t) p.1 (tt, sym p.0)
    | inr e3 ↦ elim (tested (bytes_eq t (codes "trap integer overflow")) t (codes "trap integer overflow") trap.IntegerOverflow x _ refl e3) [
      | inl p ↦ subst (TrapTold t) p.1 (tt, sym p.0)
      | inr e4 ↦ elim (tested (bytes_eq t (codes "trap call type mismatch")) t (codes "trap call type mismatch") trap.CallTypeMismatch x _ refl e4) [
        | inl p ↦ subst (TrapTold t) p.1 (tt, sym p.0)
        | inr e5 ↦ elim (tested (bytes_eq t (codes "trap consumed continuation")) t (codes "trap consumed continuation") trap.ConsumedContinuation x None refl e5) [
          | inl p ↦ subst (TrapTold t) p.1 (tt, sym p.0)
          | inr e6 ↦ absurd cc
        ]
      ]
    ]
  ]
]

unhandled_sound : (t : List ℕ) (x : Trap) → unhandled_said t ≡ Some x → TrapTold t x
unhandled_sound t x e =
    let a = then_some (behind (codes "trap unhandled ") t) (λ v. option_map trap.Unhandled (number_of 32 v)) x e in
    let b = mapped trap.Unhandled (number_of 32 a.0) x a.2 in
    let n = number_sound 32 (omega arith) a.0 b.0 b.1 in
    subst (TrapTold t) b.2 (n.0, ap (λ (v : List ℕ). codes "trap unhandled " ++ v) n.1 ∙ sym (behind_sound (codes "trap unhandled ") t a.0 a.1))

trap_sound : (t : List ℕ) (x : Trap) → trap_said t ≡ Some x → TrapTold t x
trap_sound t x e = elim (either (plain_trap_said t) (or_else (bounds_trap_said t) (unhandled_said t)) x e) [
  | inl p ↦ plain_sound t x p
  | inr p ↦ elim (either (bounds_trap_said t) (unhandled_said t) x p) [ inl q ↦ bounds_sound t x q | inr q ↦ unhandled_sound t x q ]
]

limit_sound : (t : List ℕ) (x : RunLimit) → limit_said t ≡ Some x → run_limit_text x ≡ t
limit_sound t x e = elim (tested (bytes_eq t (codes "limit frames")) t (codes "limit frames") Frames x _ refl e) [
  | inl p ↦ subst (λ (y : RunLimit). run_limit_text y ≡ t) p.1 (sym p.0)
  | inr e2 ↦ elim (tested (bytes_eq t (codes "limit handles")) t (codes "limit handles") Handles x _ refl e2) [
    | inl p ↦ subst (λ (y : RunLimit). run_limit_text y ≡ t) p.1 (sym p.0)
    | inr e3 ↦ elim (tested (bytes_eq t (codes "limit conts")) t (codes "limit conts") Conts x None refl e3) [
      | inl p ↦ subst (λ (y : RunLimit). run_limit_text y ≡ t) p.1 (sym p.0)
      | inr e4 ↦ absurd cc
    ]
  ]
]

abbrev EndingTold : List ℕ → Ending → Type 0
EndingTold t x = EndingFits x × (ending_text x ≡ t)

limit_or_trap_sound : (t : List ℕ) (x : Ending) → limit_or_trap_said t ≡ Some x → EndingTold t x
limit_or_trap_sound t x e = elim (either (option_map ending.Limit (limit_said t)) (option_map ending.Trapped (trap_said t)) x e) [
  | inl p ↦ let a = mapped ending.Limit (limit_said t) x p in subst (EndingTold t) a.2 (tt, limit_sound t a.0 a.1)
  | inr p ↦ let a = mapped ending.Trapped (trap_said t) x p in subst (EndingTold t) a.2 (trap_sound t a.0 a.1)
]

-- what is read fits, and was written so
pub ending_sound : (t : List ℕ) (x : Ending) → ending_said t ≡ Some x → EndingFits x × (ending_text x ≡ t)
ending_sound t x e = elim (tested (bytes_eq t (codes "ended")) t (codes "ended") ending.Ended x _ refl e) [
  | inl p ↦ subst (EndingTold t) p.1 (tt, sym p.0)
  | inr e2 ↦ elim (tested (bytes_eq t (codes "running")) t (codes "running") ending.Running x _ refl e2) [
    | inl p ↦ subst (EndingTold t) p.1 (tt, sym p.0)
    | inr e3 ↦ limit_or_trap_sound t x e3
  ]
]

-- ## What is written is read

-- what fits is read as it is written
pub ending_complete : (x : Ending) → EndingFits x → ending_said (ending_text x) ≡ Some x
ending_complete ending.Ended f = refl
ending_complete ending.Running f = refl
ending_complete (ending.Limit Frames) f = refl
ending_complete (ending.Limit Handles) f = refl
ending_complete (ending.Limit Conts) f = refl
ending_complete (ending.Trapped trap.Unreachable) f = refl
ending_complete (ending.Trapped trap.DivideByZero) f = refl
ending_complete (ending.Trapped trap.IntegerOverflow) f = refl
ending_complete (ending.Trapped trap.MemoryOutOfBounds) f = refl
ending_complete (ending.Trapped trap.TableOutOfBounds) f = refl
ending_complete (ending.Trapped trap.UndefinedElement) f = refl
ending_complete (ending.Trapped trap.NullElement) f = refl
ending_complete (ending.Trapped trap.CallTypeMismatch) f = refl
ending_complete (ending.Trapped trap.NullReference) f = refl
ending_complete (ending.Trapped trap.ConsumedContinuation) f = refl
ending_complete (ending.Trapped (trap.Unhandled x)) f = ap (λ (o : Option ℕ). option_map ending.Trapped (option_map trap.Unhandled o)) (number_complete 32 (omega arith) x f)

-- ## No line feed

has_no_feed : List ℕ → Bool
has_no_feed [] = true
has_no_feed (b ∷ bs) = cond (nat_eq b 10) false (has_no_feed bs)

by_test : (bs : List ℕ) → has_no_feed bs ≡ true → InLine bs
unfolding has_no_feed
by_test [] e = tt
by_test (b ∷ bs) e = cases (nat_eq b 10) refl (by_test bs) e
  where
    cases : (v : Bool) → nat_eq b 10 ≡ v → (has_no_feed bs ≡ true → InLine bs) → cond v false (has_no_feed bs) ≡ true → InLine (b ∷ bs)
    cases true t again h = absurd cc
    cases false t again h = (t, again h)

-- parts without line feeds
pub joined_in_line : (bs cs : List ℕ) → InLine bs → InLine cs → InLine (bs ++ cs)
joined_in_line [] cs h g = g
joined_in_line (b ∷ bs) cs h g = (h.0, joined_in_line bs cs h.1 g)

without_nil : (bs : List ℕ) → InLine (bs ++ []) → InLine bs
without_nil [] h = tt
without_nil (b ∷ bs) h = (h.0, without_nil bs h.1)

-- a word without separators
pub clean_in_line : (w : List ℕ) → IsClean w → InLine w
clean_in_line w h = without_nil w (words_in_line (w ∷ []) (h, tt))

-- no line feed is in it
pub ending_in_line : (x : Ending) → EndingFits x → InLine (ending_text x)
unfolding has_no_feed
ending_in_line ending.Ended f = by_test (codes "ended") refl
ending_in_line ending.Running f = by_test (codes "running") refl
ending_in_line (ending.Limit Frames) f = by_test (codes "limit frames") refl
ending_in_line (ending.Limit Handles) f = by_test (codes "limit handles") refl
ending_in_line (ending.Limit Conts) f = by_test (codes "limit conts") refl
ending_in_line (ending.Trapped trap.Unreachable) f = by_test (codes "trap unreachable") refl
ending_in_line (ending.Trapped trap.DivideByZero) f = by_test (codes "trap divide by zero") refl
ending_in_line (ending.Trapped trap.IntegerOverflow) f = by_test (codes "trap integer overflow") refl
ending_in_line (ending.Trapped trap.MemoryOutOfBounds) f = by_test (codes "trap memory out of bounds") refl
ending_in_line (ending.Trapped trap.TableOutOfBounds) f = by_test (codes "trap table out of bounds") refl
ending_in_line (ending.Trapped trap.UndefinedElement) f = by_test (codes "trap undefined element") refl
ending_in_line (ending.Trapped trap.NullElement) f = by_test (codes "trap null element") refl
ending_in_line (ending.Trapped trap.CallTypeMismatch) f = by_test (codes "trap call type mismatch") refl
ending_in_line (ending.Trapped trap.NullReference) f = by_test (codes "trap null reference") refl
ending_in_line (ending.Trapped trap.ConsumedContinuation) f = by_test (codes "trap consumed continuation") refl
ending_in_line (ending.Trapped (trap.Unhandled x)) f = joined_in_line (codes "trap unhandled ") (decimal x) (by_test (codes "trap unhandled ") refl) (clean_in_line (decimal x) (number_clean x (omega (arith, f))))
