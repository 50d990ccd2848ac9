-- Counts of 2^64 and more are all one: no text that is read has as many lines, so that the same lines are refused.
use Rattle.std.proofs.Common.{◌≡◌, ◌⊎◌, inl, inr, ℕ, zero, suc, ◌+◌, ◌^◌, ◌<◌, ◌≤◌, Bool, true, false, cond, List, [], ◌∷◌, ◌++◌, Option, Some, None, refl, sym, ap, subst, ◌∙◌, arith}
use Rattle.std.specs.Prelude.{⊤, nat_le, option_map}
use Rattle.std.proofs.lemmas.Bool.{cases_lt}
use Rattle.w_types.specs.declared.types.RefType.{RefType}
use Rattle.w_types.specs.declared.types.SubType.{SubType}
use Rattle.w_syntax.specs.declared.module.Module.{Module}
use Rattle.w_syntax.specs.Code.{Code, Done}
use Rattle.w_syntax.specs.Expr.{Path, Top, Outcome, More, Finished, Wrong, step as token_step}
use Rattle.w_words.specs.Numbers.{kept_count}
use Rattle.w_lines.specs.declared.line.Mode.{Mode}
use Rattle.w_lines.specs.declared.line.Mode.TheVariants as mode
use Rattle.w_lines.specs.declared.line.Line.{Line}
use Rattle.w_lines.specs.declared.line.Line.TheVariants as line
use Rattle.w_lines.specs.Kept.{kept}
use Rattle.w_text.specs.Items.{Head, ElemHead}
use Rattle.w_text.specs.Machine.{Between, InGroup, InLocals, InExprs, State, Fresh, Reading, head_rank, group_on, exprs_on, expr_on, begin, next, placed, step, finished}
use Rattle.w_text.specs.Standing.{on_line}

-- behind n lines: in both are the same blocks open, at the same place, and more types or expressions are to come than there are lines
abbrev Many : ℕ → State → State → Type 0
Many n (Reading j m (InGroup a ts)) (Reading k o (InGroup b us)) = (j ≡ k) × (2 ^ 62 ≤ a + n) × (2 ^ 62 ≤ b + n)
Many n (Reading j m (InExprs h a cs p c)) (Reading k o (InExprs i b ds q d)) = (j ≡ k) × (2 ^ 62 ≤ a + n) × (2 ^ 62 ≤ b + n) × (head_rank h ≡ head_rank i) × (p ≡ q) × (c ≡ d)
Many n s t = ⊥

abbrev pub Alike : ℕ → State → State → Type 0
Alike n s t = (s ≡ t) ⊎ Many n s t

abbrev BothLed : ℕ → Option State → Option State → Type 0
BothLed n None None = ⊤
BothLed n (Some s) (Some t) = Alike n s t
BothLed n None (Some t) = ⊥
BothLed n (Some s) None = ⊥

same : (n : ℕ) (o : Option State) → BothLed n o o
same n None = tt
same n (Some s) = inl refl

-- ## Where a count comes

kept_or_many : (k : ℕ) → (kept_count k ≡ k) ⊎ ((2 ^ 62 + 2 ≤ k) × (2 ^ 62 + 2 ≤ kept_count k))
kept_or_many k = elim (cases_lt k 18446744073709551616) [ inl lt ↦ inl (omega arith) | inr ge ↦ inr (omega arith, omega arith) ]

-- at one place
both_placed : (n j r : ℕ) (s t : State) → Many n s t → BothLed n (cond (nat_le j r) (Some s) None) (cond (nat_le j r) (Some t) None)
both_placed n j r s t m = by (nat_le j r)
  where
    by : (b : Bool) → BothLed n (cond b (Some s) None) (cond b (Some t) None)
    by true = inr m
    by false = tt

groups : (n j : ℕ) (m : Module) (k l : ℕ) → 2 ^ 62 + 2 ≤ k → 2 ^ 62 + 2 ≤ l → BothLed n (placed j m (begin (line.Group k))) (placed j m (begin (line.Group l)))
groups n j m zero l g h = absurd (omega (arith, g))
groups n j m (suc zero) l g h = absurd (omega (arith, g))
groups n j m (suc (suc k)) zero g h = absurd (omega (arith, h))
groups n j m (suc (suc k)) (suc zero) g h = absurd (omega (arith, h))
groups n j m (suc (suc k)) (suc (suc l)) g h = both_placed n j 0 (Reading 0 m (InGroup (suc k) [])) (Reading 0 m (InGroup (suc l) [])) (refl, omega (arith, g), omega (arith, h))

two_exprs : (n j : ℕ) (m : Module) (x : Mode) (r : RefType) (e f k l : ℕ) → 2 ^ 62 + 2 ≤ k → 2 ^ 62 + 2 ≤ l → BothLed n (placed j m (exprs_on (ElemHead x r e) k [])) (placed j m (exprs_on (ElemHead x r f) l []))
two_exprs n j m x r e f zero l g h = absurd (omega (arith, g))
two_exprs n j m x r e f (suc k) zero g h = absurd (omega (arith, h))
two_exprs n j m x r e f (suc k) (suc l) g h = both_placed n j 8 (Reading 8 m (InExprs (ElemHead x r e) k [] Top Done)) (Reading 8 m (InExprs (ElemHead x r f) l [] Top Done)) (refl, omega (arith, g), omega (arith, h), refl, refl, refl)

elements : (n j : ℕ) (m : Module) (x : Mode) (r : RefType) (k l : ℕ) → 2 ^ 62 + 2 ≤ k → 2 ^ 62 + 2 ≤ l → BothLed n (placed j m (begin (line.Elements x r k))) (placed j m (begin (line.Elements x r l)))
elements n j m (mode.Active y) r k l g h = two_exprs n j m (mode.Active y) r k l (suc k) (suc l) (omega (arith, g)) (omega (arith, h))
elements n j m mode.Passive r k l g h = two_exprs n j m mode.Passive r k l k l g h
elements n j m mode.Declarative r k l g h = two_exprs n j m mode.Declarative r k l k l g h

begin_group : (n j : ℕ) (m : Module) (k : ℕ) → BothLed n (placed j m (begin (line.Group k))) (placed j m (begin (line.Group (kept_count k))))
begin_group n j m k = elim (kept_or_many k) [
  | inl e ↦ subst (λ (l : ℕ). BothLed n (placed j m (begin (line.Group k))) (placed j m (begin (line.Group l)))) (sym e) (same n (placed j m (begin (line.Group k))))
  | inr g ↦ groups n j m k (kept_count k) g.0 g.1
]

begin_elements : (n j : ℕ) (m : Module) (x : Mode) (r : RefType) (k : ℕ) → BothLed n (placed j m (begin (line.Elements x r k))) (placed j m (begin (line.Elements x r (kept_count k))))
begin_elements n j m x r k = elim (kept_or_many k) [
  | inl e ↦ subst (λ (l : ℕ). BothLed n (placed j m (begin (line.Elements x r k))) (placed j m (begin (line.Elements x r l)))) (sym e) (same n (placed j m (begin (line.Elements x r k))))
  | inr g ↦ elements n j m x r k (kept_count k) g.0 g.1
]

-- from one state
from_one : (n : ℕ) (s : State) (l : Line) → BothLed n (step s l) (step s (kept l))
unfolding step next
from_one n Fresh (line.Group k) = tt
from_one n Fresh (line.Elements x r k) = tt
from_one n (Reading j m Between) (line.Group k) = begin_group n j m k
from_one n (Reading j m (InGroup a ts)) (line.Group k) = tt
from_one n (Reading j m (InLocals x ls)) (line.Group k) = tt
from_one n (Reading j m (InExprs h a cs p c)) (line.Group k) = tt
from_one n (Reading j m Between) (line.Elements x r k) = begin_elements n j m x r k
from_one n (Reading j m (InGroup a ts)) (line.Elements x r k) = tt
from_one n (Reading j m (InLocals y ls)) (line.Elements x r k) = tt
from_one n (Reading j m (InExprs h a cs p c)) (line.Elements x r k) = tt
from_one n s line.Module = same n (step s line.Module)
from_one n s (line.Type t) = same n (step s (line.Type t))
from_one n s (line.Import i) = same n (step s (line.Import i))
from_one n s (line.Table t b) = same n (step s (line.Table t b))
from_one n s (line.Memory l) = same n (step s (line.Memory l))
from_one n s (line.Tag t) = same n (step s (line.Tag t))
from_one n s (line.Global g) = same n (step s (line.Global g))
from_one n s (line.Export e) = same n (step s (line.Export e))
from_one n s (line.Start x) = same n (step s (line.Start x))
from_one n s (line.Data o b) = same n (step s (line.Data o b))
from_one n s (line.Function x) = same n (step s (line.Function x))
from_one n s (line.Local l) = same n (step s (line.Local l))
from_one n s (line.Token t) = same n (step s (line.Token t))

-- ## Where more is to come than there are lines

types_on : (n j k : ℕ) (m o : Module) (a b : ℕ) (ts us : List SubType) (t : SubType) → n < 2 ^ 62 → j ≡ k → 2 ^ 62 ≤ a + n → 2 ^ 62 ≤ b + n → BothLed (suc n) (placed j m (group_on a (ts ++ t ∷ []))) (placed k o (group_on b (us ++ t ∷ [])))
types_on n j k m o zero b ts us t lt e g h = absurd (omega (arith, lt, g))
types_on n j k m o (suc a) zero ts us t lt e g h = absurd (omega (arith, lt, h))
types_on n j k m o (suc a) (suc b) ts us t lt e g h =
    subst (λ (i : ℕ). BothLed (suc n) (placed j m (group_on (suc a) (ts ++ t ∷ []))) (placed i o (group_on (suc b) (us ++ t ∷ [])))) e
    (both_placed (suc n) j 0 (Reading 0 m (InGroup a (ts ++ t ∷ []))) (Reading 0 o (InGroup b (us ++ t ∷ []))) (refl, omega (arith, g), omega (arith, h)))

tokens_on : (n j r : ℕ) (m o : Module) (h i : Head) (a b : ℕ) (cs ds : List Code) (u : Outcome) → n < 2 ^ 62 → head_rank h ≡ r → head_rank i ≡ r → 2 ^ 62 ≤ a + n → 2 ^ 62 ≤ b + n → BothLed (suc n) (placed j m (expr_on h a cs u)) (placed j o (expr_on i b ds u))
tokens_on n j r m o h i a b cs ds (More p c) lt e f g k =
    rw (e, f) (both_placed (suc n) j r (Reading r m (InExprs h a cs p c)) (Reading r o (InExprs i b ds p c)) (refl, omega (arith, g), omega (arith, k), e ∙ sym f, refl, refl))
tokens_on n j r m o h i zero b cs ds (Finished c) lt e f g k = absurd (omega (arith, lt, g))
tokens_on n j r m o h i (suc a) zero cs ds (Finished c) lt e f g k = absurd (omega (arith, lt, k))
tokens_on n j r m o h i (suc a) (suc b) cs ds (Finished c) lt e f g k =
    rw (e, f) (both_placed (suc n) j r (Reading r m (InExprs h a (cs ++ c ∷ []) Top Done)) (Reading r o (InExprs i b (ds ++ c ∷ []) Top Done)) (refl, omega (arith, g), omega (arith, k), e ∙ sym f, refl, refl))
tokens_on n j r m o h i a b cs ds Wrong lt e f g k = tt

in_groups : (n j k : ℕ) (m o : Module) (a b : ℕ) (ts us : List SubType) (l : Line) → n < 2 ^ 62 → j ≡ k → 2 ^ 62 ≤ a + n → 2 ^ 62 ≤ b + n → BothLed (suc n) (step (Reading j m (InGroup a ts)) l) (step (Reading k o (InGroup b us)) (kept l))
unfolding step next
in_groups n j k m o a b ts us (line.Type t) lt e g h = types_on n j k m o a b ts us t lt e g h
in_groups n j k m o a b ts us line.Module lt e g h = tt
in_groups n j k m o a b ts us (line.Group x) lt e g h = tt
in_groups n j k m o a b ts us (line.Import i) lt e g h = tt
in_groups n j k m o a b ts us (line.Table t x) lt e g h = tt
in_groups n j k m o a b ts us (line.Memory l) lt e g h = tt
in_groups n j k m o a b ts us (line.Tag t) lt e g h = tt
in_groups n j k m o a b ts us (line.Global x) lt e g h = tt
in_groups n j k m o a b ts us (line.Export x) lt e g h = tt
in_groups n j k m o a b ts us (line.Start x) lt e g h = tt
in_groups n j k m o a b ts us (line.Elements x y z) lt e g h = tt
in_groups n j k m o a b ts us (line.Data x y) lt e g h = tt
in_groups n j k m o a b ts us (line.Function x) lt e g h = tt
in_groups n j k m o a b ts us (line.Local x) lt e g h = tt
in_groups n j k m o a b ts us (line.Token x) lt e g h = tt

in_both : (n j : ℕ) (m o : Module) (h i : Head) (a b : ℕ) (cs ds : List Code) (p : Path) (c : Code) (l : Line) → n < 2 ^ 62 → head_rank h ≡ head_rank i → 2 ^ 62 ≤ a + n → 2 ^ 62 ≤ b + n → BothLed (suc n) (step (Reading j m (InExprs h a cs p c)) l) (step (Reading j o (InExprs i b ds p c)) (kept l))
unfolding step next
in_both n j m o h i a b cs ds p c (line.Token t) lt e g k = tokens_on n j (head_rank i) m o h i a b cs ds (token_step p c t) lt e refl g k
in_both n j m o h i a b cs ds p c (line.Type t) lt e g k = tt
in_both n j m o h i a b cs ds p c line.Module lt e g k = tt
in_both n j m o h i a b cs ds p c (line.Group x) lt e g k = tt
in_both n j m o h i a b cs ds p c (line.Import x) lt e g k = tt
in_both n j m o h i a b cs ds p c (line.Table t x) lt e g k = tt
in_both n j m o h i a b cs ds p c (line.Memory l) lt e g k = tt
in_both n j m o h i a b cs ds p c (line.Tag t) lt e g k = tt
in_both n j m o h i a b cs ds p c (line.Global x) lt e g k = tt
in_both n j m o h i a b cs ds p c (line.Export x) lt e g k = tt
in_both n j m o h i a b cs ds p c (line.Start x) lt e g k = tt
in_both n j m o h i a b cs ds p c (line.Elements x y z) lt e g k = tt
in_both n j m o h i a b cs ds p c (line.Data x y) lt e g k = tt
in_both n j m o h i a b cs ds p c (line.Function x) lt e g k = tt
in_both n j m o h i a b cs ds p c (line.Local x) lt e g k = tt

-- ## One line, and the end

from_many : (n : ℕ) (s t : State) (l : Line) → n < 2 ^ 62 → Many n s t → BothLed (suc n) (step s l) (step t (kept l))
from_many n (Reading j m (InGroup a ts)) (Reading k o (InGroup b us)) l lt w = in_groups n j k m o a b ts us l lt w.0 w.1 w.2
from_many n (Reading j m (InExprs h a cs p c)) (Reading k o (InExprs i b ds q d)) l lt w = rw (w.0, w.4, w.5) (in_both n k m o h i a b cs ds q d l lt w.3 w.1 w.2)
from_many n s t l lt w = elim w [ ]

one_line : (n : ℕ) (s t : State) (l : Line) → n < 2 ^ 62 → Alike n s t → BothLed (suc n) (step s l) (step t (kept l))
one_line n s t l lt (inl e) = subst (λ (u : State). BothLed (suc n) (step s l) (step u (kept l))) e (from_one (suc n) s l)
one_line n s t l lt (inr w) = from_many n s t l lt w

-- what the bytes of a line lead to
pub led_alike : (n : ℕ) (s t : State) (o : Option Line) → n < 2 ^ 62 → Alike n s t → BothLed (suc n) (on_line s o) (on_line t (option_map kept o))
led_alike n s t None lt a = tt
led_alike n s t (Some l) lt a = one_line n s t l lt a

pub refused_too : (n : ℕ) (o u : Option State) → BothLed n o u → u ≡ None → o ≡ None
refused_too n None u b e = refl
refused_too n (Some s) None b e = elim b [ ]
refused_too n (Some s) (Some t) b e = absurd cc

pub led_too : (n : ℕ) (o u : Option State) (t : State) → BothLed n o u → u ≡ Some t → (s : State) × (o ≡ Some s) × Alike n s t
led_too n None None t b e = absurd cc
led_too n None (Some v) t b e = elim b [ ]
led_too n (Some s) None t b e = elim b [ ]
led_too n (Some s) (Some v) t b e = let z : v ≡ t = cc in (s, refl, subst (λ (w : State). Alike n s w) z b)

-- both are at the end, or neither
pub finished_alike : (n : ℕ) (s t : State) → Alike n s t → finished s ≡ finished t
finished_alike n s t (inl e) = ap finished e
finished_alike n (Reading j m (InGroup a ts)) (Reading k o (InGroup b us)) (inr w) = refl
finished_alike n (Reading j m (InExprs h a cs p c)) (Reading k o (InExprs i b ds q d)) (inr w) = refl
finished_alike n s t (inr w) = elim w [ ]
