-- What holds of values and locals holds with more resumptions, and with other locals set.
use Rattle.std.proofs.Common.{◌≡◌, ℕ, zero, suc, ◌+◌, ◌<◌, ◌≤◌, List, [], ◌∷◌, ◌++◌, Option, Some, refl, ap, ◌∙◌, arith}
use Rattle.std.specs.Prelude.{slice_get, slice_set}
use Rattle.lists.specs.Rows.{Row}
use Rattle.w_reduce.specs.Values.{Val}
use Rattle.s_syntax.specs.declared.name.Name.{Name}
use Rattle.s_syntax.specs.ExprTree.{Exprs}
use Rattle.s_syntax.specs.declared.script.Declaration.{Declaration}
use Rattle.s_code.specs.Layouts.{Layout}
use Rattle.s_meaning.specs.Terms.{Value, Variable}
use Rattle.s_meaning.proofs.Lists.{get_before, length_set}
use Rattle.s_agrees.proofs.ScriptRows.{Values}
use Rattle.s_agrees.proofs.StandsFor.{Same, number, reference, Sames, none, more, Locals, LocalIs, InLocal, Holds, Held, HeldAt, held_none, held_more, Active, Asides}

-- ## More resumptions

pub record Grows (ρ ρ' : List ℕ) : Type 0 where
  pub keeps : (a b : ℕ) → slice_get ρ a ≡ Some b → slice_get ρ' a ≡ Some b

pub grows_more : (ρ : List ℕ) (b : ℕ) → Grows ρ (ρ ++ b ∷ [])
grows_more ρ b = record { keeps = λ a c e. get_before ρ (b ∷ []) a c e }

pub same_grows : {ρ ρ' : List ℕ} {v : Value} {w : Val} → Grows ρ ρ' → Same ρ v w → Same ρ' v w
same_grows g (number h e) = number h e
same_grows g (reference {a = a} {b = b} e) = reference (g.keeps a b e)

pub sames_grow : {ρ ρ' : List ℕ} {vs : Values} {ws : Row Val} → Grows ρ ρ' → Sames ρ vs ws → Sames ρ' vs ws
sames_grow g none = none
sames_grow g (more s h) = more (sames_grow g s) (same_grows g h)

pub local_grows : {ρ ρ' : List ℕ} {L : Locals} {x : ℕ} {v : Value} → Grows ρ ρ' → LocalIs ρ L x v → LocalIs ρ' L x v
local_grows g l = record { value = l.value; is = l.is; same = same_grows g l.same }

pub in_local_grows : {ρ ρ' : List ℕ} {Γ : Layout} {L : Locals} {x : Name} {v : Variable} → Grows ρ ρ' → InLocal ρ Γ L x v → InLocal ρ' Γ L x v
in_local_grows g i = record { local = i.local; is = i.is; ty = i.ty; held = local_grows g i.held }

pub holds_grow : {ρ ρ' : List ℕ} {Γ : Layout} {vars : List Variable} {L : Locals} → Grows ρ ρ' → Holds ρ Γ vars L → Holds ρ' Γ vars L
holds_grow g h = record { each = λ x v e. in_local_grows g (h.each x v e) }

pub held_grows : {ρ ρ' : List ℕ} {L : Locals} {vs : List Value} → Grows ρ ρ' → Held ρ L vs → Held ρ' L vs
held_grows g h = record { each = λ i v e. local_grows g (h.each i v e) }

pub held_at_grows : {ρ ρ' : List ℕ} {L : Locals} {b : ℕ} {ns : Row ℕ} {us : Values} → Grows ρ ρ' → HeldAt ρ L b ns us → HeldAt ρ' L b ns us
held_at_grows g held_none = held_none
held_at_grows g (held_more h lt l) = held_more (held_at_grows g h) lt (local_grows g l)

pub active_grows : {ρ ρ' : List ℕ} {Γ : Layout} {n : ℕ} {L : Locals} {vars : List Variable} → Grows ρ ρ' → Active ρ Γ n L vars → Active ρ' Γ n L vars
active_grows g a = record { fine = a.fine; room = a.room; holds = holds_grow g a.holds }

pub asides_grow : {ds : List Declaration} {ρ ρ' : List ℕ} {Γ : Layout} {n : ℕ} {L : Locals} {f : Name} {m t u : ℕ} {ns : Row ℕ} {us : Values} {es bs : Exprs}
    → Grows ρ ρ' → Asides ds ρ Γ n L f m t u ns us es bs → Asides ds ρ' Γ n L f m t u ns us es bs
asides_grow g a = record { free = a.free; firsts = a.firsts; behind = a.behind; handled = a.handled; asides = a.asides; args = a.args; held = held_at_grows g a.held }

-- ## Locals that are set

pub get_set_same : {A : Type 0} (xs : List A) (a : ℕ) (y x : A) → slice_get xs a ≡ Some x → slice_get (slice_set xs a y) a ≡ Some y
get_set_same [] a y x h = absurd (cc)
get_set_same (z ∷ xs) zero y x h = refl
get_set_same (z ∷ xs) (suc a) y x h = get_set_same xs a y x h

pub get_set_other : {A : Type 0} (xs : List A) (a b : ℕ) (y : A) → ((a ≡ b) → ⊥) → slice_get (slice_set xs a y) b ≡ slice_get xs b
get_set_other [] a b y n = refl
get_set_other (z ∷ xs) zero zero y n = absurd (n refl)
get_set_other (z ∷ xs) zero (suc b) y n = refl
get_set_other (z ∷ xs) (suc a) zero y n = refl
get_set_other (z ∷ xs) (suc a) (suc b) y n = get_set_other xs a b y (λ e. n (ap suc e))

-- a local below what is set
pub local_kept : {ρ : List ℕ} {L : Locals} {x : ℕ} {v : Value} (y : ℕ) (w : Option Val) → x < y → LocalIs ρ L x v → LocalIs ρ (slice_set L y w) x v
local_kept {L = L} {x = x} y w lt l =
    record { value = l.value; is = get_set_other L y x w (λ (e : y ≡ x). omega (arith, lt, e)) ∙ l.is; same = l.same }

pub held_at_kept : {ρ : List ℕ} {L : Locals} {b : ℕ} {ns : Row ℕ} {us : Values} (y : ℕ) (w : Option Val) → b ≤ y → HeldAt ρ L b ns us → HeldAt ρ (slice_set L y w) b ns us
held_at_kept y w le held_none = held_none
held_at_kept y w le (held_more h lt l) = held_more (held_at_kept y w le h) lt (local_kept y w (omega (arith, lt, le)) l)

-- more may be in use
pub held_at_wider : {ρ : List ℕ} {L : Locals} {b d : ℕ} {ns : Row ℕ} {us : Values} → b ≤ d → HeldAt ρ L b ns us → HeldAt ρ L d ns us
held_at_wider le held_none = held_none
held_at_wider le (held_more h lt l) = held_more (held_at_wider le h) (omega (arith, lt, le)) l

-- a temporary is set
pub active_kept : {ρ : List ℕ} {Γ : Layout} {n : ℕ} {L : Locals} {vars : List Variable} (y : ℕ) (w : Option Val) → Γ.temporaries ≤ y → Active ρ Γ n L vars → Active ρ Γ n (slice_set L y w) vars
active_kept {ρ} {Γ} {n} {L} {vars} y w le a = record {
  fine = a.fine;
  room = let e = length_set L y w in let r = a.room in omega (arith, e, r);
  holds = record {
    each = λ x v e. let i = a.holds.each x v e in let lt = a.fine.below x i.local i.is in
        record { local = i.local; is = i.is; ty = i.ty; held = local_kept y w (omega (arith, lt, le)) i.held };
  };
}

pub asides_kept : {ds : List Declaration} {ρ : List ℕ} {Γ : Layout} {n : ℕ} {L : Locals} {f : Name} {m t u : ℕ} {ns : Row ℕ} {us : Values} {es bs : Exprs} (y : ℕ) (w : Option Val)
    → Γ.temporaries + t ≤ y → Asides ds ρ Γ n L f m t u ns us es bs → Asides ds ρ Γ n (slice_set L y w) f m t u ns us es bs
asides_kept y w le a = record { free = a.free; firsts = a.firsts; behind = a.behind; handled = a.handled; asides = a.asides; args = a.args; held = held_at_kept y w le a.held }
