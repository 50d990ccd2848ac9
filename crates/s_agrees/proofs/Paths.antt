-- Reductions one after another, with caps on what they count, and what single instructions do.
use Rattle.std.proofs.Common.{◌≡◌, ℕ, zero, suc, ◌+◌, ◌≤◌, Bool, [], Option, Some, refl, ap, ◌∙◌, subst, arith}
use Rattle.std.specs.Prelude.{slice_get}
use Rattle.lists.specs.Rows.{Row, ε, ◌▹◌, ◌⧺◌, size}
use Rattle.w_syntax.specs.Code.{Code, Plain}
use Rattle.w_reduce.specs.Values.{Val}
use Rattle.w_reduce.specs.Store.{Store, live}
use Rattle.w_reduce.specs.Terms.{Context, Term, frames, handles, locals_of, with_local}
use Rattle.w_reduce.specs.Program.{Program}
use Rattle.w_reduce.specs.Reduced.{Reduced, Went, take_values}
use Rattle.w_reduce.specs.Reduce.{next}
use Rattle.s_syntax.specs.declared.script.Script.{Script}
use Rattle.s_code.specs.Instructions.{local_get, local_set}
use Rattle.s_code.specs.Lowered.{lowered}
use Rattle.s_agrees.proofs.StandsFor.{config, Locals}
use Rattle.s_agrees.proofs.CountedContexts.{frames_set, handles_set}

-- the module of a script, with a test of which types match which
abbrev pub program_of : Script → (ℕ → ℕ → Bool) → Program
program_of p matches = record { source = lowered p; matches = matches }

-- one reduction, before its limits are looked at
abbrev pub step : Program → Store → Term → Reduced
step P s t = next P s t.around t.operands t.rest.ahead t.rest.code

pub record Caps : Type 0 where
  pub frames : ℕ
  pub handles : ℕ
  pub conts : ℕ

pub record Under (k : Caps) (s : Store) (e : Context) : Type 0 where
  pub frames : frames e ≤ k.frames
  pub handles : handles e ≤ k.handles
  pub conts : live s ≤ k.conts

-- n reductions that print nothing
pub data Path (P : Program) (k : Caps) : ℕ → Store → Term → Store → Term → Type 0 where
  stay : {s : Store} {t : Term} → Path P k zero s t s t
  go : {n : ℕ} {s s' s'' : Store} {t t' t'' : Term} → step P s t ≡ Went [] s' t' → Under k s' t'.around → Path P k n s' t' s'' t'' → Path P k (suc n) s t s'' t''

pub path_on : {P : Program} {k : Caps} {n j : ℕ} {s s' s'' : Store} {t t' t'' : Term} → Path P k n s t s' t' → Path P k j s' t' s'' t'' → Path P k (n + j) s t s'' t''
path_on {P} {k} {j = j} {s = s} {s'' = s''} {t = t} {t'' = t''} stay q = subst (λ (i : ℕ). Path P k i s t s'' t'') (let z : j ≡ zero + j = omega arith in z) q
path_on {P} {k} {j = j} {s = s} {s'' = s''} {t = t} {t'' = t''} (go {n = n} h u x) q =
    subst (λ (i : ℕ). Path P k i s t s'' t'') (let z : suc (n + j) ≡ suc n + j = omega arith in z) (go h u (path_on x q))

pub path_wider : {P : Program} {k k' : Caps} {n : ℕ} {s s' : Store} {t t' : Term} → k.frames ≤ k'.frames → k.handles ≤ k'.handles → k.conts ≤ k'.conts
    → Path P k n s t s' t' → Path P k' n s t s' t'
path_wider f h c stay = stay
path_wider {P} {k} {k'} f h c (go {s' = s'} {t' = t'} x u q) = go x (wider u) (path_wider f h c q)
  where
    wider : Under k s' t'.around → Under k' s' t'.around
    wider v = let a = v.frames in let b = v.handles in let d = v.conts in record { frames = omega (arith, a, f); handles = omega (arith, b, h); conts = omega (arith, d, c) }

-- the same place, with a local set
pub under_set : {k : Caps} {s : Store} {e : Context} (y : ℕ) (w : Val) → Under k s e → Under k s (with_local y w e)
under_set {e = e} y w u =
    let a = frames_set y w e in let b = handles_set y w e in let c = u.frames in let d = u.handles in record {
      frames = omega (arith, a, c);
      handles = omega (arith, b, d);
      conts = u.conts;
    }

-- ## Single instructions

-- the topmost values of a row
pub takes : (n : ℕ) (below us : Row Val) (on : Row Val × Row Val → Reduced) → n ≡ size us → take_values n (below ⧺ us) on ≡ on (below, us)
takes zero below ε on e = refl
takes zero below (us ▹ u) on e = absurd (omega (arith, e))
takes (suc n) below ε on e = absurd (omega (arith, e))
takes (suc n) below (us ▹ u) on e = takes n below us (λ p. on (p.0, p.1 ▹ u)) (omega (arith, e))

pub get_step : (P : Program) (s : Store) (e : Context) (ops : Row Val) (c : Code) (x : ℕ) (w : Val) → slice_get (locals_of e) x ≡ Some (Some w)
    → step P s (config e ops (Plain (local_get x) c)) ≡ Went [] s (config e (ops ▹ w) c)
get_step P s e ops c x w p = rw p refl

pub get_path : {P : Program} {k : Caps} {s : Store} {e : Context} {ops : Row Val} {c : Code} {L : Locals} {n : ℕ} {s' : Store} {t' : Term} (x : ℕ) (w : Val)
    → locals_of e ≡ L → slice_get L x ≡ Some (Some w) → Under k s e
    → Path P k n s (config e (ops ▹ w) c) s' t' → Path P k (suc n) s (config e ops (Plain (local_get x) c)) s' t'
get_path {P} {k} {s} {e} {ops} {c} x w l p u q = go (get_step P s e ops c x w (ap (λ (z : Locals). slice_get z x) l ∙ p)) u q

pub set_step : (P : Program) (s : Store) (e : Context) (ops : Row Val) (w : Val) (c : Code) (x : ℕ) (old : Option Val) → slice_get (locals_of e) x ≡ Some old
    → step P s (config e (ops ▹ w) (Plain (local_set x) c)) ≡ Went [] s (config (with_local x w e) ops c)
set_step P s e ops w c x old p = rw p refl
