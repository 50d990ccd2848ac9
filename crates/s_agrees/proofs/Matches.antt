-- What a step of a script is matched by.
use Rattle.std.proofs.Common.{◌≡◌, ℕ, ℤ, suc, ◌+◌, ◌≤◌, max, Bool, List, [], Some, arith}
use Rattle.following.specs.Steps.{Goes, Returns, Faults}
use Rattle.std.specs.Int.{w64, cast_signed}
use Rattle.lists.specs.Rows.{ε, ◌▹◌}
use Rattle.w_reduce.specs.declared.trap.Trap.{Trap}
use Rattle.w_reduce.specs.Values.{I64}
use Rattle.w_reduce.specs.Store.{Store, live}
use Rattle.w_reduce.specs.Terms.{Term, frames, handles}
use Rattle.w_reduce.specs.Reduced.{Went, Trapped, Ended}
use Rattle.s_syntax.specs.declared.script.Script.{Script}
use Rattle.s_meaning.specs.Numbers.{Fault}
use Rattle.s_meaning.specs.Terms.{Configuration}
use Rattle.s_meaning.specs.Steps.{Step}
use Rattle.s_agrees.specs.Agrees.{fault_of}
use Rattle.s_agrees.proofs.StandsFor.{At}
use Rattle.s_agrees.proofs.CountedContexts.{labels, weight}
use Rattle.s_agrees.proofs.Paths.{program_of, step, Caps, Under, Path, go, path_wider}

-- between two configurations: no more frames and handles than one of the two, and one continuation more at most
abbrev pub caps_of : Store → Term → Term → Caps
caps_of s t t' = record {
  frames = max (frames t.around) (frames t'.around);
  handles = max (handles t.around) (handles t'.around);
  conts = suc (live s);
}

-- at most B reductions, and one more for each label that went
pub data Matches (p : Script) (matches : ℕ → ℕ → Bool) (B : ℕ) (s : Store) (t : Term) : Step → Type 0 where
  went : {ρ : List ℕ} {c : Configuration} {n : ℕ} {s' : Store} {t' : Term}
      → Path (program_of p matches) (caps_of s t t') n s t s' t' → 1 ≤ n → n + weight s' t' ≤ B + weight s t → At p.declarations ρ c s' t'
      → Matches p matches B s t (Goes [] c)
  prints : {ρ : List ℕ} {o : List ℕ} {c : Configuration} {n : ℕ} {s1 s' : Store} {t1 t' : Term}
      → Path (program_of p matches) (caps_of s t t) n s t s1 t1 → step (program_of p matches) s1 t1 ≡ Went o s' t' → Under (caps_of s t t) s' t'.around
      → suc n + weight s' t' ≤ B + weight s t → At p.declarations ρ c s' t' → Matches p matches B s t (Goes o c)
  returns : {z : ℤ} {w n : ℕ} {s1 : Store} {t1 : Term}
      → Path (program_of p matches) (caps_of s t t) n s t s1 t1 → 1 ≤ n → step (program_of p matches) s1 t1 ≡ Ended (ε ▹ I64 w) → cast_signed w64 w ≡ z
      → n ≤ B + weight s t → Matches p matches B s t (Returns z)
  faulted : {f : Fault} {n : ℕ} {s1 : Store} {t1 : Term} {k : Trap}
      → Path (program_of p matches) (caps_of s t t) n s t s1 t1 → step (program_of p matches) s1 t1 ≡ Trapped k → fault_of p.declarations k ≡ Some f
      → suc n ≤ B + weight s t → Matches p matches B s t (Faults f)

pub more_room : {p : Script} {matches : ℕ → ℕ → Bool} {B B' : ℕ} {s : Store} {t : Term} {r : Step} → B ≤ B' → Matches p matches B s t r → Matches p matches B' s t r
more_room h (went path n b a) = went path n (omega (arith, b, h)) a
more_room h (prints path q u b a) = prints path q u (omega (arith, b, h)) a
more_room h (returns path m q v b) = returns path m q v (omega (arith, b, h))
more_room h (faulted path q x b) = faulted path q x (omega (arith, b, h))

pub under_first : (s : Store) (t t' : Term) → Under (caps_of s t t') s t.around
under_first s t t' = record { frames = omega arith; handles = omega arith; conts = omega arith }

pub under_last : (s s' : Store) (t t' : Term) → live s' ≤ suc (live s) → Under (caps_of s t t') s' t'.around
under_last s s' t t' h = record { frames = omega arith; handles = omega arith; conts = h }

-- a reduction before, which leaves the store and the counts
pub before : {p : Script} {matches : ℕ → ℕ → Bool} {B : ℕ} (A : ℕ) {s : Store} {t t1 : Term} {r : Step} → step (program_of p matches) s t ≡ Went [] s t1
    → frames t1.around ≡ frames t.around → handles t1.around ≡ handles t.around → suc (labels t1.around) ≤ A + labels t.around
    → Matches p matches B s t1 r → Matches p matches (A + B) s t r
before A q f h l (went path n b a) =
    went (go q (record { frames = omega (arith, f); handles = omega (arith, h); conts = omega arith }) (path_wider (omega (arith, f)) (omega (arith, h)) (omega arith) path)) (omega arith) (omega (arith, b, l)) a
before A q f h l (prints path x u b a) =
    let uf = u.frames in let uh = u.handles in
    prints (go q (record { frames = omega (arith, f); handles = omega (arith, h); conts = omega arith }) (path_wider (omega (arith, f)) (omega (arith, h)) (omega arith) path)) x
    (record { frames = omega (arith, f, uf); handles = omega (arith, h, uh); conts = u.conts }) (omega (arith, b, l)) a
before A q f h l (returns path m x v b) =
    returns (go q (record { frames = omega (arith, f); handles = omega (arith, h); conts = omega arith }) (path_wider (omega (arith, f)) (omega (arith, h)) (omega arith) path)) (omega arith) x v (omega (arith, b, l))
before A q f h l (faulted path x y b) =
    faulted (go q (record { frames = omega (arith, f); handles = omega (arith, h); conts = omega arith }) (path_wider (omega (arith, f)) (omega (arith, h)) (omega arith) path)) x y (omega (arith, b, l))
