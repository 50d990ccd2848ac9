-- How many frames, handles and continuations a configuration has, by its chain and its store of continuations.
use Rattle.std.proofs.Common.{◌≡◌, ℕ, suc, ◌+◌, ◌-◌, ◌≤◌, nat_le, List, [], ◌∷◌, length, Option, Some, None, refl, ap, arith}
use Rattle.lists.specs.Rows.{Row}
use Rattle.w_syntax.specs.declared.module.Module.{Module}
use Rattle.w_segment.specs.Shape.{Shape, Level, frames_of}
use Rattle.w_segment.specs.Link.{Link}
use Rattle.w_chain.specs.Counts.{frames_in_all}
use Rattle.w_conts.specs.Conts.{Conts, live_of, some_count}
use Rattle.w_reduce.specs.Limits.{most_frames, most_handles, most_conts, first_passed, passed}
use Rattle.w_reduce.specs.Program.{Program}
use Rattle.w_reduce.specs.Store.{Store, live_in}
use Rattle.w_reduce.specs.Terms.{Rest, Context, Term, Continuation, frames, handles}
use Rattle.w_reduce.specs.Values.{Val}
use Rattle.w_stands.specs.Stands.{LevelsAre, label, frame, outermost, StackIs, body, left, fresh, values}
use Rattle.w_switching.specs.declared.stored.Stored.{Stored}
use Rattle.w_switching.specs.Standing.{Chained, only, around, gone, kept, AllKept, nil, cons, Stand}

-- ## Frames

frames_around : {m : Module} {outer : Context} {behind : Rest} {f q : ℕ} {ls : List Level} {e : Context} → LevelsAre m outer behind f q ls e → frames e ≡ frames_of ls + frames outer
frames_around (label h k j w) = frames_around w
frames_around (frame h k w) = let r = frames_around w in omega (arith, r)
frames_around (outermost h) = omega arith

empty_frames : (ls : List Level) (n : ℕ) → ls ≡ [] → n ≡ frames_of ls + n
empty_frames ls n e = rw e (omega arith)

-- a segment's frames, with those around it
pub frames_in : {m : Module} {outer : Context} {behind : Rest} {s : Shape} {e : Context} {r : Rest} → StackIs m outer behind s e r → frames e ≡ frames_of s.levels + frames outer
frames_in (body h k w) = frames_around w
frames_in (left h k w) = frames_around w
frames_in {outer = outer} {s = s} (fresh h k) = empty_frames s.levels (frames outer) k
frames_in {outer = outer} {s = s} (values h k) = empty_frames s.levels (frames outer) k

-- those of all segments
pub frames_in_chain : {m : Module} {outer : Context} {behind : Rest} {chain : List Link} {e : Context} {vs : Row Val} {r : Rest} → Chained m outer behind chain e vs r
    → frames e ≡ frames_in_all chain + frames outer
frames_in_chain (only h q) = let n = frames_in h in omega (arith, n)
frames_in_chain (around h q clauses b k) = let n = frames_in h in let rest = frames_in_chain k in omega (arith, n, rest)

-- ## Handles

handles_around : {m : Module} {outer : Context} {behind : Rest} {f q : ℕ} {ls : List Level} {e : Context} → LevelsAre m outer behind f q ls e → handles e ≡ handles outer
handles_around (label h k j w) = handles_around w
handles_around (frame h k w) = handles_around w
handles_around (outermost h) = refl

-- a segment has no handle inside
pub handles_in : {m : Module} {outer : Context} {behind : Rest} {s : Shape} {e : Context} {r : Rest} → StackIs m outer behind s e r → handles e ≡ handles outer
handles_in (body h k w) = handles_around w
handles_in (left h k w) = handles_around w
handles_in (fresh h k) = refl
handles_in (values h k) = refl

-- there is one between each two segments
pub handles_in_chain : {m : Module} {outer : Context} {behind : Rest} {chain : List Link} {e : Context} {vs : Row Val} {r : Rest} → Chained m outer behind chain e vs r
    → suc (handles e) ≡ length chain + handles outer
handles_in_chain (only h q) = let n = handles_in h in omega (arith, n)
handles_in_chain (around h q clauses b k) = let n = handles_in h in let rest = handles_in_chain k in omega (arith, n, rest)

-- ## Continuations

-- as many are made
pub made_kept : {m : Module} {os : List (Option (ℕ × Stored))} {ks : List (Option Continuation)} → AllKept m os ks → length ks ≡ length os
made_kept nil = refl
made_kept (cons h k) = ap suc (made_kept k)

-- no more are live than were made
pub live_made : (os : List (Option (ℕ × Stored))) → some_count os ≤ length os
live_made [] = omega arith
live_made (None ∷ os) = let i = live_made os in omega (arith, i)
live_made (Some x ∷ os) = let i = live_made os in omega (arith, i)

-- as many aren't consumed
pub live_kept : {m : Module} {os : List (Option (ℕ × Stored))} {ks : List (Option Continuation)} → AllKept m os ks → live_in ks ≡ some_count os
live_kept nil = refl
live_kept (cons gone k) = live_kept k
live_kept (cons (kept h e) k) = ap suc (live_kept k)

-- ## Limits

module _ {m : Module} {behind : Rest} {chain : List Link} {conts : Conts Stored} {p : Program} {s : Store} {t : Term} (h : Stand m behind chain conts p s t) where
  pub all_frames : frames t.around ≡ frames_in_all chain
  all_frames = let n = frames_in_chain h.term in omega (arith, n)

  pub all_handles : suc (handles t.around) ≡ length chain
  all_handles = let n = handles_in_chain h.term in omega (arith, n)

  handles_are : handles t.around ≡ length chain - 1
  handles_are = let n = all_handles in omega (arith, n)

  -- the limit that the parts pass is the one that the configuration passes
  pub passed_is : passed s t.around ≡ first_passed (nat_le (frames_in_all chain) most_frames) (nat_le (length chain - 1) most_handles) (nat_le (live_of conts) most_conts)
  passed_is = rw (all_frames, handles_are, live_kept h.store) refl
