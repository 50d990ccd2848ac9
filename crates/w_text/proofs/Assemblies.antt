-- Assemblies and the states that they stand for.
use Rattle.std.proofs.Common.{◌≡◌, ℕ, Bool, true, false, Result, Ok, Err, refl, ap}
use Rattle.std.specs.Prelude.{IfOk}
use Rattle.std.specs.declared.alloc.AllocError.{AllocError}
use Rattle.w_lines.specs.declared.line.Line.{Line}
use Rattle.w_text.specs.declared.assembly.Assembly.{Assembly}
use Rattle.w_text.specs.declared.pending.Open.{Open as CodeOpen}
use Rattle.w_text.specs.declared.pending.Open.TheVariants as opened
use Rattle.w_text.specs.Machine.{Open, Between, InGroup, InLocals, InExprs, State, Fresh, Reading, head_rank, open_rank, placed, next, opening, step}
use Rattle.w_text.specs.Standing.{head_of, IsOpen}
use Rattle.w_text.specs.Assembled.{so_far, Stands, SteppedTo}

-- the place of what is open
abbrev rank_by : CodeOpen → ℕ → ℕ
rank_by opened.Between k = k
rank_by (opened.Group n types) k = 0
rank_by (opened.Locals x ls) k = 10
rank_by (opened.Expression what b) k = head_rank (head_of what)

pub open_place : (w : CodeOpen) (k : ℕ) (o : Open) → IsOpen o w → open_rank o k ≡ rank_by w k
open_place opened.Between k Between i = refl
open_place opened.Between k (InGroup n ts) i = elim i [ ]
open_place opened.Between k (InLocals x ls) i = elim i [ ]
open_place opened.Between k (InExprs h n cs p c) i = elim i [ ]
open_place (opened.Group j types) k Between i = elim i [ ]
open_place (opened.Group j types) k (InGroup n ts) i = refl
open_place (opened.Group j types) k (InLocals x ls) i = elim i [ ]
open_place (opened.Group j types) k (InExprs h n cs p c) i = elim i [ ]
open_place (opened.Locals y ms) k Between i = elim i [ ]
open_place (opened.Locals y ms) k (InGroup n ts) i = elim i [ ]
open_place (opened.Locals y ms) k (InLocals x ls) i = refl
open_place (opened.Locals y ms) k (InExprs h n cs p c) i = elim i [ ]
open_place (opened.Expression what b) k Between i = elim i [ ]
open_place (opened.Expression what b) k (InGroup n ts) i = elim i [ ]
open_place (opened.Expression what b) k (InLocals x ls) i = elim i [ ]
open_place (opened.Expression what b) k (InExprs h n cs p c) i = ap head_rank i.0

-- ## A line

not_both : (b : Bool) → b ≡ true → b ≡ false → ⊥
not_both true e f = absurd cc
not_both false e f = absurd cc

-- the first
pub first_line : (a b : Assembly) (l : Line) (r : Bool) → a.begun ≡ false → SteppedTo (opening l) r b → (s : State) → Stands s a → SteppedTo (step s l) r b
unfolding step
first_line a b l r e h Fresh i = h
first_line a b l r e h (Reading k m o) i = absurd (not_both a.begun i.0 e)

one_behind : (a b : Assembly) (l : Line) (r : Bool) → a.begun ≡ true → ((o : Open) → IsOpen o a.opened → SteppedTo (placed a.place (so_far a.program a.groups.items) (next o l)) r b) → (s : State) → Stands s a → SteppedTo (step s l) r b
unfolding step
one_behind a b l r e h Fresh i = absurd (not_both a.begun e i.0)
one_behind a b l r e h (Reading k m o) i = rw (i.1, i.2) (h o i.3)

-- and one behind it
pub line_behind : (result : Result Bool AllocError) (a b : Assembly) (l : Line) → a.begun ≡ true → IfOk result (λ r. (o : Open) → IsOpen o a.opened → SteppedTo (placed a.place (so_far a.program a.groups.items) (next o l)) r b) → IfOk result (λ r. (s : State) → Stands s a → SteppedTo (step s l) r b)
line_behind (Ok r) a b l e h = one_behind a b l r e h
line_behind (Err x) a b l e h = tt
