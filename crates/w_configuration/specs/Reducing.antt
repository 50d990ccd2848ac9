-- What a call that takes one reduction of a run comes to.
use Rattle.std.specs.Prelude.{◌≡◌, ◌≢◌, ◌⊎◌, ◌≤◌, ◌+◌, ℕ, ⊤, true, false, nat_le, if◌then◌else◌, List, [], ◌∷◌, length, Option, Some, None, option_map, Result, Ok, Err}
use Rattle.std.specs.declared.alloc.AllocError.{AllocError}
use Rattle.w_outside.specs.Outside.{Grew, GrewByFront}
use Rattle.w_syntax.specs.declared.instructions.SwitchingOp.{SwitchingOp}
use Rattle.w_syntax.specs.declared.instructions.SwitchingOp.TheVariants as switching
use Rattle.w_syntax.specs.declared.module.Module.{Module}
use Rattle.w_segment.specs.declared.entry.Stage.{Stage}
use Rattle.w_segment.specs.declared.entry.Stage.TheVariants.{Fresh, Body, Branch, Values}
use Rattle.w_segment.specs.Shape.{Shape}
use Rattle.w_segment.specs.Link.{Link, top}
use Rattle.w_conts.specs.Conts.{Conts}
use Rattle.w_reduce.specs.declared.limit.RunLimit.{RunLimit}
use Rattle.w_reduce.specs.declared.limit.RunLimit.TheVariants.{Frames}
use Rattle.w_reduce.specs.Limits.{most_frames}
use Rattle.w_reduce.specs.Store.{Store}
use Rattle.w_reduce.specs.Terms.{Rest, Term, Continuation}
use Rattle.w_reduce.specs.Program.{Program}
use Rattle.w_reduce.specs.Reduced.{Reduced, Went, Trapped, Limited, Ended}
use Rattle.w_reduce.specs.Reduce.{reduce}
use Rattle.w_reduce.specs.Room.{may_take_memory}
use Rattle.w_stands.specs.declared.did.Did.{Did}
use Rattle.w_stands.specs.declared.did.Did.TheVariants as did
use Rattle.w_stands.specs.Code.{instr_of}
use Rattle.w_stands.specs.Keeps.{StoreHolds}
use Rattle.w_stands.specs.Values.{stack}
use Rattle.w_plain.specs.Plainness.{switches_at}
use Rattle.w_plain.specs.declared.stop.Stop.{Stop}
use Rattle.w_plain.specs.declared.stop.Stop.TheVariants as plain_stop
use Rattle.w_switching.specs.declared.stored.Stored.{Stored}
use Rattle.w_switching.specs.Moved.{SameLinks}
use Rattle.w_switching.specs.Reductions.{TakesAtLeast, TakesParams}
use Rattle.w_switching.specs.Standing.{Stand}
use Rattle.w_switching.specs.Sound.{is_of, Sound, Roomy}
use Rattle.w_configuration.specs.declared.stop.RunStop.{RunStop}
use Rattle.w_configuration.specs.declared.stop.RunStop.TheVariants as run_stop
use Rattle.w_configuration.specs.Parts.{Parts, whole}
use Rattle.w_configuration.specs.Standing.{behind_of, Stands}

-- It was taken: the parts stand for what it leads to, at most one continuation more was made than the n before, and the sink grew by what
-- it prints.
pub record TakesReduction (m : Module) (waiting : List ℕ) (p : Program) (d : Reduced) (n : ℕ) (x : Parts) (before now : Option (List ℕ)) : Type 0 where
  pub text : List ℕ
  pub ks : List (Option Continuation)
  pub t : Term
  pub is : d ≡ Went text (whole x.store ks) t
  pub stand : Stand m (behind_of waiting) x.chain x.conts p (whole x.store ks) t
  pub sound : Sound x.chain x.conts
  pub room : Roomy m x.chain x.conts
  pub held : StoreHolds (λ v. is_of x.conts v ≡ true) x.store
  pub made : length x.conts.entries ≤ n + 1
  pub grew : Grew before now text

-- nothing was changed
pub record Unchanged (x x' : Parts) (before now : Option (List ℕ)) : Type 0 where
  pub same : x' ≡ x
  pub sink : now ≡ before

-- it prints this, of which the sink has a first part
pub record Begun (d : Reduced) (before now : Option (List ℕ)) : Type 0 where
  pub text : List ℕ
  pub store : Store
  pub term : Term
  pub is : d ≡ Went text store term
  pub grew : GrewByFront before now text

-- none was taken: all is as it was but for room, and the sink has nothing more, or a first part of what it prints
pub record Fails (d : Reduced) (x x' : Parts) (before now : Option (List ℕ)) : Type 0 where
  pub store : x'.store ≡ x.store
  pub chain : SameLinks x.chain x'.chain
  pub conts : x'.conts ≡ x.conts
  pub sink : (now ≡ before) ⊎ Begun d before now

-- in a configuration where r comes next, whose reduction comes to d; it fails for want of memory only where that may take some
abbrev pub ComesTo : Option RunStop → Module → List ℕ → Program → Reduced → Rest → Parts → Parts → Option (List ℕ) → Option (List ℕ) → Type 0
ComesTo None m waiting p d r x x' before now = TakesReduction m waiting p d (length x.conts.entries) x' before now
ComesTo (Some run_stop.Ended) m waiting p d r x x' before now = (d ≡ Ended (stack (top x.chain).shape.operands)) × Unchanged x x' before now
ComesTo (Some (run_stop.Limit name)) m waiting p d r x x' before now = (d ≡ Limited name) × (now ≡ before)
ComesTo (Some (run_stop.Trapped t)) m waiting p d r x x' before now = (d ≡ Trapped t) × (now ≡ before)
ComesTo (Some run_stop.WriteFault) m waiting p d r x x' before now = Fails d x x' before now
ComesTo (Some run_stop.OutOfMemory) m waiting p d r x x' before now = Fails d x x' before now × (may_take_memory r.ahead r.code ≡ true)

-- in each configuration that they stand for
abbrev pub PartsReduce : Option RunStop → Module → Parts → Parts → Option (List ℕ) → Option (List ℕ) → Type 0
PartsReduce result m x x' before now = (waiting : List ℕ) (p : Program) (ks : List (Option Continuation)) (t : Term) → Stands m waiting x p ks t
    → ComesTo result m waiting p (reduce p (whole x.store ks) t) t.rest x x' before now

-- ## What a call answers

-- no stacks are switched next, and the segment isn't values
abbrev pub IsPlainAt : Module → Shape → Type 0
IsPlainAt m s = (s.stage ≡ Body → switches_at (instr_of m s.func s.place) ≡ false) × (s.stage ≢ Values)

-- whether a run that stands here has ended: one segment is left, and that is values
abbrev pub end_by : Stage → List Link → Option RunStop
end_by Values [] = None
end_by Values (x ∷ []) = Some run_stop.Ended
end_by Values (x ∷ y ∷ ys) = None
end_by Body xs = None
end_by Fresh xs = None
end_by (Branch l) xs = None

abbrev pub end_at : List Link → Option RunStop
end_at xs = end_by (top xs).shape.stage xs

-- what stops a run at a plain reduction that came to this, where its result has so many frames
abbrev pub stop_by : Result Did Stop → ℕ → Option RunStop
stop_by (Ok did.Went) n = if nat_le n most_frames then None else Some (run_stop.Limit Frames)
stop_by (Ok (did.Trapped t)) n = Some (run_stop.Trapped t)
stop_by (Err plain_stop.WriteFault) n = Some run_stop.WriteFault
stop_by (Err plain_stop.OutOfMemory) n = Some run_stop.OutOfMemory

-- and of one that switches stacks, where its result passes this limit, if any
abbrev pub switching_stop_by : Result Did AllocError → Option RunLimit → Option RunStop
switching_stop_by (Ok did.Went) o = option_map (λ (l : RunLimit). run_stop.Limit l) o
switching_stop_by (Ok (did.Trapped t)) o = Some (run_stop.Trapped t)
switching_stop_by (Err e) o = Some run_stop.OutOfMemory

-- what types of continuations tell of the operands of an instruction that switches stacks
abbrev pub TakesEnough : SwitchingOp → Module → List Link → Conts Stored → Type 0
TakesEnough (switching.ContNew x) m chain conts = ⊤
TakesEnough (switching.ContBind x y) m chain conts = TakesParams y m chain conts
TakesEnough (switching.Suspend e) m chain conts = ⊤
TakesEnough (switching.Resume x hs) m chain conts = ⊤
TakesEnough (switching.Switch x e) m chain conts = TakesAtLeast 1 chain conts
