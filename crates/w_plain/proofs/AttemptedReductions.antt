-- Attempts at reductions, by what the calls that take them came to.
use Rattle.std.proofs.Common.{◌≡◌, inl, inr, true, false, List, Some, None, Result, Ok, Err, refl, sym, ap, ◌∙◌, subst}
use Rattle.std.specs.declared.alloc.AllocError.{AllocError}
use Rattle.w_syntax.specs.declared.instructions.Op.TheVariants as op
use Rattle.w_syntax.specs.declared.instructions.Instr.{Instr}
use Rattle.w_syntax.specs.declared.instructions.Instr.TheVariants as flat
use Rattle.w_syntax.specs.declared.packed.PackedInstr.{PackedInstr}
use Rattle.w_syntax.specs.declared.packed.PackedInstr.TheVariants as packed
use Rattle.w_syntax.specs.Packed.{unpacked}
use Rattle.w_tables.specs.declared.entries.FuncEntry.{FuncEntry}
use Rattle.w_syntax.specs.declared.module.Module.{Module}
use Rattle.w_segment.specs.Shape.{Shape}
use Rattle.w_tables.specs.Store as instances
use Rattle.w_stands.specs.declared.did.Did.{Did}
use Rattle.w_stands.specs.declared.did.Did.TheVariants as did
use Rattle.w_stands.specs.Keeps.{Keeps}
use Rattle.w_stands.specs.Steps.{FollowsAlone, Stays}
use Rattle.w_plain.specs.Stepped.{HasStepped}
use Rattle.w_plain.specs.declared.progress.Progress.{Progress}
use Rattle.w_plain.specs.declared.progress.Progress.TheVariants as progress
use Rattle.w_plain.specs.Attempted.{attempt_of, Attempted, AttemptsMove, IsAttempt, was_made, is_branch_table, is_attempted}
use Rattle.w_stands.specs.Room.{Roomier}
use Rattle.w_stands.proofs.RoomOfFrames.{same_grown}
use Rattle.w_plain.proofs.Prints.{same_parts}
use Rattle.w_plain.proofs.Steps.{takes_alone}
use Rattle.w_segment.specs.declared.entry.Stage.TheVariants.{Body}
use Rattle.w_stands.specs.Code.{instr_of}
use Rattle.w_stands.specs.Steps.{MovesAt}
use Rattle.w_control_ops.specs.Exits.{IsEnd}
use Rattle.w_plain.specs.Plainness.{switches_at, calls_at}
use Rattle.w_plain.specs.Commonness.{is_common, is_call}
use Rattle.w_syntax.specs.declared.packed.ShortControlOp.{ShortControlOp}
use Rattle.w_syntax.specs.declared.packed.ShortControlOp.TheVariants as short
use Rattle.w_plain.specs.Meets.{Meets, Applies}
use Rattle.w_plain.proofs.StacksAtRules.{at_instruction, behind_all}

-- nothing is changed
same_room : (s s' : Shape) → s' ≡ s → Roomier s s'
same_room s s' e = subst (Roomier s) (sym e) (record { same = same_parts s s refl; grown = same_grown s.capacity })

-- a call that may fail for want of memory
pub attempted_step : (r : Result Did AllocError) (m : Module) (u u' : instances.Store) (s s' : Shape) → HasStepped r m u s u' s' → Attempted (attempt_of r) m u s u' s'
attempted_step (Ok did.Went) m u u' s s' h = h
attempted_step (Ok (did.Trapped t)) m u u' s s' h = (h.goes.2, same_room s s' h.goes.3, (t, (h.goes.0, h.goes.1, refl, refl)))
attempted_step (Err e) m u u' s s' h = (h.0, same_room s s' h.1)

-- one on the stack alone that can't
pub attempted_alone : (m : Module) (u : instances.Store) (s s' : Shape) → FollowsAlone did.Went m s s' → Keeps s s' → Attempted progress.Went m u s u s'
attempted_alone m u s s' g k = takes_alone did.Went m u s s' g k

-- none was taken
pub nothing_attempted : (m : Module) (u : instances.Store) (s : Shape) → Attempted progress.NotAttempted m u s u s
nothing_attempted m u s = (refl, refl)

-- what came of a call was attempted
pub made : (r : Result Did AllocError) → was_made (attempt_of r) ≡ true
made (Ok did.Went) = refl
made (Ok (did.Trapped t)) = refl
made (Err e) = refl

-- what is attempted switches no stacks
table_plain : (i : Instr) → is_branch_table i ≡ true → switches_at (Some i) ≡ false
table_plain (flat.Plain (op.Control o)) h = refl
table_plain (flat.Plain (op.Parametric o)) h = refl
table_plain (flat.Plain (op.Variable o)) h = refl
table_plain (flat.Plain (op.Table o)) h = refl
table_plain (flat.Plain (op.Memory o)) h = refl
table_plain (flat.Plain (op.Numeric o)) h = refl
table_plain (flat.Plain (op.Reference o)) h = refl
table_plain (flat.Plain (op.Switching o)) h = absurd (cc)
table_plain (flat.Block k b z) h = refl
table_plain (flat.If b y z) h = refl
table_plain flat.Else h = refl
table_plain flat.End h = refl

pub attempted_plain : (fs : List FuncEntry) (p : PackedInstr) → is_attempted fs p ≡ true → switches_at (Some (unpacked p)) ≡ false
attempted_plain fs (packed.Switching o) h = absurd (cc)
attempted_plain fs (packed.Boxed i) h = table_plain i.value h
attempted_plain fs p h = refl

-- ## What calls no function

-- a control instruction that holds no list
pub short_calls_none : (o : ShortControlOp) → is_call o ≡ false → calls_at (Some (unpacked (packed.Control o))) ≡ false
short_calls_none (short.Call f) h = absurd (cc)
short_calls_none (short.CallIndirect t k) h = absurd (cc)
short_calls_none (short.CallRef t) h = absurd (cc)
short_calls_none (short.ReturnCall f) h = absurd (cc)
short_calls_none (short.ReturnCallIndirect t k) h = absurd (cc)
short_calls_none (short.ReturnCallRef t) h = absurd (cc)
short_calls_none o h = refl

-- a common one
pub common_calls_none : (p : PackedInstr) → is_common p ≡ true → calls_at (Some (unpacked p)) ≡ false
common_calls_none (packed.Control o) h = absurd (cc)
common_calls_none (packed.Boxed i) h = absurd (cc)
common_calls_none p h = refl

common_attempted : (fs : List FuncEntry) (p : PackedInstr) → is_common p ≡ true → is_attempted fs p ≡ true
common_attempted fs (packed.Control o) h = absurd (cc)
common_attempted fs (packed.Boxed i) h = absurd (cc)
common_attempted fs (packed.Table o) h = absurd (cc)
common_attempted fs (packed.Memory o) h = absurd (cc)
common_attempted fs (packed.Reference o) h = absurd (cc)
common_attempted fs (packed.Switching o) h = absurd (cc)
common_attempted fs p h = refl

-- what came of a call that takes its reduction, and stays where it is
pub common_attempt : {m : Module} {u u' : instances.Store} {s s' : Shape} (p : PackedInstr) (r : Result Did AllocError) (a : Progress) → a ≡ attempt_of r → is_common p ≡ true
    → HasStepped r m u s u' s' → Stays s s' → IsAttempt a p m u s u' s'
common_attempt {m} {u} {u'} {s} {s'} p r a e h k stays = rw e (record {
  step = attempted_step r m u u' s s' k;
  made = made r ∙ sym (common_attempted u.functions p h);
  went = λ e. common_calls_none p h;
  stays = λ e. stays;
})

-- and of one that may not
pub moved_step : {m : Module} {u u' : instances.Store} {s s' : Shape} (d : Did) (a : Progress) → AttemptsMove d a s s' → HasStepped (Ok d) m u s u' s' → Attempted a m u s u' s'
moved_step {m} {u} {u'} {s} {s'} d a (inl (e, stays)) k = subst (λ (x : Progress). Attempted x m u s u' s') (sym e) (attempted_step (Ok d) m u u' s s' k)
moved_step {m} {u} {u'} {s} {s'} d a (inr (e, went)) k =
    subst (λ (x : Progress). Attempted x m u s u' s') (sym e) (subst (λ (y : Did). HasStepped (Ok y) m u s u' s') went k)

pub moved_made : (s s' : Shape) (d : Did) (a : Progress) → AttemptsMove d a s s' → was_made a ≡ true
moved_made s s' d a (inl (e, stays)) = ap was_made e ∙ made (Ok d)
moved_made s s' d a (inr (e, went)) = ap was_made e

pub moved_stays : (s s' : Shape) (d : Did) (a : Progress) → AttemptsMove d a s s' → a ≡ progress.Went → Stays s s'
moved_stays s s' d a (inl (e, stays)) h = stays h
moved_stays s s' d a (inr (e, went)) h = absurd (let x = sym e ∙ h in cc)

pub moved_attempt : {m : Module} {u u' : instances.Store} {s s' : Shape} (p : PackedInstr) (d : Did) (a : Progress) → AttemptsMove d a s s' → is_common p ≡ true
    → HasStepped (Ok d) m u s u' s' → IsAttempt a p m u s u' s'
moved_attempt {u = u} {s = s} {s' = s'} p d a move h k = record {
  step = moved_step d a move k;
  made = moved_made s s' d a move ∙ sym (common_attempted u.functions p h);
  went = λ e. common_calls_none p h;
  stays = moved_stays s s' d a move;
}

-- none of a rarer one is made
pub rare_attempt : (p : PackedInstr) (m : Module) (u : instances.Store) (s : Shape) → is_attempted u.functions p ≡ false → IsAttempt progress.NotAttempted p m u s u s
rare_attempt p m u s h = record { step = nothing_attempted m u s; made = sym h; went = λ e. absurd (cc); stays = λ e. absurd (cc) }

-- so nothing is called at the place where it stands
pub calls_there : (m : Module) (s : Shape) (i : Instr) → Some i ≡ instr_of m s.func s.place → calls_at (Some i) ≡ false → calls_at (instr_of m s.func s.place) ≡ false
calls_there m s i here none = ap calls_at (sym here) ∙ none

-- ## By what stands at the place

-- an instruction
pub moves_at : (m : Module) (u : instances.Store) (s : Shape) (i : Instr) → (switches_at (instr_of m s.func s.place) ≡ false → Applies m u s) → s.stage ≡ Body
    → Some i ≡ instr_of m s.func s.place → switches_at (Some i) ≡ false → MovesAt i m u s
moves_at m u s i k body here plain = at_instruction (k (ap switches_at (sym here) ∙ plain)) body (sym here)

-- none
pub ends_at : (m : Module) (u : instances.Store) (s : Shape) → (switches_at (instr_of m s.func s.place) ≡ false → Applies m u s) → s.stage ≡ Body
    → None ≡ instr_of m s.func s.place → Meets IsEnd m u s
ends_at m u s k body here = behind_all (k (ap switches_at (sym here))) body (sym here)
