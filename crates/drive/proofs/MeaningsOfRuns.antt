-- What the run of a script gives is told by the script's meaning.
use Rattle.std.proofs.Common.{◌≡◌, ℕ, List, [], ◌++◌, Option, Some, None, inl, inr, codes, refl, ap, ◌∙◌, arith, append-nil}
use Rattle.std.specs.Prelude.{slice_get, option_map}
use Rattle.std.specs.Fmt.{signed_decimal}
use Rattle.following.specs.Follows.{Going, Value, Fault as Faulty, Is, Limit}
use Rattle.std.specs.Int.{w64, cast_signed}
use Rattle.lists.specs.Rows.{Row, ε, ◌▹◌}
use Rattle.w_reduce.specs.declared.limit.RunLimit.{RunLimit}
use Rattle.w_reduce.specs.declared.limit.RunLimit.TheVariants as limit
use Rattle.w_reduce.specs.declared.trap.Trap.{Trap}
use Rattle.w_reduce.specs.declared.trap.Trap.TheVariants as trap
use Rattle.w_reduce.specs.Run.{Outcome, Running, Values, Traps, Limit as LimitMet, NoRule, Run}
use Rattle.w_reduce.specs.Values.{Val, I32, I64, Null, Func, Cont}
use Rattle.s_syntax.specs.declared.script.Script.{Script}
use Rattle.s_syntax.specs.declared.name.Name.{Name}
use Rattle.s_meaning.specs.Numbers.{Fault, Unhandled}
use Rattle.s_meaning.specs.Eval.{Ended}
use Rattle.s_valid.specs.Beginning.{first_store, first_term}
use Rattle.s_valid.proofs.Starts.{starts}
use Rattle.s_agrees.specs.Agrees.{tag_names, fault_of, limit_of, end_of_fault, end_of_values, end_of}
use Rattle.s_agrees.proofs.Follow.{runs_follow}
use Rattle.replies.specs.Answer.{Reply, TrapReply, line, result_line, refusal, behind, end_reply, faulted, name_or_none}
use Rattle.drive.specs.Meaning.{meaning_reply, fault_name, RunsMean}
use Rattle.runs.proofs.Runs.{given_ready}

-- a fault, as it is told
same_fault : {g f : Fault} → Some g ≡ Some f → refusal (codes "fault " ++ fault_name g) 1 ≡ refusal (codes "fault " ++ fault_name f) 1
same_fault {g} {f} e = let same : g ≡ f = cc in ap (λ (h : Fault). refusal (codes "fault " ++ fault_name h) 1) same

-- an effect that no handler in place has a clause for, or a switch that no group is around
unhandled_meant : (p : Script) (x : ℕ) (f : Fault) (o : Option Name) → slice_get (tag_names p.declarations) x ≡ o → option_map Unhandled o ≡ Some f
    → refusal (codes "fault unhandled " ++ name_or_none o) 1 ≡ refusal (codes "fault " ++ fault_name f) 1
unhandled_meant p x f None q e = absurd (cc)
unhandled_meant p x f (Some op) q e = same_fault e

-- a trap that stands for a fault is told as the fault
fault_meant : (p : Script) (t : Trap) (f : Fault) → fault_of p.declarations t ≡ Some f → faulted p t ≡ refusal (codes "fault " ++ fault_name f) 1
fault_meant p trap.Unreachable f e = same_fault e
fault_meant p trap.DivideByZero f e = same_fault e
fault_meant p trap.IntegerOverflow f e = same_fault e
fault_meant p trap.ConsumedContinuation f e = same_fault e
fault_meant p (trap.Unhandled x) f e = unhandled_meant p x f (slice_get (tag_names p.declarations) x) refl e
fault_meant p trap.MemoryOutOfBounds f e = absurd (cc)
fault_meant p trap.TableOutOfBounds f e = same_fault e
fault_meant p trap.UndefinedElement f e = absurd (cc)
fault_meant p trap.NullElement f e = absurd (cc)
fault_meant p trap.CallTypeMismatch f e = absurd (cc)
fault_meant p trap.NullReference f e = same_fault e

-- one number is the script's value
values_meant : (say : TrapReply) (vs : Row Val) (end : Ended) → end_of_values vs ≡ Some end → end_reply say (Values vs) ≡ meaning_reply end
values_meant say ε end e = absurd (cc)
values_meant say (ε ▹ I64 n) end e =
    let same : Is (Value (cast_signed w64 n)) ≡ end = cc in
    let one : result_line (I64 n) ++ [] ≡ line (codes "= " ++ signed_decimal (cast_signed w64 n)) = append-nil (result_line (I64 n)) in
    ap (λ (l : List ℕ). let reply : Reply = record { out = l; err = []; status = 0 } in reply) one ∙ ap meaning_reply same
values_meant say (ε ▹ I32 n) end e = absurd (cc)
values_meant say (ε ▹ Null) end e = absurd (cc)
values_meant say (ε ▹ Func a) end e = absurd (cc)
values_meant say (ε ▹ Cont a) end e = absurd (cc)
values_meant say ((vs ▹ u) ▹ I64 n) end e = absurd (cc)
values_meant say ((vs ▹ u) ▹ I32 n) end e = absurd (cc)
values_meant say ((vs ▹ u) ▹ Null) end e = absurd (cc)
values_meant say ((vs ▹ u) ▹ Func a) end e = absurd (cc)
values_meant say ((vs ▹ u) ▹ Cont a) end e = absurd (cc)

limit_meant : (say : TrapReply) (name : RunLimit) → end_reply say (LimitMet name) ≡ meaning_reply (Limit (limit_of name))
limit_meant say limit.Frames = refl
limit_meant say limit.Handles = refl
limit_meant say limit.Conts = refl

trap_meant : (p : Script) (t : Trap) (end : Ended) (o : Option Fault) → fault_of p.declarations t ≡ o → end_of_fault o ≡ Some end → faulted p t ≡ meaning_reply end
trap_meant p t end None q e = absurd (cc)
trap_meant p t end (Some f) q e = let same : Is (Faulty f) ≡ end = cc in fault_meant p t f q ∙ ap meaning_reply same

-- what a run has come to is told as what the script has
end_meant : (p : Script) (o : Outcome) (end : Ended) → end_of p.declarations o ≡ Some end → end_reply (faulted p) o ≡ meaning_reply end
end_meant p Running end e = let same : Is Going ≡ end = cc in ap meaning_reply same
end_meant p (Values vs) end e = values_meant (faulted p) vs end e
end_meant p (Traps t) end e = trap_meant p t end (fault_of p.declarations t) refl e
end_meant p (LimitMet name) end e = let same : Limit (limit_of name) ≡ end = cc in limit_meant (faulted p) name ∙ ap meaning_reply same
end_meant p NoRule end e = absurd (cc)

pub runs_mean : RunsMean
runs_mean p good small steps stats reply (inr h) = absurd (omega (arith, h.0, small))
runs_mean p good small steps stats reply (inl h) =
    let program = h.1.0 in
    let begun = starts p good program h.1.1 in
    let r = Run program (first_store p.declarations) (first_term p.declarations) steps in
    let a = runs_follow p good program h.1.1 steps in
    (r.output, a.0, a.2, given_ready (faulted p) _ program _ _ reply begun h.1.3 ∙ ap (behind r.output) (end_meant p r.outcome a.0 a.1))
