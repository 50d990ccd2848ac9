-- Texts of traces, and uses of events, computed.
use Rattle.std.proofs.Common.{◌≡◌, ℕ, List, [], ◌∷◌, ◌++◌, Some, None, true, false, refl}
use Rattle.std.specs.Prelude.{codes}
use Rattle.std.specs.Fmt.{digits}
use Rattle.w_reduce.specs.declared.limit.RunLimit.TheVariants.{Conts}
use Rattle.w_reduce.specs.declared.trap.Trap.TheVariants as trap
use Rattle.w_trace.specs.declared.event.Event.{Event}
use Rattle.w_trace.specs.declared.event.EventKind.{EventKind}
use Rattle.w_trace.specs.declared.event.EventKind.TheVariants.{New, Bind, Resume, Suspend, Switch, Exit}
use Rattle.w_trace.specs.declared.trace.Ending.TheVariants as ending
use Rattle.w_trace.specs.Once.{uses_of, after_uses}
use Rattle.w_trace.specs.declared.line.Line.TheVariants.{Event as EventLine, End as EndLine}
use Rattle.w_trace.specs.Lines.{line_text, text_of}

at : ℕ → EventKind → Event
at n kind = record { step = n; kind = kind }

line : List ℕ → List ℕ
line text = text ++ 10 ∷ []

-- ## Texts

used_twice : text_of (record { events = at 3 (New 0) ∷ at 6 (Resume 0) ∷ at 10 Exit ∷ []; taken = 12; ending = ending.Trapped trap.ConsumedContinuation })
    ≡ (line (codes "3 new 0") ++ line (codes "6 resume 0") ++ line (codes "10 exit") ++ line (codes "end 12 trap consumed continuation"))
unfolding line at digits
used_twice = refl

bound : text_of (record { events = at 3 (New 0) ∷ at 6 (Bind 0 1) ∷ []; taken = 9; ending = ending.Running })
    ≡ (line (codes "3 new 0") ++ line (codes "6 bind 0 1") ++ line (codes "end 9 running"))
unfolding line at digits
bound = refl

switched : line_text (EventLine (at 18446744073709551615 (Switch 1 4294967295 2))) ≡ codes "18446744073709551615 switch 1 4294967295 2"
unfolding at digits
switched = refl

suspended : line_text (EventLine (at 7 (Suspend 0 3))) ≡ codes "7 suspend 0 3"
unfolding at digits
suspended = refl

unhandled : line_text (EndLine 9 (ending.Trapped (trap.Unhandled 2))) ≡ codes "end 9 trap unhandled 2"
unfolding digits
unhandled = refl

too_many : line_text (EndLine 327684 (ending.Limit Conts)) ≡ codes "end 327684 limit conts"
unfolding digits
too_many = refl

-- ## Uses

exchanged : after_uses (uses_of (at 3 (New 0) ∷ at 6 (Bind 0 1) ∷ [])) [] ≡ Some (false ∷ true ∷ [])
unfolding at
exchanged = refl

two_resumes : after_uses (uses_of (at 3 (New 0) ∷ at 6 (Resume 0) ∷ at 7 (Resume 0) ∷ [])) [] ≡ None
unfolding at
two_resumes = refl

not_the_next : after_uses (uses_of (at 3 (New 1) ∷ [])) [] ≡ None
unfolding at
not_the_next = refl

-- what is consumed was made before
of_itself : after_uses (uses_of (at 3 (New 0) ∷ at 6 (Bind 1 1) ∷ [])) [] ≡ None
unfolding at
of_itself = refl
