-- What comes of a line, by what is open.
use Rattle.std.proofs.Common.{◌≡◌, Result, Ok, Err, subst}
use Rattle.std.specs.Prelude.{IfOk}
use Rattle.std.specs.declared.alloc.AllocError.{AllocError}
use Rattle.w_lines.specs.declared.line.Line.{Line}
use Rattle.w_text.specs.declared.pending.Open.{Open as CodeOpen}
use Rattle.w_text.specs.declared.pending.Open.TheVariants as opened
use Rattle.w_text.specs.declared.pending.Outcome.{Outcome}
use Rattle.w_text.specs.Machine.{Open, Between, InGroup, InLocals, InExprs, begin, in_group, in_locals, next}
use Rattle.w_text.specs.Standing.{NextIs, IsOpen}

-- what the code found for what it has open
abbrev Found : CodeOpen → Line → Outcome → Type 0
Found opened.Between l r = NextIs (begin l) r
Found (opened.Group k types) l r = NextIs (in_group k types.items l) r
Found (opened.Locals x ls) l r = NextIs (in_locals x ls l) r
Found (opened.Expression what b) l r = ⊥

found : (w : CodeOpen) (l : Line) (r : Outcome) → Found w l r → (o : Open) → IsOpen o w → NextIs (next o l) r
unfolding next
found opened.Between l r f Between i = f
found opened.Between l r f (InGroup n ts) i = elim i [ ]
found opened.Between l r f (InLocals x ls) i = elim i [ ]
found opened.Between l r f (InExprs h n cs p c) i = elim i [ ]
found (opened.Group k types) l r f Between i = elim i [ ]
found (opened.Group k types) l r f (InGroup n ts) i = rw (i.0, i.1) f
found (opened.Group k types) l r f (InLocals x ls) i = elim i [ ]
found (opened.Group k types) l r f (InExprs h n cs p c) i = elim i [ ]
found (opened.Locals x ls) l r f Between i = elim i [ ]
found (opened.Locals x ls) l r f (InGroup n ts) i = elim i [ ]
found (opened.Locals x ls) l r f (InLocals y ms) i = rw (i.0, i.1) f
found (opened.Locals x ls) l r f (InExprs h n cs p c) i = elim i [ ]
found (opened.Expression what b) l r f o i = absurd f

-- and so for each state that it stands for
pub found_next : (result : Result Outcome AllocError) (v w : CodeOpen) (l : Line) → v ≡ w → IfOk result (Found w l) → IfOk result (λ r. (o : Open) → IsOpen o v → NextIs (next o l) r)
found_next (Ok r) v w l e f = λ o i. found w l r f o (subst (IsOpen o) e i)
found_next (Err x) v w l e f = tt
