-- Reductions by no rule of switching go on apart from continuations: they neither look at them nor change them.
use Rattle.std.specs.Prelude.{◌≡◌, Bool, true, false, List, [], Option}
use Rattle.lists.specs.Rows.{Row}
use Rattle.w_syntax.specs.Code.{Code, Plain}
use Rattle.w_syntax.specs.declared.instructions.Op.{Op}
use Rattle.w_syntax.specs.declared.instructions.Op.TheVariants as op
use Rattle.w_reduce.specs.Values.{Val}
use Rattle.w_reduce.specs.Store.{Store, with_conts}
use Rattle.w_reduce.specs.Terms.{Administrative, Context, Continuation}
use Rattle.w_reduce.specs.Program.{Program}
use Rattle.w_reduce.specs.Reduced.{Reduced, Went, Trapped, Limited, Ended, Stuck}
use Rattle.w_reduce.specs.Reduce.{next}

-- whether an instruction switches stacks
abbrev pub is_switching : Op → Bool
is_switching (op.Switching o) = true
is_switching o = false

-- whether the instruction that comes next does
abbrev pub switches : List Administrative → Code → Bool
switches [] (Plain o k) = is_switching o
switches ahead k = false

-- the same with these continuations in the store
abbrev pub apart : List (Option Continuation) → Reduced → Reduced
apart ks (Went out s t) = Went out (with_conts ks s) t
apart ks (Trapped t) = Trapped t
apart ks (Limited l) = Limited l
apart ks (Ended vs) = Ended vs
apart ks Stuck = Stuck

-- with other continuations in the store the same comes of it, and they are still those
abbrev pub PlainReductionsGoApart : Type 0
PlainReductionsGoApart = (ks : List (Option Continuation)) (p : Program) (s : Store) (e : Context) (vs : Row Val) (ahead : List Administrative) (k : Code)
    → switches ahead k ≡ false → next p (with_conts ks s) e vs ahead k ≡ apart ks (next p s e vs ahead k)
