use Rattle.std.proofs.Common.{◌≡◌, false, rules}
use Rattle.w_vplain.proofs.CallsAnswered.{answers_malformed}
use Rattle.w_vswitch.specs.Following.{follow_switching, is_switching_instr}
use Rattle.w_vswitch.proofs.RowsApplied.{others_malformed}
use Rattle.w_vswitch.proofs.instructions.boxed.Goals.{in_default-via-in-Plain+in_default, in_default-via-in_default}
use Rattle.w_vswitch.proofs.instructions.boxed.Goals as goal

pub returns-in_default-clause-answers : goal.returns-in_default-clause-answers
returns-in_default-clause-answers c =
    let i = c.args.instr.now in
    let other : is_switching_instr i ≡ false = elim c.in_default.branch [ in_default-via-in-Plain+in_default w ↦ search rules | in_default-via-in_default w ↦ search rules ] in
    answers_malformed c.refuse.result c.args.checker.now c.refuse.new.self (follow_switching i) (λ w. others_malformed i w other) c.refuse.ensures.refuses
