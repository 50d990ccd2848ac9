use Rattle.std.proofs.Common.{◌≡◌, false}
use Rattle.w_syntax.specs.Packed.{unpacked}
use Rattle.w_vplain.proofs.CallsAnswered.{answers_malformed}
use Rattle.w_vswitch.specs.Following.{follow_switching, is_switching_instr}
use Rattle.w_vswitch.proofs.RowsApplied.{others_malformed}
use Rattle.w_vswitch.proofs.PackedOthers.{not_switching}
use Rattle.w_vswitch.proofs.instructions.switching.Goals as goal

pub returns-in_default-clause-answers : goal.returns-in_default-clause-answers
returns-in_default-clause-answers c =
    let i = unpacked c.args.packed.now in
    let other : is_switching_instr i ≡ false = not_switching c.args.packed.now c.in_default.not-Switching c.in_default.not-Boxed in
    answers_malformed c.refuse.result c.args.checker.now c.refuse.new.self (follow_switching i) (λ w. others_malformed i w other) c.refuse.ensures.refuses
