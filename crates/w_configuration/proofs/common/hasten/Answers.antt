use Rattle.std.proofs.Common.{◌∙◌, ◌-◌, Bor, List, ap, arith, refl, subst, sym}
use Rattle.w_segment.specs.Shape.{Shape}
use Rattle.w_stands.specs.Code.{instrs}
use Rattle.w_syntax.specs.Packed.{unpacked_all}
use Rattle.w_syntax.specs.declared.packed.PackedInstr.{PackedInstr}
use Rattle.w_configuration.specs.declared.hastened.Then.{Then}
use Rattle.w_configuration.specs.CommonReductions.{TakesAtMost, nothing}
use Rattle.w_configuration.proofs.PartsOfRuns.{known_sound}
use Rattle.w_configuration.proofs.CommonReductions.{hastens_more, long_many, made_many, more_at_most, stands_many, taken_on, takes_more}
use Rattle.w_configuration.proofs.common.hasten.Goals as goal
use Rattle.w_configuration.proofs.common.hasten.Goals.{then-runs-function, else-runs-function}

pub loop-taken-init : goal.loop-taken-init
loop-taken-init c = record { many = nothing; most = omega arith; code = c.instrs_of-code.ensures }

pub stack-requires-in-loop-taken : goal.stack-requires-in-loop-taken
stack-requires-in-loop-taken c = record { some = long_many (known_sound c.args.program.known c.module-module.ensures.sound) c.requires.stands c.loop-taken.invariant.many }

pub go_on-done-requires-clause-some : goal.go_on-done-requires-clause-some
go_on-done-requires-clause-some c = long_many (known_sound c.args.program.known c.module-module.ensures.sound) c.requires.stands c.loop-taken.invariant.many

pub go_on-done-requires-clause-stands : goal.go_on-done-requires-clause-stands
go_on-done-requires-clause-stands c = stands_many (known_sound c.args.program.known c.module-module.ensures.sound) c.requires.stands c.loop-taken.invariant.many

pub go_on-done-requires-clause-made : goal.go_on-done-requires-clause-made
go_on-done-requires-clause-made c =
    let made = made_many (known_sound c.args.program.known c.module-module.ensures.sound) c.requires.stands c.loop-taken.invariant.many in
    omega (arith, made, c.requires.made, c.loop-taken-test.true)

pub go_on-done-requires-clause-code : goal.go_on-done-requires-clause-code
go_on-done-requires-clause-code c =
    let at = ap (λ (s : Shape). s.func) c.stack-in-loop-taken.ensures.value in
    elim c.if-runs-function.branch [
      | then-runs-function w ↦ ap (λ (b : Bor (List PackedInstr)). unpacked_all b.now) w.code-is ∙ w.instrs_of-code-then-runs-function.ensures ∙ ap (instrs c.args.program.source.now) (c.func-runs.ensures.value ∙ at)
      | else-runs-function w ↦ ap (λ (b : Bor (List PackedInstr)). unpacked_all b.now) w.code-is ∙ c.loop-taken.invariant.code
          ∙ ap (instrs c.args.program.source.now) (sym w.if-runs-function.false ∙ c.func-runs.ensures.value ∙ at)
    ]

pub loop-taken-preserved : goal.loop-taken-preserved
loop-taken-preserved c =
    let done = c.go_on-done.result in
    let most = subst (λ (e : Then). TakesAtMost e done.taken (c.args.most - c.loop-taken.taken)) c.in-On.is c.go_on-done.ensures.most in
    record {
      many = takes_more c.loop-taken.taken done.taken _ refl c.loop-taken.invariant.many (taken_on done c.in-On.is c.go_on-done.ensures.hastens);
      most = omega (arith, most.0, c.loop-taken.invariant.most);
      code = elim c.if-runs-function.branch [
        | then-runs-function w ↦ ap (λ (b : Bor (List PackedInstr)). unpacked_all b.now) w.code-is ∙ w.instrs_of-code-then-runs-function.ensures ∙ ap (instrs c.args.program.source.now) (sym w.function-is)
        | else-runs-function w ↦ ap (λ (b : Bor (List PackedInstr)). unpacked_all b.now) w.code-is ∙ c.loop-taken.invariant.code ∙ ap (instrs c.args.program.source.now) (sym w.function-is)
      ];
    }

pub loop-taken-smaller : goal.loop-taken-smaller
loop-taken-smaller c =
    let done = c.go_on-done.result in
    let most = subst (λ (e : Then). TakesAtMost e done.taken (c.args.most - c.loop-taken.taken)) c.in-On.is c.go_on-done.ensures.most in
    let some = most.1 (omega (arith, c.loop-taken-test.true)) in
    omega (arith, most.0, some, c.loop-taken-test.true)

pub returns-in_default : goal.returns-in_default
returns-in_default c = record {
  hastens = hastens_more c.loop-taken.taken _ c.go_on-done.result refl c.loop-taken.invariant.many c.go_on-done.ensures.hastens;
  most = more_at_most c.loop-taken.taken c.go_on-done.result.taken c.args.most c.go_on-done.result.then c.loop-taken-test.true c.go_on-done.ensures.most;
}

pub returns : goal.returns
returns c = record {
  hastens = record { between = c.loop-taken.configuration; many = c.loop-taken.invariant.many; last = refl };
  most = (c.loop-taken.invariant.most, λ h. omega (arith, h, c.loop-taken-test.false));
}
