use Rattle.std.proofs.Common.{◌≡◌, ℕ, suc, ◌+◌, ◌≤◌, length, drop, None, sym, ap, subst, ◌∙◌, arith}
use Rattle.std.specs.Prelude.{All}
use Rattle.std.proofs.lemmas.List.{take_all}
use Rattle.std.proofs.lemmas.List.Elements.{All-more}
use Rattle.w_reduce.specs.Start.{exceeded}
use Rattle.w_linked.specs.Starting.{first_exceeded}
use Rattle.w_linker.specs.Parts.{IsAccepted}
use Rattle.w_linker.proofs.OneByOne.{exceeded_here}
use Rattle.w_linker.proofs.limits.first_exceeded.Goals as goal

pub loop-file-preserved : goal.loop-file-preserved
loop-file-preserved c =
    let ms = c.args.modules.now in
    let i = c.loop-file.file in
    let m = c.index-modules-file.result in
    let none = ap exceeded (sym c.module.ensures.same) ∙ sym c.exceeded.ensures ∙ c.in_default.is in
    let here : IsAccepted m = record { within = c.module.ensures.within; valid = c.module.ensures.valid } in
    record {
      first =
          ap (λ (k : ℕ). first_exceeded k (drop (i + 1) ms)) (let e : i + 1 ≡ suc i = omega arith in e)
          ∙ sym (exceeded_here ms i m None c.loop-file-test.true c.index-modules-file.is none) ∙ c.loop-file.invariant.first;
      accepted = All-more IsAccepted ms i m c.loop-file-test.true c.loop-file.invariant.accepted (subst IsAccepted c.index-modules-file.is here);
    }

pub returns-clause-accepted : goal.returns-clause-accepted
returns-clause-accepted c =
    let ms = c.args.modules.now in
    let past : length ms ≤ c.loop-file.file = omega arith in
    subst (All IsAccepted) (take_all c.loop-file.file ms past) c.loop-file.invariant.accepted
