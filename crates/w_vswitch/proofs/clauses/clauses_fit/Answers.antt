use Rattle.std.proofs.Common.{List, ◌-◌, get_or, take, length-take, refl, subst, arith}
use Rattle.std.specs.Prelude.{All}
use Rattle.std.proofs.lemmas.List.{take_all, get_or-take}
use Rattle.std.proofs.lemmas.List.Elements.{All-more, All-get_or}
use Rattle.w_syntax.specs.declared.instructions.Clause.{Clause}
use Rattle.w_syntax.specs.declared.instructions.Clause.TheVariants as clause
use Rattle.w_rules.specs.Conditions.{ClauseTyped}
use Rattle.w_vplain.specs.Standing.{context_for}
use Rattle.w_vswitch.specs.Places.{at_end}
use Rattle.w_vswitch.proofs.clauses.clauses_fit.Goals as goal

pub loop-index-preserved : goal.loop-index-preserved
loop-index-preserved c = λ s w k g.
    let P : Clause → Type 0 = ClauseTyped (at_end (context_for c.args.checker.now) w) c.args.results.types.now in
    let i = c.loop-index.index in
    let none = clause.Label 0 0 in
    let last : P (get_or c.args.clauses.now (i - 1) none) =
    subst P (get_or-take i c.args.clauses.now (i - 1) none (omega arith))
    (All-get_or P (take i c.args.clauses.now) (i - 1) none (omega (arith, length-take i c.args.clauses.now)) (c.loop-index.invariant s w k g)) in
    All-more P c.args.clauses.now i none c.loop-index-test.true (c.loop-index.invariant s w k g) ((c.fits_again.ensures s w k g last).0 c.if-not-fits_again.false)

pub returns : goal.returns
returns c = λ s w k g.
    let P : List Clause → Type 0 = λ hs. All (ClauseTyped (at_end (context_for c.args.checker.now) w) c.args.results.types.now) hs in
    (λ t. subst P (take_all c.loop-index.index c.args.clauses.now (omega arith)) (c.loop-index.invariant s w k g), λ all. refl)
