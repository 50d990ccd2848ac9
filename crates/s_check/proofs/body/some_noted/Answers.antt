use Rattle.std.proofs.Common.{◌∙◌, ◌∷◌, ◌||◌, ◌+◌, Bool, List, Bor, drop, sym, ap}
use Rattle.s_syntax.specs.declared.name.Name.{Name}
use Rattle.s_check.specs.Scopes.{some_twice}
use Rattle.s_check.specs.Views.{names_of}
use Rattle.lists.proofs.Lists.{cell}
use Rattle.s_check.proofs.body.some_noted.Goals as goal

pub loop-name-preserved : goal.loop-name-preserved
loop-name-preserved c =
    let xs = c.args.names.now in
    let i = c.loop-name.name-index in
    let x = c.name-item.result in
    let seen = c.loop-name.invariant.seen in
    let free = sym (c.in_ok-noted_before.ensures.value seen c.loop-name.invariant.has) ∙ c.if-branch.false in
    record {
      seen = x.now ∷ seen;
      has = c.in_ok-noted_before.ensures.more seen c.loop-name.invariant.has;
      rest =
          sym (ap (λ (b : Bool). b || some_twice (x.now ∷ seen) (names_of (drop (i + 1) xs))) free)
          ∙ ap (λ (l : List (Bor Name)). some_twice seen (names_of l)) (sym (cell xs i x c.loop-name-test.true c.name-item.is))
          ∙ c.loop-name.invariant.rest;
    }
