use Rattle.std.proofs.Common.{◌≡◌, ◌++◌, ◌∷◌, [], List, length, reverse, sym, ap, ◌∙◌, arith, rules}
use Rattle.std.proofs.lemmas.List.{nil_from_length}
use Rattle.w_syntax.specs.declared.locals.LocalRun.{LocalRun}
use Rattle.w_syntax.specs.Locals.{join}
use Rattle.w_syntax.specs.Locals.{total}
use Rattle.w_syntax.proofs.JoinedRuns.{rev_last, join_none, join_first, join_same, join_other}
use Rattle.w_syntax.proofs.Totals.{total_first}
use Rattle.w_syntax.proofs.locals.prepend_run.Goals as goal

pub returns-then-run-eq0 : goal.returns-then-run-eq0
returns-then-run-eq0 c = join_none c.args.run (reverse c.args.backwards.now.items) c.if-run-eq0.true

pub returns-in_default : goal.returns-in_default
returns-in_default c =
    let none : length c.args.backwards.now.items ≡ 0 = search rules in
    let before : c.args.backwards.now.items ≡ [] = nil_from_length c.args.backwards.now.items none in
    let after : c.pop.new.self.items ≡ [] = nil_from_length c.pop.new.self.items (search rules) in
    ap reverse (c.in_ok-push.ensures.items ∙ ap (λ (l : List LocalRun). l ++ c.args.run ∷ []) after) ∙ join_first c.args.run c.if-run-eq0.false ∙ ap (λ (l : List LocalRun). join c.args.run (reverse l)) (sym before)

pub overflow_add-run : goal.overflow_add-run
overflow_add-run c =
    let e : reverse c.args.backwards.now.items ≡ c.in-Some.next ∷ reverse c.pop.new.self.items = ap reverse c.in-Some.ensures.items ∙ rev_last c.pop.new.self.items c.in-Some.next in
    omega (arith, c.requires, ap total e, total_first c.in-Some.next (reverse c.pop.new.self.items))

pub returns-then-are_one_type : goal.returns-then-are_one_type
returns-then-are_one_type c =
    let e : reverse c.args.backwards.now.items ≡ c.in-Some.next ∷ reverse c.pop.new.self.items = ap reverse c.in-Some.ensures.items ∙ rev_last c.pop.new.self.items c.in-Some.next in
    ap reverse c.in_ok-push-2.ensures.items ∙ rev_last c.pop.new.self.items _ ∙ join_same c.args.run c.in-Some.next (reverse c.pop.new.self.items) c.if-run-eq0.false (sym c.are_one_type.ensures ∙ c.if-are_one_type.true) ∙ ap (join c.args.run) (sym e)

pub returns : goal.returns
returns c =
    let e : reverse c.args.backwards.now.items ≡ c.in-Some.next ∷ reverse c.pop.new.self.items = ap reverse c.in-Some.ensures.items ∙ rev_last c.pop.new.self.items c.in-Some.next in
    ap reverse (c.in_ok-push-4.ensures.items) ∙ rev_last c.push-2.new.self.items c.args.run ∙ ap (λ (l : List LocalRun). c.args.run ∷ l) (ap reverse c.in_ok-push-3.ensures.items ∙ rev_last c.pop.new.self.items c.in-Some.next)
    ∙ join_other c.args.run c.in-Some.next (reverse c.pop.new.self.items) c.if-run-eq0.false (sym c.are_one_type.ensures ∙ c.if-are_one_type.false) ∙ ap (join c.args.run) (sym e)
