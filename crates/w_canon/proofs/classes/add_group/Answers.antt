use Rattle.std.proofs.Common.{List, ap, ◌∙◌, arith}
use Rattle.w_canon.specs.declared.entry.Entry.{Entry}
use Rattle.w_canon.specs.Keys.{group_words}
use Rattle.w_canon.proofs.ClassesOfTypes.{classed_add, classed_none_more}
use Rattle.w_canon.proofs.classes.add_group.Goals as goal

pub returns-then-len-eq0 : goal.returns-then-len-eq0
returns-then-len-eq0 c = λ gs h. classed_none_more c.args.numbers.now gs c.args.entries.now.items c.args.group.now (omega (arith, c.len.ensures, c.if-len-eq0.true)) h

pub returns : goal.returns
returns c =
    classed_add c.args.numbers.now c.first_with.new.numbers c.args.entries.now.items c.push_entries.new.entries.items c.args.group.now c.in_ok-key.key.items c.len-start.result c.in_ok-first.first
    (omega (arith, c.len.ensures, c.if-len-eq0.false))
    (c.in_ok-key.ensures ∙ ap (λ (es : List Entry). group_words es c.args.group.now) c.as_slice.ensures.value)
    (omega (arith, c.len-start.ensures))
    c.in_ok-first.ensures c.in_ok-push_entries.ensures
