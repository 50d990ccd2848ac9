use Rattle.std.proofs.Common.{◌≡◌, ◌∙◌, ◌++◌, List, sym, ap}
use Rattle.std.proofs.lemmas.List.{append-nil, drop_all}
use Rattle.s_syntax.specs.declared.script.Clause.{Clause}
use Rattle.s_code.specs.Places.{clauses_names}
use Rattle.s_lower.specs.Views.{bounds_of}
use Rattle.s_lower.proofs.NamesBehindOthers.{clause_pushed}
use Rattle.s_lower.proofs.Lengths.{clauses_within, grown}
use Rattle.s_lower.proofs.names.push_clauses_names.Goals as goal

pub loop-clause-preserved : goal.loop-clause-preserved
loop-clause-preserved c =
    clause_pushed c.args.program.now c.args.handler.now c.args.clauses.now c.loop-clause.clause-index c.clause-item.result c.loop-clause.names.items c.push_clause_names.new.names.items _ c.loop-clause-test.true c.clause-item.is
    c.in_ok-push_clause_names.ensures.value c.loop-clause.invariant

all_named : (c : goal.After-loop-clause) → bounds_of c.loop-clause.names.items ≡ bounds_of c.args.names.now.items ++ clauses_names c.args.program.now c.args.handler.now c.args.clauses.now
all_named c =
    sym (append-nil (bounds_of c.loop-clause.names.items))
    ∙ ap (λ (cs : List Clause). bounds_of c.loop-clause.names.items ++ clauses_names c.args.program.now c.args.handler.now cs) (sym (drop_all c.loop-clause.clause-index c.args.clauses.now c.loop-clause-test.false))
    ∙ c.loop-clause.invariant

pub returns-clause-value : goal.returns-clause-value
returns-clause-value c = all_named c

pub returns-clause-many : goal.returns-clause-many
returns-clause-many c = grown c.args.names.now.items c.loop-clause.names.items (clauses_names c.args.program.now c.args.handler.now c.args.clauses.now) (all_named c)

pub returns-clause-few : goal.returns-clause-few
returns-clause-few c = clauses_within c.args.program.now c.args.handler.now c.args.clauses.now

pub returns-in_err-push_clause_names-clause-few : goal.returns-in_err-push_clause_names-clause-few
returns-in_err-push_clause_names-clause-few c = clauses_within c.args.program.now c.args.handler.now c.args.clauses.now
