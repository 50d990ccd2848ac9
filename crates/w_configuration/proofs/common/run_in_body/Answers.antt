use Rattle.std.proofs.Common.{◌∙◌, ap, sym, refl, arith}
use Rattle.w_segment.specs.Shape.{Shape}
use Rattle.w_segment.specs.Link.{with_top}
use Rattle.w_configuration.specs.CommonReductions.{nothing, one_more}
use Rattle.w_configuration.proofs.CommonReductions.{applies_in, body_of, in_run_in_body, last_in, one_within, stands_on, untouched}
use Rattle.w_configuration.proofs.common.run_in_body.Goals as goal

pub loop-taken-init : goal.loop-taken-init
loop-taken-init c = record {
  body = c.requires.body;
  function = refl;
  reached = λ chain conts some h. record { many = nothing; stands = h };
  most = omega arith;
}

pub attempt-requires-clause-applies : goal.attempt-requires-clause-applies
attempt-requires-clause-applies c =
    let here = c.requires.stands in
    applies_in c.module-module.ensures.sound c.loop-taken.store c.loop-taken.stack here.chain here.conts here.some c.loop-taken.invariant.body
    (c.loop-taken.invariant.reached here.chain here.conts here.some here.stands).stands

pub loop-taken-preserved : goal.loop-taken-preserved
loop-taken-preserved c =
    let before = c.loop-taken.invariant in
    let done = c.in-Went.ensures in
    let stays = done.stays refl in
    let body = stays.1 ∙ before.body in
    record {
      body = body;
      function = stays.0 ∙ before.function;
      reached = λ chain conts some h.
          let there = before.reached chain conts some h in
          let one = one_within c.module-module.ensures.sound c.loop-taken.store c.loop-taken.stack chain conts some before.body there.stands (done.plain refl) c.attempt.new.store c.attempt.new.stack done.step (done.went refl) in
          record { many = one_more there.many one; stands = stands_on c.module-module.ensures.sound there.stands one (in_run_in_body (with_top c.attempt.new.stack chain) (body_of c.attempt.new.stack chain some body)) };
      most = omega (arith, c.loop-taken-test.true);
    }

pub returns-in_default : goal.returns-in_default
returns-in_default c =
    let before = c.loop-taken.invariant in
    record {
      runs = λ chain conts some h.
          let there = before.reached chain conts some h in
          record {
            between = _;
            many = there.many;
            stands = there.stands;
            ends = last_in c.module-module.ensures.sound c.loop-taken.store c.loop-taken.stack chain conts some before.body there.stands c.attempt.new.store c.attempt.new.stack
                c.attempt.result c.in_default.not-Went c.attempt.ensures.step c.attempt.ensures.plain c.attempt.ensures.went;
          };
      most = omega (arith, c.loop-taken-test.true);
      fewer = λ other. c.loop-taken-test.true;
      all = λ went. absurd (c.in_default.not-Went went);
      stays = λ none. let same = untouched c.args.program.now c.loop-taken.store c.attempt.new.store c.loop-taken.stack c.attempt.new.stack c.attempt.result none c.attempt.ensures.step in (ap (λ (s : Shape). s.func) same ∙ before.function, ap (λ (s : Shape). s.stage) same ∙ before.body ∙ sym c.requires.body);
    }
