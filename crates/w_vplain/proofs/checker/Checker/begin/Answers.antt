use Rattle.std.proofs.Common.{refl, ap, List, Some}
use Rattle.w_rules.specs.Bodies.{set_first}
use Rattle.w_vplain.specs.Frames.{Frame}
use Rattle.w_vplain.proofs.BodyBeginnings.{begin_frames, bases_none}
use Rattle.w_vplain.proofs.CallsAnswered.{begins}
use Rattle.w_vplain.proofs.checker.Checker.begin.Goals as goal

pub returns-clause-stands : goal.returns-clause-stands
returns-clause-stands c = λ types.
    let s = set_first c.args.params.now c.args.runs.now in
    let frames = begin_frames (record { kind = _; flow = c.new.result; base = Some 0 }) c.clear.new.self.items c.in_ok-locals.locals.sets s refl c.new.ensures.none c.clear.ensures.items c.in_ok-locals.ensures.sets in
    begins _ s types (ap (λ (fs : List Frame). Some fs) frames) frames refl refl (bases_none c.clear.new.self.items c.clear.ensures.items)

pub invariant_of-result-clause-top_words : goal.invariant_of-result-clause-top_words
invariant_of-result-clause-top_words c = c.new.ensures.words c.args.setting.cx.now.classes.now
