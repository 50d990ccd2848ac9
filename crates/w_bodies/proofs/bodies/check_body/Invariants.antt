use Rattle.std.proofs.Common.{take}
use Rattle.w_syntax.specs.Flat.{whole}
use Rattle.w_rules.specs.View.{context_in, HasClasses}
use Rattle.w_bodies.proofs.BodiesMeasured.{Reached}
use Rattle.w_bodies.proofs.bodies.check_body.Given as goal

-- the checker stands for the instructions so far, which the rules derive, where it begins with the classes
abbrev pub invariant-loop-packed : goal.invariant-loop-packed
invariant-loop-packed l =
    HasClasses l.setting.cx.now → Reached (record { context = context_in l.setting.cx.now; params = l.params; runs = l.runs; results = l.setting.results.types.now }) l.checker (take l.packed-index (whole l.body))
