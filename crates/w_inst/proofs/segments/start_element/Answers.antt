use Rattle.std.proofs.Common.{refl}
use Rattle.w_inst.proofs.SegmentCopies.{declared_as, elem_drop_later}
use Rattle.w_inst.proofs.segments.start_element.Goals as goal

pub returns-in-Declarative-clause-started : goal.returns-in-Declarative-clause-started
returns-in-Declarative-clause-started c = λ p. declared_as p c.args.store.now c.elem_drop.new.self c.args.segment c.args.elem.now.mode c.in-Declarative.is c.elem_drop.ensures.dropped

pub returns-in-Declarative-clause-later : goal.returns-in-Declarative-clause-later
returns-in-Declarative-clause-later c = λ j h. elem_drop_later c.args.store.now c.args.store.now c.elem_drop.new.self c.args.segment j refl c.elem_drop.ensures.dropped h
