use Rattle.std.proofs.Common.{◌≡◌, ℕ, sym, subst, ◌∙◌, arith}
use Rattle.w_decode.specs.Pieces.{InSection}
use Rattle.w_decode.proofs.ContentsInPart.{ended_well, ended_badly}
use Rattle.w_decode.proofs.pieces.Decoder.settle.Goals as goal

pub returns-then-has_ended : goal.returns-then-has_ended
returns-then-has_ended c = λ u b s.
    let d = c.args.self.now in
    let z : c.args.left ≡ 0 = omega (arith, c.if-left-gt0.false) in
    c.end_section.ensures u b (ended_well c.args.inside b u c.args.rank d.number d.closed d.so_far (sym c.has_ended.ensures ∙ c.if-has_ended.true) (subst (λ (l : ℕ). InSection c.args.rank l c.args.inside d.so_far d.number d.closed u b) z s))

pub returns-else-has_ended : goal.returns-else-has_ended
returns-else-has_ended c = λ u b s.
    let d = c.args.self.now in
    let z : c.args.left ≡ 0 = omega (arith, c.if-left-gt0.false) in
    ended_badly c.args.inside b u c.args.rank d.number d.closed d.so_far (sym c.has_ended.ensures ∙ c.if-has_ended.false) (subst (λ (l : ℕ). InSection c.args.rank l c.args.inside d.so_far d.number d.closed u b) z s)
