use Rattle.std.proofs.Common.{◌≡◌, ◌-◌, ◌<◌, ℕ, length, take, drop, sym, ap, subst, ◌∙◌, arith}
use Rattle.std.proofs.lemmas.List.{length-take}
use Rattle.w_decode.specs.Pieces.{InSection}
use Rattle.w_decode.specs.declared.pieces.Inside.TheVariants as inside
use Rattle.w_decode.specs.declared.pieces.Phase.TheVariants as phase
use Rattle.w_decode.proofs.ContentsInPart.{skipped}
use Rattle.w_decode.proofs.DecodersStand.{stays, stands_as}
use Rattle.w_decode.proofs.pieces.Decoder.skip.Goals as goal

pub returns-then-came-eq0-clause-steps : goal.returns-then-came-eq0-clause-steps
returns-then-came-eq0-clause-steps c = λ b h.
    let d = c.args.self.now in
    let u = c.args.bytes.now in
    let s = stands_as d.phase (phase.Contents c.args.rank c.args.left c.args.inside) d u b c.requires.phase h in
    let z : length (take c.args.left u) ≡ 0 = sym (ap length c.window-came.ensures) ∙ c.if-came-eq0.true in
    let lt : length u < c.args.left = omega (arith, s.0, z, length-take c.args.left u) in
    stays (phase.Contents c.args.rank c.args.left c.args.inside) d u b c.requires.phase h (lt, c.requires.lacks z)

pub returns-clause-steps : goal.returns-clause-steps
returns-clause-steps c = λ b h.
    let d = c.args.self.now in
    let u = c.args.bytes.now in
    let s = stands_as d.phase (phase.Contents c.args.rank c.args.left c.args.inside) d u b c.requires.phase h in
    let e : length c.window-came.result.now ≡ length (take c.args.left u) = ap length c.window-came.ensures in
    let some : 0 < length (take c.args.left u) = omega (arith, e, c.if-came-eq0.false) in
    let t = skipped c.args.inside c.args.named b u c.args.rank c.args.left d.number d.closed d.so_far s.1 (c.requires.skips some) in
    c.settle.ensures (drop (length c.window-came.result.now) u) b (subst (λ (n : ℕ). InSection c.args.rank (c.args.left - n) (inside.Skipped c.args.named) d.so_far d.number d.closed (drop n u) b) (sym e) t)
