use Rattle.std.proofs.Common.{◌≡◌, arith}
use Rattle.std.proofs.lemmas.Int.{to_z-of_z}
use Rattle.w_leb.specs.Number.{shortest_signed}
use Rattle.w_leb.specs.ShortestSignedLaws.{shortest_in_bits, signed_is_short}
use Rattle.w_leb.proofs.writing.put_s33.Goals as goal

pub returns-clause-spelled : goal.returns-clause-spelled
returns-clause-spelled c =
    let e : c.put_signed.result.items ≡ shortest_signed c.args.v = grind (arith, to_z-of_z) in
    rw e (shortest_in_bits 33 c.args.v (omega arith) c.requires)

pub returns-clause-least : goal.returns-clause-least
returns-clause-least c = λ b h.
    let e : c.put_signed.result.items ≡ shortest_signed c.args.v = grind (arith, to_z-of_z) in
    rw e (signed_is_short 9 33 c.args.v b h)
