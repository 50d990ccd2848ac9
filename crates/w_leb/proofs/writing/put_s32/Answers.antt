use Rattle.std.proofs.Common.{◌≡◌, arith}
use Rattle.std.proofs.lemmas.Int.{ints, to_z-of_z}
use Rattle.w_leb.specs.Number.{shortest_signed}
use Rattle.w_leb.specs.ShortestSignedLaws.{shortest_in_bits, signed_is_short}
use Rattle.w_leb.proofs.writing.put_s32.Goals as goal

pub returns-clause-spelled : goal.returns-clause-spelled
returns-clause-spelled c =
    let e : c.put_signed.result.items ≡ shortest_signed c.args.v = grind (arith, to_z-of_z) in
    rw e (shortest_in_bits 32 c.args.v (omega arith) (omega (arith, ints), omega (arith, ints)))

pub returns-clause-least : goal.returns-clause-least
returns-clause-least c = λ b h.
    let e : c.put_signed.result.items ≡ shortest_signed c.args.v = grind (arith, to_z-of_z) in
    rw e (signed_is_short 9 32 c.args.v b h)
