use Rattle.std.proofs.Common.{◌≡◌, arith, sym, subst, ℤ, to_z, of_z, w32, w64}
use Rattle.std.specs.Prelude.{slice_range}
use Rattle.std.proofs.lemmas.Int.{ints}
use Rattle.w_leb.specs.Number.{Signed, signed}
use Rattle.w_leb.specs.ReadingLaws.{begins_none, begins_some}
use Rattle.w_leb.specs.NumberLaws.{signed_exact}
use Rattle.w_leb.proofs.reading.read_s32.Goals as goal

pub returns-in_default-clause-begins : goal.returns-in_default-clause-begins
returns-in_default-clause-begins c = begins_none (Signed 32) (signed 32) (signed_exact 32) _ _ c.in_default.ensures.reads

pub returns-clause-begins : goal.returns-clause-begins
returns-clause-begins c =
    let h = c.in-Some.ensures.reads in
    let fits = c.in-Some.ensures.fits in
    let narrowed : to_z w32 (of_z w32 (to_z w64 (of_z w64 c.in-Some.value))) ≡ c.in-Some.value = omega (arith, ints, fits.0, fits.1) in
    let spelled = begins_some (Signed 32) (signed 32) (signed_exact 32) _ _ _ _ h.0 h.1 h.2 in
    (h.1, h.2, subst (λ (z : ℤ). Signed 32 (slice_range c.args.bytes.now c.args.at c.in-Some.next) z) (sym narrowed) spelled)
