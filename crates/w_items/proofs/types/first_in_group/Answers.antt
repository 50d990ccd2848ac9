use Rattle.std.proofs.Common.{ℕ, ◌+◌, length, refl, arith}
use Rattle.std.proofs.lemmas.Option.{slice_get_read, slice_get_within}
use Rattle.w_items.specs.SubTypes.{IsValidSubType}
use Rattle.w_items.proofs.TypesOfGroups.{one_more}
use Rattle.w_items.proofs.types.first_in_group.Goals as goal

pub returns-then-not-is_valid : goal.returns-then-not-is_valid
returns-then-not-is_valid c =
    let types = c.args.types.now in
    let kind = c.index-types-position.result in (
      kind,
      slice_get_read types (length types) c.loop-position.position kind refl c.loop-position-test.true c.index-types-position.is,
      λ t. let e = c.if-not-is_valid.ensures.1 t in absurd (cc),
      c.loop-position.invariant,
    )

pub loop-position-preserved : goal.loop-position-preserved
loop-position-preserved c =
    let types = c.args.types.now in
    let kind = c.index-types-position.result in
    one_more (λ (k : ℕ). IsValidSubType c.args.cx.now.candidate.now c.args.end (c.args.start + k)) types c.loop-position.position kind
    (slice_get_read types (length types) c.loop-position.position kind refl c.loop-position-test.true c.index-types-position.is)
    (c.if-not-is_valid.ensures.0 refl) c.loop-position.invariant

pub returns : goal.returns
returns c = λ k t is. c.loop-position.invariant k t (omega (arith, slice_get_within c.args.types.now k t is, c.loop-position-test.false)) is
