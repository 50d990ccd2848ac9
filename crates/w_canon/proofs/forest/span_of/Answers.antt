use Rattle.std.proofs.Common.{arith}
use Rattle.std.proofs.lemmas.List.{get_or_read}
use Rattle.w_canon.proofs.Sharing.{slot_is}
use Rattle.w_canon.proofs.Spanning.{under_fits, root_fits, more}
use Rattle.w_canon.proofs.forest.span_of.Goals as goal

pub returns-in-Some : goal.returns-in-Some
returns-in-Some c =
    let ps = c.args.parents.now in
    let us = c.args.shares.now.under.items in
    let os = c.args.shares.now.offsets.items in
    let s = c.requires.shared in
    let b = c.requires.before in
    let within = c.requires.there in
    let slot = slot_is ps c.args.node _ within c.in-Some.is in
    let offset = get_or_read os c.args.node c.index.result.now (omega (arith, s.long_offsets, within)) c.index.ensures 0 in
    let under = get_or_read us c.args.node c.index-2.result.now (omega (arith, s.long_under, within)) c.index-2.ensures 0 in
    let fits = under_fits ps us os c.args.shares.now.roots c.requires.forest s c.args.spans.now c.args.node b c.in-Some.parent within slot in
    let from = c.span_at.ensures.from in
    let to = c.span_at.ensures.to in
    more ps us os c.args.shares.now.roots c.requires.forest s c.args.spans.now c.args.node b c.span_at.result _ slot
    (omega (arith, from, offset)) (omega (arith, to, from, under)) (omega (arith, to, offset, under, fits))

pub returns-in-None : goal.returns-in-None
returns-in-None c =
    let ps = c.args.parents.now in
    let us = c.args.shares.now.under.items in
    let os = c.args.shares.now.offsets.items in
    let s = c.requires.shared in
    let b = c.requires.before in
    let within = c.requires.there in
    let slot = slot_is ps c.args.node _ within c.in-None.is in
    let offset = get_or_read os c.args.node c.index.result.now (omega (arith, s.long_offsets, within)) c.index.ensures 0 in
    let under = get_or_read us c.args.node c.index-2.result.now (omega (arith, s.long_under, within)) c.index-2.ensures 0 in
    let fits = root_fits ps us os c.args.shares.now.roots c.requires.forest s c.args.spans.now c.args.node b within slot in
    let from = c.span_at-in-None.ensures.from in
    let to = c.span_at-in-None.ensures.to in
    more ps us os c.args.shares.now.roots c.requires.forest s c.args.spans.now c.args.node b c.span_at-in-None.result _ slot
    (omega (arith, from, offset)) (omega (arith, to, from, under)) (omega (arith, to, offset, under, fits))
