use Rattle.std.proofs.Common.{◌+◌, refl, arith}
use Rattle.std.proofs.lemmas.List.{get_or_read}
use Rattle.w_canon.proofs.Sharing.{slot_is, room_under, room_roots, share_under, share_root}
use Rattle.w_canon.proofs.forest.share_one.Goals as goal

pub overflow_add-size : goal.overflow_add-size
overflow_add-size c =
    let s = c.requires.shared in
    let within = c.requires.there in
    let few = room_roots c.args.parents.now c.args.shares.now.under.items c.args.shares.now.offsets.items c.args.shares.now.roots c.args.node c.requires.forest s in
    let read = get_or_read c.args.shares.now.under.items c.args.node c.index.result.now (omega (arith, s.long_under, within)) c.index.ensures 0 in
    omega (arith, few, read, s.long_under, c.args.shares.now.under.small, c.args.shares.now.under.ok)

pub index-before-requires : goal.index-before-requires
index-before-requires c =
    let s = c.requires.shared in
    let within = c.requires.there in
    let less = c.requires.forest c.args.node c.in-Some.parent (slot_is c.args.parents.now c.args.node _ within c.in-Some.is) in
    omega (arith, less, within, s.long_under)

pub overflow_add-before : goal.overflow_add-before
overflow_add-before c =
    let s = c.requires.shared in
    let within = c.requires.there in
    let slot = slot_is c.args.parents.now c.args.node _ within c.in-Some.is in
    let less = c.requires.forest c.args.node c.in-Some.parent slot in
    let few = room_under c.args.parents.now c.args.shares.now.under.items c.args.shares.now.offsets.items c.args.shares.now.roots c.args.node c.requires.forest s c.in-Some.parent slot in
    let read = get_or_read c.args.shares.now.under.items c.args.node c.index.result.now (omega (arith, s.long_under, within)) c.index.ensures 0 in
    let above = get_or_read c.args.shares.now.under.items c.in-Some.parent c.index-before.result.now (omega (arith, s.long_under, within, less)) c.index-before.ensures 0 in
    omega (arith, few, read, above, s.long_under, c.args.shares.now.under.small, c.args.shares.now.under.ok)

pub index_mut-requires-in-Some : goal.index_mut-requires-in-Some
index_mut-requires-in-Some c =
    let s = c.requires.shared in
    let within = c.requires.there in
    let less = c.requires.forest c.args.node c.in-Some.parent (slot_is c.args.parents.now c.args.node _ within c.in-Some.is) in
    omega (arith, less, within, s.long_under)

pub overflow_add-shares : goal.overflow_add-shares
overflow_add-shares c =
    let s = c.requires.shared in
    let within = c.requires.there in
    let few = room_roots c.args.parents.now c.args.shares.now.under.items c.args.shares.now.offsets.items c.args.shares.now.roots c.args.node c.requires.forest s in
    let read = get_or_read c.args.shares.now.under.items c.args.node c.index.result.now (omega (arith, s.long_under, within)) c.index.ensures 0 in
    omega (arith, few, read, s.long_under, c.args.shares.now.under.small, c.args.shares.now.under.ok)

pub returns-in-Some : goal.returns-in-Some
returns-in-Some c =
    let s = c.requires.shared in
    let within = c.requires.there in
    let slot = slot_is c.args.parents.now c.args.node _ within c.in-Some.is in
    let less = c.requires.forest c.args.node c.in-Some.parent slot in
    let read = get_or_read c.args.shares.now.under.items c.args.node c.index.result.now (omega (arith, s.long_under, within)) c.index.ensures 0 in
    let above = get_or_read c.args.shares.now.under.items c.in-Some.parent c.index-before.result.now (omega (arith, s.long_under, within, less)) c.index-before.ensures 0 in
    share_under c.args.parents.now c.args.shares.now.under.items c.args.shares.now.offsets.items c.args.shares.now.roots c.args.node c.requires.forest s
    c.in-Some.parent c.index-before.result.now (c.index.result.now + 1) slot above (omega (arith, read))

pub returns-in-None : goal.returns-in-None
returns-in-None c =
    let s = c.requires.shared in
    let within = c.requires.there in
    let slot = slot_is c.args.parents.now c.args.node _ within c.in-None.is in
    let read = get_or_read c.args.shares.now.under.items c.args.node c.index.result.now (omega (arith, s.long_under, within)) c.index.ensures 0 in
    share_root c.args.parents.now c.args.shares.now.under.items c.args.shares.now.offsets.items c.args.shares.now.roots c.args.node c.requires.forest s
    c.args.shares.now.roots (c.index.result.now + 1) slot refl (omega (arith, read))
