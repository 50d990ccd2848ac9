use Rattle.std.proofs.Common.{◌≡◌, ◌≢◌, [], ◌∙◌, rules}
use Rattle.std.proofs.lemmas.List.{nil_from_length}
use Rattle.w_decode.specs.declared.pieces.Phase.TheVariants as phase
use Rattle.w_decode.proofs.AnswersOfDecode.{differ, same}
use Rattle.w_decode.proofs.DecodersStand.{stands_as, waits_as, header_gives, between_gives, frame_gives, contents_give, doomed_gives}
use Rattle.w_decode.proofs.pieces.Decoder.last_fault.Goals as goal

pub returns-in-Header-clause-some : goal.returns-in-Header-clause-some
returns-in-Header-clause-some c = λ b h.
    let d = c.args.self.now in
    header_gives d.kept.items b (stands_as d.phase phase.Header d d.kept.items b c.in-Header.is h.stands).all_wait (waits_as d.phase phase.Header d.kept.items c.in-Header.is h.waits)

pub returns-then-not-is_empty-clause-some : goal.returns-then-not-is_empty-clause-some
returns-then-not-is_empty-clause-some c = λ b h.
    let d = c.args.self.now in
    let u = d.kept.items in
    let s = stands_as d.phase phase.Between d u b c.in-Between.is h.stands in
    let w = waits_as d.phase phase.Between u c.in-Between.is h.waits in
    let some : u ≢ [] = search rules in
    frame_gives b u s.sections d.rank d.number s.begins s.many some w.0

pub returns-then-not-counts_agree-clause-some : goal.returns-then-not-counts_agree-clause-some
returns-then-not-counts_agree-clause-some c = λ b h.
    let d = c.args.self.now in
    let u = d.kept.items in
    let s = stands_as d.phase phase.Between d u b c.in-Between.is h.stands in
    let none : u ≡ [] = nil_from_length u (search rules) in
    between_gives u b d.number d.rank d.closed d.so_far s none ∙ differ d.so_far c.counts_agree.result c.counts_agree.ensures c.if-not-counts_agree.true

pub returns-else-not-counts_agree-clause-none : goal.returns-else-not-counts_agree-clause-none
returns-else-not-counts_agree-clause-none c = λ none b h.
    let d = c.args.self.now in
    let u = d.kept.items in
    let s = stands_as d.phase phase.Between d u b c.in-Between.is h.stands in
    let nil : u ≡ [] = nil_from_length u (search rules) in
    between_gives u b d.number d.rank d.closed d.so_far s nil ∙ same d.so_far c.counts_agree.result c.counts_agree.ensures c.if-not-counts_agree.false

pub returns-in-Contents-clause-some : goal.returns-in-Contents-clause-some
returns-in-Contents-clause-some c = λ b h.
    let d = c.args.self.now in
    let u = d.kept.items in
    let p = phase.Contents c.in-Contents.field-0 c.in-Contents.field-1 c.in-Contents.field-2 in
    let s = stands_as d.phase p d u b c.in-Contents.is h.stands in
    let w = waits_as d.phase p u c.in-Contents.is h.waits in
    contents_give c.in-Contents.field-0 c.in-Contents.field-1 d.number d.closed c.in-Contents.field-2 d.so_far u b s.1 w.0

pub returns-in-Failed-clause-some : goal.returns-in-Failed-clause-some
returns-in-Failed-clause-some c = λ b h.
    let d = c.args.self.now in
    let u = d.kept.items in
    doomed_gives b c.in-Failed.fault (stands_as d.phase (phase.Failed c.in-Failed.fault) d u b c.in-Failed.is h.stands)
