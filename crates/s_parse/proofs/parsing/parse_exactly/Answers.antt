use Rattle.std.proofs.Common.{inl, sym}
use Rattle.s_parse.proofs.Verdicts.{not_whole, whole, wrong, deep}
use Rattle.s_parse.proofs.parsing.parse_exactly.Goals as goal

pub returns-then-at-count : goal.returns-then-at-count
returns-then-at-count c = record { answer = inl (sym (not_whole c.args.source.now.bytes.now c.args.source.now.tokens.now _ c.in-Ok.at c.in-Ok.ensures.reads.0 c.if-at-count.true)) }

pub returns-else-at-count : goal.returns-else-at-count
returns-else-at-count c = record { answer = inl (sym (whole c.args.source.now.bytes.now c.args.source.now.tokens.now c.in-Ok.script c.in-Ok.at c.in-Ok.ensures.reads.0 c.in-Ok.ensures.reads.1 c.if-at-count.false)) }

pub returns-in-Err-Wrong : goal.returns-in-Err-Wrong
returns-in-Err-Wrong c =
    let h = rw c.in-Err-Wrong.field-0-is at c.in-Err-Wrong.ensures.reads in
    record { answer = inl (sym (wrong c.args.source.now.bytes.now c.args.source.now.tokens.now c.in-Err-Wrong.at h.0 h.1)) }

pub returns-in-Err-TooDeep : goal.returns-in-Err-TooDeep
returns-in-Err-TooDeep c =
    let h = rw c.in-Err-TooDeep.field-0-is at c.in-Err-TooDeep.ensures.reads in
    record { answer = inl (sym (deep c.args.source.now.bytes.now c.args.source.now.tokens.now _ h.0)) }
