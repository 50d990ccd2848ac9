use Rattle.std.proofs.Common.{◌∙◌, sym, ap, arith}
use Rattle.std.proofs.lemmas.Option.{slice_get-get_or}
use Rattle.std.specs.Prelude.{Some}
use Rattle.s_code.proofs.Blocks.{closed_more}
use Rattle.s_code.proofs.handler.close_blocks.Goals as goal

pub write_clause-requires : goal.write_clause-requires
write_clause-requires c =
    let p = c.index-all-index.result in
    let f = c.requires.fit c.loop-index.index p (slice_get-get_or c.args.all.now c.loop-index.index p c.loop-index-test.true ∙ ap (λ q. Some q) (sym c.index-all-index.is)) in
    omega (arith, f)

pub loop-index-preserved : goal.loop-index-preserved
loop-index-preserved c =
    closed_more c.args.program.now c.args.all.now c.loop-index.index c.index-all-index.result c.loop-index.out.items c.write_token.new.out.items c.write_clause.new.out.items c.loop-index-test.true c.index-all-index.is
    c.in_ok-write_token.ensures.token c.in_ok-write_clause.ensures.writes
    ∙ c.loop-index.invariant
