use Rattle.std.proofs.Common.{◌≡◌, Some, rules}
use Rattle.w_words.specs.Words.{one_of}
use Rattle.w_words.specs.Numbers.{number_of}
use Rattle.w_lines.proofs.TokensRead.{ok_map, index_some}
use Rattle.w_lines.proofs.instructions.indexed.Goals as goal

pub returns : goal.returns
returns c =
    let e : one_of (number_of 32) c.args.words.now ≡ Some c.in-Some.index = search rules in
    ok_map c.spelled.result c.spelled.ensures (λ o r f h. index_some c.args.opcode c.in-Some.index c.args.words.now c.as_slice.result.now c.put_u32.result.items o f e c.put_u32.ensures.spelled c.as_slice.ensures.value r h)
