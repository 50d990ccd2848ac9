use Rattle.std.proofs.Common.{◌≡◌, Some, rules}
use Rattle.w_words.specs.Words.{two_of}
use Rattle.w_words.specs.Numbers.{number_of}
use Rattle.w_lines.proofs.TokensRead.{ok_map, indices_some}
use Rattle.w_lines.proofs.instructions.indexed_twice.Goals as goal

pub returns : goal.returns
returns c =
    let e : two_of (number_of 32) (number_of 32) c.args.words.now ≡ Some (c.in-Some.first, c.in-Some.second) = search rules in
    ok_map c.spelled.result c.spelled.ensures (λ o r f h. indices_some c.args.opcode c.in-Some.first c.in-Some.second c.args.words.now c.as_slice.result.now c.as_slice-2.result.now c.put_u32.result.items c.put_u32-2.result.items o f e c.put_u32.ensures.spelled c.put_u32-2.ensures.spelled c.as_slice.ensures.value c.as_slice-2.ensures.value r h)
