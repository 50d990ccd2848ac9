use Rattle.w_lines.specs.declared.names.Immediates.TheVariants as kind
use Rattle.w_lines.proofs.TokensRead.{ok_map, token_is}
use Rattle.w_lines.proofs.instructions.token_of.Goals as goal

pub returns-in-None : goal.returns-in-None
returns-in-None c = ok_map c.alone.result c.alone.ensures (λ o h w i. token_is w c.args.words.now c.args.row kind.None o i c.in-None.is h)

pub returns-in-Index : goal.returns-in-Index
returns-in-Index c = ok_map c.indexed.result c.indexed.ensures (λ o h w i. token_is w c.args.words.now c.args.row kind.Index o i c.in-Index.is h)

pub returns-in-Indices : goal.returns-in-Indices
returns-in-Indices c = ok_map c.indexed_twice.result c.indexed_twice.ensures (λ o h w i. token_is w c.args.words.now c.args.row kind.Indices o i c.in-Indices.is h)

pub returns-in-Access : goal.returns-in-Access
returns-in-Access c = ok_map c.accessing.result c.accessing.ensures (λ o h w i. token_is w c.args.words.now c.args.row kind.Access o i c.in-Access.is h)

pub returns-in-Types : goal.returns-in-Types
returns-in-Types c = ok_map c.select.result c.select.ensures (λ o h w i. token_is w c.args.words.now c.args.row kind.Types o i c.in-Types.is (λ f. h c.args.row.opcode f))

pub returns-in-Labels : goal.returns-in-Labels
returns-in-Labels c = ok_map c.br_table.result c.br_table.ensures (λ o h w i. token_is w c.args.words.now c.args.row kind.Labels o i c.in-Labels.is (λ f. h c.args.row.opcode f))

pub returns-in-Clauses : goal.returns-in-Clauses
returns-in-Clauses c = ok_map c.resume.result c.resume.ensures (λ o h w i. token_is w c.args.words.now c.args.row kind.Clauses o i c.in-Clauses.is (λ f. h c.args.row.opcode f))

pub returns-in-Block : goal.returns-in-Block
returns-in-Block c = λ w i. token_is w c.args.words.now c.args.row kind.Block c.block.result i c.in-Block.is c.block.ensures

pub returns-in-Const32 : goal.returns-in-Const32
returns-in-Const32 c = λ w i. token_is w c.args.words.now c.args.row kind.Const32 c.constant_32.result i c.in-Const32.is (λ f. c.constant_32.ensures c.args.row.opcode f)

pub returns-in-Const64 : goal.returns-in-Const64
returns-in-Const64 c = λ w i. token_is w c.args.words.now c.args.row kind.Const64 c.constant_64.result i c.in-Const64.is (λ f. c.constant_64.ensures c.args.row.opcode f)

pub returns-in-Heap : goal.returns-in-Heap
returns-in-Heap c = λ w i. token_is w c.args.words.now c.args.row kind.Heap c.null.result i c.in-Heap.is (λ f. c.null.ensures c.args.row.opcode f)
