-- What the formats of instructions give: that their numbers are in their ranges.
use Rattle.std.proofs.Common.{refl}
use Rattle.std.proofs.lemmas.Bool.{ltb-true}
use Rattle.w_leb.specs.Formats.{number, ◌⊗◌}
use Rattle.w_leb.specs.CanonicalTableLaws.{◌&◌}
use Rattle.w_syntax.specs.declared.numeric.NumericOp.{NumericOp}
use Rattle.w_syntax.specs.declared.instructions.Op.TheVariants as op
use Rattle.w_syntax.specs.declared.instructions.BlockType.TheVariants as block
use Rattle.w_syntax.specs.Types.{entries_of, valtypes}
use Rattle.w_syntax.specs.Tokens.{arithmetics, arithmetic, comparisons, comparison, numerics, numeric_op, memarg, accesses, bulks, bulk, controls, clauses, hdl, plain, others, other, instruction, blocktypes, blocktype, tokens_by_byte, token}
use Rattle.w_words.specs.Numbers.{Index32}
use Rattle.w_words.specs.Types.{BlockFits}
use Rattle.w_words.specs.Clauses.{ClauseFits}
use Rattle.w_lines.specs.Instructions.{ArgFits, OpFits, TokenFits}
use Rattle.w_spelled.proofs.Given.{Gives, AllGive, weaker, of_constant, of_number, of_signed, of_image, of_pair, of_such, of_vec, of_table, of_table_or, of_choice, of_entries}
use Rattle.w_spelled.proofs.TypesGiven.{type_index_given, heaptype_given, valtypes_give, valtype_given}

index_given : Gives (number 32) Index32
index_given = of_number 32

two_given : Gives (number 32 ⊗ number 32) (λ p. Index32 p.0 × Index32 p.1)
two_given = of_pair index_given index_given

-- ## Numeric instructions

abbrev NumericFits : NumericOp → Type 0
NumericFits o = OpFits (op.Numeric o)

arithmetic_given : Gives arithmetic NumericFits
unfolding arithmetic
arithmetic_given = of_table arithmetics
    (of_constant tt
    & of_constant tt
    & of_constant tt
    & of_constant tt
    & of_constant tt
    & of_constant tt
    & of_constant tt
    & of_constant tt
    & of_constant tt
    & of_constant tt
    & of_constant tt
    & of_constant tt
    & of_constant tt
    & of_constant tt
    & of_constant tt
    & of_constant tt
    & of_constant tt
    & of_constant tt
    & of_constant tt
    & of_constant tt
    & of_constant tt
    & of_constant tt
    & of_constant tt
    & of_constant tt
    & of_constant tt
    & of_constant tt
    & of_constant tt
    & of_constant tt
    & of_constant tt
    & of_constant tt
    & of_constant tt
    & of_constant tt
    & of_constant tt
    & of_constant tt
    & of_constant tt
    & of_constant tt
    & tt)

comparison_given : Gives comparison NumericFits
unfolding comparison
comparison_given = of_table_or comparisons _
    (of_constant tt
    & of_constant tt
    & of_constant tt
    & of_constant tt
    & of_constant tt
    & of_constant tt
    & of_constant tt
    & of_constant tt
    & of_constant tt
    & of_constant tt
    & of_constant tt
    & of_constant tt
    & of_constant tt
    & of_constant tt
    & of_constant tt
    & of_constant tt
    & of_constant tt
    & of_constant tt
    & of_constant tt
    & of_constant tt
    & tt)
    arithmetic_given

numeric_given : Gives numeric_op NumericFits
unfolding numeric_op
numeric_given = of_table_or numerics _
    (of_image (of_signed 32)
    & of_image (of_signed 64)
    & of_constant tt
    & of_constant tt
    & of_constant tt
    & of_constant tt
    & of_constant tt
    & of_constant tt
    & of_constant tt
    & of_constant tt
    & of_constant tt
    & of_constant tt
    & tt)
    comparison_given

-- ## Memory instructions

memarg_given : Gives memarg ArgFits
unfolding memarg
memarg_given = of_image (weaker (λ p h. (h.0, refl, h.1)) (of_pair (weaker (λ n h. ltb-true n 64 h.1) (of_such index_given)) (of_number 64)))

accesses_give : AllGive accesses (λ o. OpFits (op.Memory o))
accesses_give =
    of_image memarg_given
    & of_image memarg_given
    & of_image memarg_given
    & of_image memarg_given
    & of_image memarg_given
    & of_image memarg_given
    & of_image memarg_given
    & of_image memarg_given
    & of_image memarg_given
    & of_image memarg_given
    & of_image memarg_given
    & of_image memarg_given
    & of_image memarg_given
    & of_image memarg_given
    & of_image memarg_given
    & of_image memarg_given
    & of_image memarg_given
    & of_image memarg_given
    & of_image memarg_given
    & of_image index_given
    & of_image index_given
    & tt

bulk_given : Gives bulk OpFits
unfolding bulk
bulk_given = of_choice bulks
    (of_image two_given
    & of_image index_given
    & of_image two_given
    & of_image index_given
    & of_image two_given
    & of_image index_given
    & of_image two_given
    & of_image index_given
    & of_image index_given
    & of_image index_given
    & tt)

-- ## Control instructions, and clauses of handlers

controls_give : AllGive controls (λ o. OpFits (op.Control o))
controls_give =
    of_constant tt
    & of_constant tt
    & of_image index_given
    & of_image index_given
    & of_image (of_pair (of_vec index_given) index_given)
    & of_constant tt
    & of_image index_given
    & of_image two_given
    & of_image index_given
    & of_image two_given
    & of_image index_given
    & of_image index_given
    & of_image index_given
    & of_image index_given
    & tt

hdl_given : Gives hdl ClauseFits
unfolding hdl
hdl_given = of_table clauses (of_image two_given & of_image index_given & tt)

-- ## All instructions that hold no others

plain_given : Gives plain OpFits
unfolding plain
plain_given = of_table_or (entries_of op.Memory accesses) _ (of_entries accesses op.Memory OpFits accesses_give) (of_image numeric_given)

other_given : Gives other OpFits
unfolding other
other_given = of_table_or others _
    (of_constant tt
    & of_constant tt
    & of_image (of_vec valtype_given)
    & of_image index_given
    & of_image index_given
    & of_image index_given
    & of_image index_given
    & of_image index_given
    & of_image index_given
    & of_image index_given
    & of_image heaptype_given
    & of_constant tt
    & of_image index_given
    & of_constant tt
    & of_image index_given
    & of_image two_given
    & of_image index_given
    & of_image (of_pair index_given (of_vec hdl_given))
    & of_image two_given
    & bulk_given
    & tt)
    plain_given

instruction_given : Gives instruction OpFits
unfolding instruction
instruction_given = of_table_or (entries_of op.Control controls) _ (of_entries controls op.Control OpFits controls_give) other_given

-- ## Blocks

blocktype_given : Gives blocktype BlockFits
unfolding blocktype
blocktype_given = of_table_or blocktypes _ (of_constant tt & of_entries valtypes block.Value BlockFits valtypes_give) (of_image type_index_given)

pub token_given : Gives token TokenFits
unfolding token
token_given = of_table_or tokens_by_byte _
    (of_image blocktype_given
    & of_image blocktype_given
    & of_image blocktype_given
    & of_constant tt
    & of_constant tt
    & tt)
    (of_image instruction_given)
