-- The places that blocks and ifs name are numbers of 32 bits.
use Rattle.std.proofs.Common.{◌<◌, ℕ, Option, Some, arith}
use Rattle.std.specs.Prelude.{◌^◌}
use Rattle.w_syntax.specs.declared.instructions.BlockKind.{BlockKind}
use Rattle.w_syntax.specs.declared.instructions.BlockType.{BlockType}
use Rattle.w_syntax.specs.declared.instructions.Instr.TheVariants as flat
use Rattle.w_syntax.specs.declared.module.Module.{Module}
use Rattle.w_segment.specs.Shape.{Shape}
use Rattle.w_tables.specs.Store as instances
use Rattle.w_stands.specs.Steps.{MovesAt}
use Rattle.w_control_ops.proofs.Blocks.{block_end}
use Rattle.w_control_ops.proofs.Choices.{choice_end, choice_start}
use Rattle.w_plain.proofs.Steps.{alone}

-- where a block ends
pub block_fits : {m : Module} {u : instances.Store} {s : Shape} {k : BlockKind} {b : BlockType} {z : ℕ} → MovesAt (flat.Block k b z) m u s → z < 2 ^ 32
block_fits {m} {u} {s} {k} {b} {z} h = let e = block_end m s k b z (alone h) in omega (arith, e)

-- where an if does
pub if_fits : {m : Module} {u : instances.Store} {s : Shape} {b : BlockType} {y : Option ℕ} {z : ℕ} → MovesAt (flat.If b y z) m u s → z < 2 ^ 32
if_fits {m} {u} {s} {b} {y} {z} h = let e = choice_end m s b y z (alone h) in omega (arith, e)

-- where its else stands
pub else_fits : {m : Module} {u : instances.Store} {s : Shape} {b : BlockType} {y z : ℕ} → MovesAt (flat.If b (Some y) z) m u s → y < 2 ^ 32
else_fits {m} {u} {s} {b} {y} {z} h = let e = choice_start m s b (Some y) z (alone h) 0 in omega (arith, e)
