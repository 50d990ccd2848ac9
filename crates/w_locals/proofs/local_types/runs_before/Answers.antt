use Rattle.std.proofs.Common.{leb, leb-true, leb-false, ℕ, arith, rules}
use Rattle.std.proofs.lemmas.List.Sorted.{IsPartitionPoint-from_clause, IsPartitionedBy-leb}
use Rattle.w_locals.proofs.local_types.runs_before.Goals as goal

pub returns : goal.returns
returns c =
    let parted = IsPartitionedBy-leb (λ (y : ℕ). y) _ c.args.local c.requires in
    let point = IsPartitionPoint-from_clause (λ (y : ℕ). leb y c.args.local) _ _ c.partition_point.ensures.partitioned parted (λ a r q k. search rules) in
    (λ k h. leb-true _ _ (point.0 k 0 (omega arith) h), λ k h l. leb-false _ _ (point.1 k 0 h l))
