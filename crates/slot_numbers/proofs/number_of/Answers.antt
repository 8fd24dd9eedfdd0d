-- The point up to which the ascending items are at most the slot is the number counted.
use Rattle.std.proofs.Common.{rules, leb}
use Rattle.std.proofs.lemmas.List.Sorted.{IsPartitionPoint-from_clause, IsPartitionedBy-leb}
use Rattle.slot_numbers.proofs.Numbering.{number_split, ascend_non_decreasing}
use Rattle.slot_numbers.proofs.number_of.Goals as goal

pub returns : goal.returns
returns c =
    let l = c.args.work.now in
    let s = c.args.slot in
    let point = IsPartitionPoint-from_clause (λ y. leb y s) l c.partition_point.result c.partition_point.ensures.partitioned (IsPartitionedBy-leb (λ y. y) l s (ascend_non_decreasing l c.requires)) (λ a r f h. search rules) in
    number_split l s c.partition_point.result c.partition_point.ensures.bound point
