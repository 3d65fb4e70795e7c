use Rattle.std.proofs.Common.{◌≤◌, length, nat_le, rules, arith}
use Rattle.std.specs.List.Sorted.{IsPartitionPoint}
use Rattle.std.proofs.Common.{◌≡◌, true, false}
use Rattle.std.proofs.lemmas.List.Sorted.{IsPartitionPoint-from_clause, IsPartitionedBy-leb}
use Rattle.cl_control.proofs.Waiters.{take-up_to, drop-above}
use Rattle.cl_control.proofs.waiting.count_up_to.Goals as goal

-- each call of the closure compares the number
parts : (c : goal.After-partition_point) →
    IsPartitionPoint (λ told. nat_le told.number c.args.number ≡ true) (λ told. nat_le told.number c.args.number ≡ false) c.args.waiting.now.items c.partition_point.result
parts c =
    IsPartitionPoint-from_clause (λ told. nat_le told.number c.args.number) c.args.waiting.now.items c.partition_point.result c.partition_point.ensures.partitioned
    (IsPartitionedBy-leb (λ told. told.number) c.args.waiting.now.items c.args.number c.requires) (λ a r q k. search rules)

pub returns-clause-first : goal.returns-clause-first
returns-clause-first c =
    let within : c.partition_point.result ≤ length c.args.waiting.now.items = omega (arith, c.partition_point.ensures.bound, c.args.waiting.now.ok) in
    take-up_to c.args.number c.args.waiting.now.items c.partition_point.result within (parts c)

pub returns-clause-rest : goal.returns-clause-rest
returns-clause-rest c =
    let within : c.partition_point.result ≤ length c.args.waiting.now.items = omega (arith, c.partition_point.ensures.bound, c.args.waiting.now.ok) in
    drop-above c.args.number c.args.waiting.now.items c.partition_point.result within (parts c)
