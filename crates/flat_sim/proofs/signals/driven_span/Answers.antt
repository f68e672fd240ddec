use Rattle.std.proofs.Common.{rules, of_calls}
use Rattle.std.specs.Prelude.{nat_lt, nat_le}
use Rattle.std.proofs.lemmas.List.Sorted.{IsPartitionPoint-from_clause, IsPartitionedBy-ltb, IsPartitionedBy-leb}
use Rattle.netlist.specs.declared.design.DrivenPart.{DrivenPart}
use Rattle.flat_sim.proofs.Parts.{in_order, span_found, blank_driven}
use Rattle.flat_sim.proofs.signals.driven_span.Goals as goal

pub returns : goal.returns
returns c =
    let xs = c.args.parts.now in
    let t = c.args.signal in
    let of = λ (p : DrivenPart). p.range.signal in
    let sorted = in_order (λ (p : DrivenPart). p.range) xs c.requires in
    let low = IsPartitionPoint-from_clause (λ (p : DrivenPart). nat_lt (of p) t) xs c.partition_point-from.result
    c.partition_point-from.ensures.partitioned (IsPartitionedBy-ltb of xs t sorted)
    (λ a r f k. search (rules, of_calls)) in
    let high = IsPartitionPoint-from_clause (λ (p : DrivenPart). nat_le (of p) t) xs c.partition_point-to.result
    c.partition_point-to.ensures.partitioned (IsPartitionedBy-leb of xs t sorted)
    (λ a r f k. search (rules, of_calls)) in
    span_found of xs t (record { from = c.partition_point-from.result; to = c.partition_point-to.result }) blank_driven
    c.partition_point-from.ensures.bound c.partition_point-to.ensures.bound low high
