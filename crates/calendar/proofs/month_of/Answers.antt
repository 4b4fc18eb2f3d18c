use Rattle.std.proofs.Common.{rules, ◌≡◌, ℕ, ◌-◌, ◌≤◌}
use Rattle.std.proofs.lemmas.List.Sorted.{IsPartitionPoint-from_clause}
use Rattle.calendar.specs.Calendar.{month_of}
use Rattle.calendar.proofs.MonthTable.{table, begun, table-parted, month-found}
use Rattle.calendar.proofs.month_of.Goals as goal
use Rattle.calendar.proofs.month_of.Goals.{After-partition_point-begun}

found : (c : After-partition_point-begun) → (1 ≤ c.partition_point-begun.result) × (c.partition_point-begun.result - 1 ≡ month_of c.args.day)
unfolding table
found c =
    let e = c.partition_point-begun.ensures in
    let day : ℕ = c.args.day in
    month-found day _ e.bound (IsPartitionPoint-from_clause (begun day) table _ e.partitioned (table-parted day) (λ a r f' k. search rules))

pub overflow_sub-result : goal.overflow_sub-result
overflow_sub-result c = (found (goal.at.overflow_sub-result c).After-partition_point-begun).0

pub returns : goal.returns
returns c = (found (goal.at.returns c).After-partition_point-begun).1
