use Rattle.std.proofs.Common.{sym, ◌∙◌, rules}
use Rattle.std.proofs.lemmas.List.Sorted.{IsPartitionPoint-from_clause}
use Rattle.sorted_names.specs.Order.{before}
use Rattle.sorted_names.proofs.Ordered.{before_cmp}
use Rattle.sorted_names.proofs.Searching.{parted, splits_at}
use Rattle.sorted_names.proofs.order.place_of.Goals as goal

pub returns : goal.returns
returns c =
    let found = c.partition_point.ensures in
    splits_at _ c.requires _ _ found.bound
    (IsPartitionPoint-from_clause (λ y. before y c.args.q.now) _ _ found.partitioned (parted _ c.requires _)
    (λ a r f called. (search rules ∙ sym (before_cmp a.0.now c.args.q.now), search rules)))
