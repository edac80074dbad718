use Rattle.std.proofs.Common.{◌≡◌, ◌+◌, ◌*◌, map}
use Rattle.std.specs.List.{range_with_len}
use Rattle.bounded.specs.Lists.{listed}
use Rattle.rows.proofs.entries.entries_in.Given as goal

abbrev pub invariant-loop-i : goal.invariant-loop-i
invariant-loop-i g l = listed l.list ≡ map (λ i. g.E.Entry.entry_in l.bytes (l.at + g.E.Entry.SIZE * i)) (range_with_len 0 l.i)
