use Rattle.std.proofs.Common.{◌≡◌, ◌++◌, take}
use Rattle.bounded.specs.Lists.{listed}
use Rattle.bounded.proofs.list.Bounded.extend.Given as goal

abbrev pub invariant-loop-item : goal.invariant-loop-item
invariant-loop-item g l = listed l.self ≡ take g.row.N (listed l.initial.self ++ take l.item-index l.more)
