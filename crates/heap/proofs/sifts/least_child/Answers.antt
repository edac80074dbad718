use Rattle.std.proofs.Common.{arith}
use Rattle.heap.proofs.Moves.{left_only, left_least, right_least}
use Rattle.heap.proofs.sifts.least_child.Goals as goal
use Rattle.heap.proofs.sifts.least_child.Goals.{else-left-items-via-then-left-items+else-is_below, else-left-items-via-else-left-items}

pub returns-then-is_below : goal.returns-then-is_below
returns-then-is_below g c = right_least g.T.Ord.cmp c.args.items.now c.args.at (omega arith) c.if-is_below.ensures

pub returns-else-left-items : goal.returns-else-left-items
returns-else-left-items g c =
    elim c.else-left-items.branch [
      | else-left-items-via-then-left-items+else-is_below w ↦
          left_least g.T.Ord.cmp c.args.items.now c.args.at (omega arith) w.if-is_below.ensures
      | else-left-items-via-else-left-items w ↦
          left_only g.T.Ord.cmp c.args.items.now c.args.at (omega arith) w.if-left-items.false
    ]
