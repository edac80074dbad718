use Rattle.std.specs.Cmp.{IsTotalOrder}
use Rattle.std.specs.List.Sorted.{IsPermutation}
use Rattle.heap.specs.Heaps.{HeapedFrom}
use Rattle.heap.proofs.operations.build.Given as goal

abbrev pub invariant-loop-at : goal.invariant-loop-at
invariant-loop-at g l = IsPermutation l.initial.items l.items × ((o : IsTotalOrder g.T.Ord.cmp) → HeapedFrom o l.«at» l.items)

abbrev pub decreases-loop-at : goal.decreases-loop-at
decreases-loop-at g l = l.«at»
