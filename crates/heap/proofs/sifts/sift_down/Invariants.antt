use Rattle.std.proofs.Common.{◌-◌, length}
use Rattle.std.specs.List.Sorted.{IsPermutation}
use Rattle.heap.proofs.Moves.{Sinking}
use Rattle.heap.proofs.sifts.sift_down.Given as goal

abbrev pub invariant-loop-place : goal.invariant-loop-place
invariant-loop-place g l = IsPermutation l.initial.items l.items × Sinking g.T.Ord.cmp l.initial.items l.at l.items l.place

abbrev pub decreases-loop-place : goal.decreases-loop-place
decreases-loop-place g l = length l.initial.items - l.place
