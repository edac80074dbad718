use Rattle.std.proofs.Common.{vec_items}
use Rattle.assembly.proofs.Loop.{SoFar}
use Rattle.assembly.proofs.script.assemble.Given as goal

abbrev pub invariant-loop-i : goal.invariant-loop-i
invariant-loop-i l =
    (goal.iterator-loop-i).can_next l.i-iterator × (goal.iterator-loop-i).is_finite l.i-iterator
    × SoFar (goal.iterator-loop-i).next_gives l.text l.i-iterator (vec_items l.script)
