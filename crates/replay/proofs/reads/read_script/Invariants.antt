use Rattle.std.proofs.Common.{◌≡◌, ◌-◌, length, vec_items}
use Rattle.frames.specs.Handed.{place_of, script_of}
use Rattle.replay.proofs.Reading.{SoFar}
use Rattle.replay.proofs.reads.read_script.Given as goal

abbrev pub invariant-loop-next : goal.invariant-loop-next
invariant-loop-next l = (script_of l.reader ≡ l.script) × SoFar l.script (place_of l.reader) (vec_items l.calls)

abbrev pub decreases-loop-next : goal.decreases-loop-next
decreases-loop-next l = length l.script - place_of l.reader
