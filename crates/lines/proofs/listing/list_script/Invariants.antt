use Rattle.std.proofs.Common.{◌≡◌, string_bytes}
use Rattle.std.specs.Iterator.Adapters.{enumerate_count, enumerate_source}
use Rattle.frames.specs.Handed.{place_of, script_of}
use Rattle.lines.proofs.Loop.{SoFar}
use Rattle.lines.proofs.listing.list_script.Given as goal

abbrev pub invariant-loop-i : goal.invariant-loop-i
invariant-loop-i l =
    (goal.iterator-loop-i).can_next l.i-iterator × (goal.iterator-loop-i).is_finite l.i-iterator
    × (script_of (enumerate_source l.i-iterator) ≡ l.script)
    × SoFar l.script (place_of (enumerate_source l.i-iterator)) (enumerate_count l.i-iterator) (string_bytes l.text)
