use Rattle.std.proofs.Common.{◌≡◌, ℕ, ◌*◌, ◌<◌, get_or, take}
use lib.Seq.{paste}
use Rattle.std.specs.List.{flat_map}
use Rattle.rows.proofs.entries.put_entries.Given as goal

abbrev pub invariant-loop-i : goal.invariant-loop-i
invariant-loop-i g l =
    ((k : ℕ) → k < l.i → (d : g.row.E.Denot) → g.E.Entry.fits (get_or l.entries k d))
    × (l.out ≡ paste l.initial.out l.at (flat_map g.E.Entry.bytes_of (take l.i l.entries)) (g.E.Entry.SIZE * l.i))
