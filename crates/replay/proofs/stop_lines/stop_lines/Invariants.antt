use Rattle.std.proofs.Common.{◌≡◌, string_bytes}
use Rattle.law.specs.Pair.{Pair}
use Rattle.pair.specs.Shows.{Shows}
use Rattle.pair.specs.Tallies.{measured, told_of}
use Rattle.replay.specs.Stops.{stops_below}
use Rattle.replay.proofs.stop_lines.stop_lines.Given as goal

abbrev pub invariant-loop-stop : goal.invariant-loop-stop
invariant-loop-stop g l =
    ((p : Pair) → Shows g.S.Store g.N.NameSet g.C.Computation g.T.Store g.O.NameSet g.D.Computation l.initial.pair p
    → Shows g.S.Store g.N.NameSet g.C.Computation g.T.Store g.O.NameSet g.D.Computation l.pair p)
    × ((p : Pair) → Shows g.S.Store g.N.NameSet g.C.Computation g.T.Store g.O.NameSet g.D.Computation l.initial.pair p
    → string_bytes l.text ≡ stops_below (told_of (measured g.C.Computation g.C.Conserving.holds) (measured g.D.Computation g.D.Totalling.totals) p) l.stop)
