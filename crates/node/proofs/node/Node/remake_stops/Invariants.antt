use Rattle.std.proofs.Common.{Ok}
use Rattle.node.specs.Remaking.{Grows}
use Rattle.node.proofs.node.Node.remake_stops.Given as goal

abbrev pub invariant-loop-stop : goal.invariant-loop-stop
invariant-loop-stop g l = Grows g.S.Store g.N.NameSet g.C.Computation l.initial.self l.self 0 l.stop (Ok tt)
