use Rattle.std.proofs.Common.{◌≡◌, true}
use Rattle.model.specs.OnBytes.{on_bytes}
use Rattle.law.specs.Node.{Node as LawNode}
use Rattle.law.specs.Stops.{low_below}
use Rattle.node.specs.Promises.{Stays}
use Rattle.node.specs.Shows.{Shows}
use Rattle.node.proofs.node.Node.low_watermark.Given as goal

abbrev pub invariant-loop-stop : goal.invariant-loop-stop
invariant-loop-stop g l =
    Stays g.S.Store g.N.NameSet g.C.Computation l.initial.self l.self
    × ((n : LawNode) → Shows g.S.Store g.N.NameSet g.C.Computation l.initial.self n → n.power.on ≡ true → l.low ≡ low_below (on_bytes g.C.Computation.operations) n.row n.w l.stop)
