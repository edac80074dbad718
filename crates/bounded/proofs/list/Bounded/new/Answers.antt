use lib.ListN.{length-replicate}
use Rattle.bounded.proofs.list.Bounded.new.Goals as goal

pub invariant_of-result-clause-sized : goal.invariant_of-result-clause-sized
invariant_of-result-clause-sized g c = length-replicate g.row.N c.args.filler
