use Rattle.bloom.proofs.Marking.{added_marked}
use Rattle.bloom.proofs.layer.calls.BloomNameSet.add.Goals as goal

pub invariant_of-self : goal.invariant_of-self
invariant_of-self g c = record { marked = added_marked _ _ c.args.self.now.marked c.add-answer.ensures c.in-Done.is c.set_all.ensures }
