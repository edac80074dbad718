use Rattle.std.proofs.Common.{refl}
use Rattle.names.proofs.Adding.{filling_none, filling_more, filled, overfull}
use Rattle.names.proofs.fill.add_all.Goals as goal

pub loop-name-init : goal.loop-name-init
loop-name-init g c = filling_none _ _ _

pub returns-in-Full : goal.returns-in-Full
returns-in-Full g c = overfull c.loop-name.invariant c.add.ensures c.in-Full.is c.loop-name-test.true

pub loop-name-preserved : goal.loop-name-preserved
loop-name-preserved g c =
    filling_more (record { sender = 0; serial = 0; time = 0 }) c.loop-name.invariant c.add.ensures c.in_default.not-Full c.loop-name-test.true refl

pub returns : goal.returns
returns g c = filled c.loop-name.invariant c.loop-name.auto.name-index-end c.loop-name-test.false
