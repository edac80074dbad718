use Rattle.std.proofs.Common.{◌++◌, take, ap, ◌∙◌, arith}
use Rattle.std.proofs.lemmas.List.{take_all, length-take-le}
use Rattle.bounded.specs.Lists.{listed}
use Rattle.bounded.proofs.Cuts.{uncut, pushed_more}
use Rattle.bounded.proofs.list.Bounded.extend.Goals as goal

pub loop-item-init : goal.loop-item-init
loop-item-init g c =
    let self = c.args.self.now in
    uncut g.row.N (listed self) (omega (arith, length-take-le self.count self.items (omega (arith, self.sized, self.within)), self.within))

pub loop-item-preserved : goal.loop-item-preserved
loop-item-preserved g c =
    c.push.ensures.items
    ∙ pushed_more g.row.N (listed c.args.self.now) c.args.more.now _ c.loop-item.item-index c.item-item.result
    c.loop-item-test.true c.item-item.is c.loop-item.invariant

pub returns : goal.returns
returns g c =
    c.loop-item.invariant ∙ ap (λ ws. take g.row.N (listed c.args.self.now ++ ws)) (take_all c.loop-item.item-index c.args.more.now c.loop-item-test.false)
