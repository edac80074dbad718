use Rattle.std.proofs.Common.{◌∙◌, refl, sym, ap, true, false, filter}
use Rattle.std.proofs.lemmas.Fn.{says_at}
use Rattle.std.proofs.lemmas.List.{take_all}
use Rattle.bounded.specs.Lists.{listed}
use Rattle.bounded.proofs.Cuts.{kept_more}
use Rattle.bounded.proofs.list.Bounded.retain.Goals as goal
use Rattle.bounded.proofs.list.Bounded.retain.Goals.{then-passes, else-passes}

pub loop-old-preserved : goal.loop-old-preserved
loop-old-preserved g c = λ test says.
    let more = kept_more g.row.N test c.as_slice-old-items.result.now (listed c.loop-old.self) c.loop-old.old-index c.old-item.result
    c.loop-old-test.true c.as_slice-old-items.ensures.bound c.old-item.is (c.loop-old.invariant test says) in
    let said = says c.old-item.result c.keep-passes.result (says_at g.F.Fn c.keep-passes.ensures refl) in
    elim c.if-passes.branch [
      | then-passes w ↦ ap listed w.self-is ∙ w.push.ensures.items ∙ more true (sym w.if-passes.true ∙ said)
      | else-passes w ↦ ap listed w.self-is ∙ more false (sym w.if-passes.false ∙ said)
    ]

pub returns : goal.returns
returns g c = λ test says.
    c.loop-old.invariant test says
    ∙ ap (filter test) (take_all c.loop-old.old-index c.as_slice-old-items.result.now c.loop-old-test.false ∙ c.as_slice-old-items.ensures.value ∙ c.emptied-before.ensures.before)
