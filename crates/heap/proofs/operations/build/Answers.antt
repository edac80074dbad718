use Rattle.std.proofs.Common.{◌-◌, arith}
use Rattle.std.proofs.lemmas.List.Sorted.{IsPermutation-trans}
use Rattle.heap.proofs.Parts.{built_but, built_under}
use Rattle.heap.proofs.operations.build.Goals as goal

pub loop-at-preserved : goal.loop-at-preserved
loop-at-preserved g c =
    let ys = c.loop-at.items in
    let j = c.loop-at.at in (
      IsPermutation-trans c.args.items.now ys c.sift_down.new.items c.loop-at.invariant.0 c.sift_down.ensures.shuffled,
      λ o. c.sift_down.ensures.heaped o (j - 1) (built_but o ys j c.loop-at-test.true (c.loop-at.invariant.1 o)) (built_under o ys (j - 1)),
    )

pub returns-clause-heaped : goal.returns-clause-heaped
returns-clause-heaped g c = λ o k d a b _. c.loop-at.invariant.1 o k d a b (omega arith)
