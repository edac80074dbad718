use Rattle.std.proofs.lemmas.List.Sorted.{IsPermutation-trans}
use Rattle.heap.proofs.Moves.{sink_more, sink_rests, sink_ends}
use Rattle.heap.proofs.sifts.sift_down.Goals as goal

pub returns-then-not-is_below : goal.returns-then-not-is_below
returns-then-not-is_below g c =
    let inv = c.loop-place.invariant in
    record {
      shuffled = inv.0;
      heaped =
          sink_rests g.T.Ord.cmp c.args.items.now c.loop-place.items c.args.at c.loop-place.place c.least_child-child.result
          c.least_child-child.ensures c.if-not-is_below.ensures inv.1;
    }

pub loop-place-preserved : goal.loop-place-preserved
loop-place-preserved g c =
    let xs = c.args.items.now in
    let ys = c.loop-place.items in
    let zs = c.swap.new.self in
    let inv = c.loop-place.invariant in (
      IsPermutation-trans xs ys zs inv.0 c.swap.ensures.permutation,
      sink_more g.T.Ord.cmp xs ys zs c.args.at c.loop-place.place c.least_child-child.result c.swap.ensures.len
          c.swap.ensures.by_index c.least_child-child.ensures c.if-not-is_below.ensures inv.1,
    )

pub returns : goal.returns
returns g c =
    let inv = c.loop-place.invariant in
    record {
      shuffled = inv.0;
      heaped =
          sink_ends g.T.Ord.cmp c.args.items.now c.loop-place.items c.args.at c.loop-place.place c.loop-place-test.false inv.1;
    }
