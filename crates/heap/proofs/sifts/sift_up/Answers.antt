use Rattle.std.proofs.Common.{arith}
use Rattle.std.proofs.lemmas.List.Sorted.{IsPermutation-trans}
use Rattle.heap.proofs.Moves.{rise_more, rise_rests}
use Rattle.heap.proofs.sifts.sift_up.Goals as goal

pub loop-place-preserved : goal.loop-place-preserved
loop-place-preserved g c =
    let xs = c.args.items.now in
    let ys = c.loop-place.items in
    let zs = c.swap.new.self in
    let inv = c.loop-place.invariant in (
      omega (arith, inv.0, c.swap.ensures.len),
      IsPermutation-trans xs ys zs inv.1 c.swap.ensures.permutation,
      rise_more g.T.Ord.cmp xs ys zs c.args.at c.loop-place.place c.loop-place-test.true inv.0 c.swap.ensures.len
          c.swap.ensures.by_index c.if-is_below.ensures inv.2,
    )

pub returns-else-is_below : goal.returns-else-is_below
returns-else-is_below g c =
    let inv = c.loop-place.invariant in
    record {
      shuffled = inv.1;
      heaped = rise_rests g.T.Ord.cmp c.args.items.now c.loop-place.items c.args.at c.loop-place.place c.if-is_below.ensures inv.2;
    }
