use Rattle.std.proofs.Common.{◌≡◌, ℕ, ◌-◌, length, take, sym, ap, subst, arith}
use Rattle.heap.specs.Heaps.{Heaped}
use Rattle.heap.proofs.Parts.{but_swapped, out_shuffled, out_last, out_front}
use Rattle.heap.proofs.operations.take_at.Goals as goal

pub returns : goal.returns
returns g c =
    let xs = c.args.items.now in
    let ys = c.swap.new.self in
    let ws = c.mend.new.items in
    let j = c.args.at in
    let m : ℕ = length xs - 1 - 0 in
    let end : m ≡ length xs - 1 = omega arith in
    let e = c.swap.ensures in
    let inside = c.if-at-count.false in
    record {
      shuffled = out_shuffled xs ys ws j m inside end e.len e.by_index e.permutation c.mend.ensures.shuffled;
      last = λ d _. out_last xs ys ws j m inside end e.len e.by_index e.permutation c.mend.ensures.shuffled d;
      heaped = λ o _ h.
          subst (Heaped o) (sym (out_front xs ys ws j m inside end e.len e.by_index e.permutation c.mend.ensures.shuffled))
          (c.mend.ensures.heaped o (but_swapped o xs ys (take m ys) j inside e.len e.by_index (ap (λ n. take n ys) end) h));
      past = λ p. absurd (omega arith);
    }
