use Rattle.std.proofs.Common.{arith}
use Rattle.heap.proofs.Parts.{but_last, last_over}
use Rattle.heap.proofs.operations.put_in.Goals as goal

pub returns-then-count-gt0 : goal.returns-then-count-gt0
returns-then-count-gt0 g c =
    let xs = c.args.items.now in
    record {
      shuffled = c.sift_up.ensures.shuffled;
      heaped = λ o h. c.sift_up.ensures.heaped o (omega arith) (but_last o xs h) (last_over o xs);
    }
