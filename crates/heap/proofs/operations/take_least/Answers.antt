use Rattle.heap.proofs.Parts.{taken_least, short_heap}
use Rattle.heap.proofs.operations.take_least.Goals as goal

pub returns : goal.returns
returns g c =
    let xs = c.args.items.now in
    let e = c.take_at.ensures in
    record {
      shuffled = e.shuffled;
      least = λ o d z h. taken_least o xs _ d (λ b. e.last b z) h;
      heaped = λ o h. short_heap o xs _ (λ z. e.heaped o z h) e.shuffled;
    }
