use Rattle.std.proofs.Common.{sym, subst}
use Rattle.std.specs.List.Sorted.{IsPermutation}
use Rattle.std.proofs.lemmas.List.{set_past}
use Rattle.std.proofs.lemmas.List.Sorted.{IsPermutation-refl}
use Rattle.heap.proofs.Parts.{but_changed}
use Rattle.heap.proofs.operations.change_at.Goals as goal

pub returns-then-at-items : goal.returns-then-at-items
returns-then-at-items g c =
    record {
      shuffled = c.mend.ensures.shuffled;
      heaped = λ o h. c.mend.ensures.heaped o (but_changed o c.args.items.now c.args.at c.args.item h);
    }

pub returns-else-at-items : goal.returns-else-at-items
returns-else-at-items g c =
    let xs = c.args.items.now in
    let same = set_past xs c.args.at c.args.item c.if-at-items.false in
    record {
      shuffled = subst (λ ys. IsPermutation ys xs) (sym same) (IsPermutation-refl xs);
      heaped = λ o h. h;
    }
