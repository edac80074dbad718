use Rattle.std.proofs.Common.{◌≡◌, Some, arith, sym, ap, ◌∙◌, subst}
use Rattle.model.specs.OnBytes.{on_bytes}
use Rattle.model.specs.Store.{Stored}
use Rattle.ledger.specs.Kept.{Kept}
use Rattle.node.specs.Remaking.{ShowsBelow}
use Rattle.node.proofs.Remaking.{follows_none, follows_all}
use Rattle.node.proofs.node.Node.remake.Goals as goal

pub returns : goal.returns
returns g c = λ n kept₀ on queue_is.
    let store = g.S.Store in
    let set = g.N.NameSet in
    let computation = g.C.Computation in
    let ops = on_bytes computation.operations in
    let emptied = c.empty.ensures in
    let kept = subst (λ s. Kept (store.model s) n) (sym emptied.store_is) kept₀ in
    let read = c.read_watermark.ensures.reads in
    let got : c.read_watermark.result ≡ Some c.in_ok-self.field-0 = grind arith in
    let w-is : c.in_ok-self.field-0 ≡ n.w = (let e = sym got ∙ read.watermark n kept on in cc) in
    let first : ShowsBelow store set computation 0 _ n =
    record {
      kept = subst (λ (x : Stored). Kept x n) (sym read.means) kept;
      on = on;
      follows = follows_none ops _ n emptied.names emptied.queue w-is;
    } in
    let last = c.remake_stops.ensures.shows n first in
    record {
      all = c.remake_stops.ensures.all n first;
      shows = record {
        kept = last.kept;
        follows = λ _. follows_all ops _ n queue_is last.follows;
      };
      means = c.remake_stops.ensures.means ∙ read.means ∙ ap store.model emptied.store_is;
    }
