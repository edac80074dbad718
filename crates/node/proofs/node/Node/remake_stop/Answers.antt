use Rattle.std.proofs.Common.{◌≡◌, Some, arith, sym, refl, ap, ◌∙◌, subst}
use Rattle.model.specs.OnBytes.{on_bytes}
use Rattle.model.specs.Row.{Row}
use Rattle.model.specs.Store.{Stored}
use Rattle.law.specs.Node.{requeued}
use Rattle.model.specs.Row.{oldest}
use Rattle.ledger.specs.Kept.{Kept}
use Rattle.std.specs.Option.{option_map}
use Rattle.names.specs.Fill.{AddedAll}
use Rattle.rows.specs.Meaning.{row_of}
use Rattle.queue.specs.Lines.{lined}
use Rattle.node.specs.Shows.{beside_of}
use Rattle.node.proofs.Remaking.{same_added, follows_more}
use Rattle.node.proofs.Showing.{read_is}
use Rattle.node.proofs.node.Node.remake_stop.Goals as goal

pub returns : goal.returns
returns g c = λ below.
    let store = g.S.Store in
    let set = g.N.NameSet in
    let computation = g.C.Computation in
    let ops = on_bytes computation.operations in
    let v = c.args.self.now in
    let v' = c.follow.new.self in
    let followed = c.follow.ensures in
    let i = c.args.stop in
    let row = c.in_ok-row.row in
    let read = c.read_row.ensures.reads in
    let got : c.read_row.result ≡ Some row = grind arith in
    let means = ap store.model followed.store_is ∙ read.means in
    record {
      all = λ n shows. refl;
      shows = λ n shows.
          let row_is = read_is row (n.row i) (ap (option_map row_of) (sym got) ∙ read.row n shows.kept shows.on below) in
          let names-are = c.names.ensures ∙ ap (λ (r : Row). r.names) row_is in
          let added = same_added names-are c.add_all.ensures in
          let all-added = subst (λ x. AddedAll (set.meaning v.names) i (n.row i).names c.add_all.result (set.meaning x)) (sym followed.names_are) added in
          record {
            kept = subst (λ (x : Stored). Kept x n) (sym means) shows.kept;
            on = shows.on;
            follows =
                follows_more ops i (beside_of store set computation v) (beside_of store set computation v') n below (shows.kept.row i below).fits.few_names shows.follows _ _ _ all-added
                followed.due (ap (λ (r : Row). ops.due r.state) row_is)
                followed.shown (ap (λ (r : Row). oldest r.pending) row_is)
                (λ line low. followed.queue line low ∙ ap (λ (r : Row). requeued i r.pending (lined v.queue)) row_is) followed.watermark;
          };
      means = means;
    }
