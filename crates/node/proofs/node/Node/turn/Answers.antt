use Rattle.std.proofs.Common.{ap, ◌∙◌}
use Rattle.law.specs.Pair.{turned}
use Rattle.law.proofs.Queues.{turned_held}
use Rattle.node.proofs.node.Node.turn.Goals as goal

pub returns : goal.returns
returns g c = λ n shows.
    let k = shows.kept in
    record {
      kept = record { count = k.count; row = k.row; watermark = k.watermark; watermark_fits = k.watermark_fits; power = k.power };
      follows = λ on.
          let f = shows.follows on in
          record {
            names = f.names;
            due = f.due;
            shown = f.shown;
            queue_is = c.turn.ensures ∙ ap turned f.queue_is;
            queued = turned_held n (λ _. f.queued) on;
            watermark = f.watermark;
          };
    }
