use Rattle.std.proofs.Common.{ltb, ◌∙◌}
use Rattle.model.specs.Limits.{stops}
use Rattle.model.specs.declared.record.Production.{Production}
use Rattle.agenda.specs.Meaning.{shown_at}
use Rattle.model.specs.Row.{oldest}
use Rattle.agenda.proofs.Choosing.{best_same}
use Rattle.node.proofs.node.Node.greatest.Goals as goal

pub returns : goal.returns
returns g c = λ n shows on.
    c.first.ensures ∙ best_same (λ (p q : Production). ltb q.amount p.amount) (shown_at c.args.self.now.panel) (λ s. oldest (n.row s).pending) stops (shows.follows on).shown
