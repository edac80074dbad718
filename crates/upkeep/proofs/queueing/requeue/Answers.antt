use Rattle.std.proofs.Common.{sym, ◌∙◌}
use Rattle.rows.specs.Meaning.{row_of}
use Rattle.upkeep.proofs.Lines.{joins}
use Rattle.upkeep.proofs.queueing.requeue.Goals as goal

pub returns-in-Some : goal.returns-in-Some
returns-in-Some c = λ line within.
    c.join.ensures ∙ joins c.args.stop (row_of c.args.row.now).pending _ _ (sym c.in-Some.ensures) line within
