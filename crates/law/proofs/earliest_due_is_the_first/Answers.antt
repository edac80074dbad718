use Rattle.law.proofs.Best.{earliest_is, none_due}
use Rattle.law.proofs.earliest_due_is_the_first.Goals as goal

pub returns : goal.returns
returns c = record { found = search earliest_is; none = search none_due }
