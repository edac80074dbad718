use Rattle.runs.proofs.Played.{hasty_breaks}
use Rattle.runs.proofs.clearing_any_breaks_the_law.Goals as goal

pub returns : goal.returns
returns c = search hasty_breaks
