use Rattle.runs.proofs.Played.{dueless_breaks}
use Rattle.runs.proofs.passing_dues_breaks_the_law.Goals as goal

pub returns : goal.returns
returns c = search dueless_breaks
