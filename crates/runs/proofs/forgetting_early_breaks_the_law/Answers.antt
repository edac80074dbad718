use Rattle.runs.proofs.Played.{forgetful_breaks}
use Rattle.runs.proofs.forgetting_early_breaks_the_law.Goals as goal

pub returns : goal.returns
returns c = search forgetful_breaks
