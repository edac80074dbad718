use Rattle.law.proofs.Runs.{every_run}
use Rattle.law.proofs.every_run_keeps_the_law.Goals as goal

pub returns : goal.returns
returns c = search every_run
