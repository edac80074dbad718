use Rattle.law.proofs.Telling.{every_telling}
use Rattle.law.proofs.every_run_goes_on.Goals as goal

pub returns : goal.returns
returns c = search every_telling
