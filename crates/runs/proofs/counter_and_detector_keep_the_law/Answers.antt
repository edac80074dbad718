use Rattle.runs.proofs.Counting.{counter_law}
use Rattle.runs.proofs.counter_and_detector_keep_the_law.Goals as goal

pub returns : goal.returns
returns c = search counter_law
