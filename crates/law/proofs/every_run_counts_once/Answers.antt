use Rattle.law.proofs.Counts.{every_count}
use Rattle.law.proofs.every_run_counts_once.Goals as goal

pub returns : goal.returns
returns c = search every_count
