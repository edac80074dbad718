use Rattle.counter.proofs.AddUp.{minutes_add_up}
use Rattle.counter.proofs.law.minutes_add_up.Goals as goal

pub returns : goal.returns
returns c = minutes_add_up
