use Rattle.law.proofs.Best.{greatest_is, none_pending}
use Rattle.law.proofs.greatest_production_is_the_crowd.Goals as goal

pub returns : goal.returns
returns c = record { found = search greatest_is; none = search none_pending }
