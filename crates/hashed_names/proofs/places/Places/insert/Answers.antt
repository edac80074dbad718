use Rattle.hashed_names.proofs.Chains.{long}
use Rattle.hashed_names.proofs.Keeping.{inserted}
use Rattle.hashed_names.proofs.places.Places.insert.Goals as goal

pub returns : goal.returns
returns c = inserted (long c.args.self.now) c.in-Free.ensures c.put.ensures
