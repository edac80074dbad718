use Rattle.std.proofs.Common.{arith}
use Rattle.hashed_names.proofs.Keeping.{cleared, cleared_sound}
use Rattle.hashed_names.proofs.table.calls.HashedNamesNameSet.clear.Goals as goal

pub invariant_of-self : goal.invariant_of-self
invariant_of-self c = record { sound = cleared_sound 2048 c.clear.ensures; few = omega arith }

pub returns : goal.returns
returns c = cleared 2048 c.clear.ensures
