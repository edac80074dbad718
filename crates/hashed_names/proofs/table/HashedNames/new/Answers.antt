use Rattle.std.proofs.Common.{arith}
use Rattle.hashed_names.proofs.Keeping.{cleared, cleared_sound}
use Rattle.hashed_names.proofs.table.HashedNames.new.Goals as goal

pub invariant_of-result : goal.invariant_of-result
invariant_of-result c = record { sound = cleared_sound 2048 c.in_ok-places.ensures; few = omega arith }

pub returns : goal.returns
returns c = cleared 2048 c.in_ok-places.ensures
