use Rattle.std.proofs.Common.{refl}
use Rattle.names.proofs.Counting as counting
use Rattle.names.proofs.room.most_names.Goals as goal

pub returns : goal.returns
returns c = record { value = refl; covered = counting.covered; sized = counting.sized; room = counting.room }
