use Rattle.std.proofs.Common.{rules}
use Rattle.heap.proofs.Parts.{found_least}
use Rattle.heap.proofs.operations.least.Goals as goal

pub returns : goal.returns
returns g c = record { item = search rules; least = λ o h. found_least o _ _ (search rules) h }
