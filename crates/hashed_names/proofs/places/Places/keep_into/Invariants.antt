use Rattle.hashed_names.specs.Places.{slots_of}
use Rattle.hashed_names.proofs.Keeping.{Going}
use Rattle.hashed_names.proofs.places.Places.keep_into.Given as goal

abbrev pub invariant-loop-slot : goal.invariant-loop-slot
invariant-loop-slot l = Going l.slot-items l.stop l.floor l.slot-index (slots_of l.other) l.count
