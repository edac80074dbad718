use Rattle.hashed_names.specs.Places.{slots_of}
use Rattle.hashed_names.proofs.Chains.{Passed}
use Rattle.hashed_names.proofs.places.Places.find.Given as goal

abbrev pub invariant-loop-step : goal.invariant-loop-step
invariant-loop-step l = Passed (slots_of l.self) l.taken.stop l.taken.name l.step
