use Rattle.std.proofs.Common.{rules}
use Rattle.hashed_names.proofs.places.Places.new.Goals as goal

pub returns : goal.returns
returns c = c.in_ok-slots.ensures.items_if_clones_equal (λ y e. search rules)
