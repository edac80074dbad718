-- What is left when a stop's names below a floor are left out. Assumes nothing.
use Rattle.std.specs.Prelude.{◌≡◌, ℕ, List, Option}
use Rattle.names.specs.declared.taken.Taken.{Taken}
use Rattle.names.specs.Held.{listed}
use Rattle.names.specs.Changes.{without_below}
use Rattle.hashed_names.specs.Probing.{stored}
use Rattle.hashed_names.specs.Sound.{Sound}

pub record Rebuilt (xs : List (Option Taken)) (s floor : ℕ) (ys : List (Option Taken)) (count : ℕ) : Type 0 where
  pub sound : Sound ys count
  pub held : listed (stored ys) ≡ without_below (listed (stored xs)) s floor
