-- When the places are a sound table. Assumes nothing.
use Rattle.std.specs.Prelude.{◌≡◌, ℕ, List, length, Option}
use Rattle.names.specs.declared.taken.Taken.{Taken}
use Rattle.names.specs.Held.{Apart}
use Rattle.hashed_names.specs.Probing.{stored, Chained}

-- the search finds every name, none is stored twice, and they are counted
pub record Sound (xs : List (Option Taken)) (count : ℕ) : Type 0 where
  pub chained : Chained xs
  pub apart : Apart (stored xs)
  pub counted : length (stored xs) ≡ count
