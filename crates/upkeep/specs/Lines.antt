-- A queue of stops. Assumes nothing.
use Rattle.std.specs.Prelude.{ℕ, ◌<◌, List}
use Rattle.law.specs.Lists.{Mem, Apart}
use Rattle.model.specs.Limits.{stops}

-- only stops stand in it, and none twice
pub record Line (queue : List ℕ) : Type 0 where
  pub once : Apart queue
  pub stop : (s : ℕ) → Mem s queue → s < stops
