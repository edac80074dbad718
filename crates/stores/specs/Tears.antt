-- The number of each tear. Assumes nothing.
use Rattle.std.specs.Prelude.{ℕ}
use Rattle.stores.specs.declared.tear.Tear.{Tear}
use Rattle.stores.specs.declared.tear.Tear.TheVariants.{Old, New, Junk}

abbrev pub tear_number : Tear → ℕ
tear_number Old = 0
tear_number New = 1
tear_number Junk = 2
