-- Why a list of calls was not made to its end, in words. Assumes nothing.
use Rattle.std.specs.Prelude.{ℕ, List, codes}
use Rattle.pair.specs.declared.pair.Stopped.{Stopped}
use Rattle.pair.specs.declared.pair.Stopped.TheVariants.{NoMemory, Damaged}

abbrev pub reason : Stopped → List ℕ
reason NoMemory = codes "there is not enough memory"
reason Damaged = codes "a row is damaged"
