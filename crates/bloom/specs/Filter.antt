-- Which bits of a filter are set. Assumes nothing.
use Rattle.std.specs.Prelude.{ℕ, Bool, vec_items}
use Rattle.bloom.specs.Bits.{bit_in}
use Rattle.bloom.specs.declared.filter.Filter.{Filter}

abbrev pub bits_in : Filter → ℕ → Bool
bits_in f = bit_in (vec_items f.words)
