use Rattle.std.proofs.Common.{◌≡◌, take}
use Rattle.std.specs.List.{fold}
use Rattle.bloom.specs.Bits.{with_bit}
use Rattle.bloom.specs.Filter.{bits_in}
use Rattle.bloom.proofs.filter.Filter.set_all.Given as goal

abbrev pub invariant-loop-bit : goal.invariant-loop-bit
invariant-loop-bit l = bits_in l.self ≡ fold with_bit (bits_in l.initial.self) (take l.bit-index l.bit-items)
