-- What the Bloom layer is, over any name set, and what each of its calls does to its bits and its count.
-- Assumes nothing.
use Rattle.std.specs.Prelude.{ℕ, ◌+◌, min, Bool, true, false, cond}
use Rattle.model.specs.declared.answer.Answer.{Answer}
use Rattle.model.specs.declared.answer.Answer.TheVariants.{Done, OutOfRange, Off, Late, Seen, Early, Over, Full, NoRoom, Cut, Nothing, LinkFull, NoMessage, NotOldest}
use Rattle.model.specs.declared.record.Name.{Name}
use Rattle.names.specs.Held.{Meaning}
use Rattle.names.specs.declared.set.NameSet.{Ghosts}
use Rattle.bloom.specs.Bits.{all_set, with_four}
use Rattle.bloom.specs.Filter.{bits_in}
use Rattle.bloom.specs.declared.layer.Bloom.{Bloom}

-- which bits are set
abbrev pub layer_bits : {N : Type 0} {G : Ghosts N} → Bloom N G → ℕ → Bool
layer_bits b = bits_in b.filter

-- the layer means what the set below means
abbrev pub layer_meaning : {N : Type 0} {G : Ghosts N} → Bloom N G → Meaning
layer_meaning {N} {G} b = G.meaning b.set

-- one question more, up to the last number
abbrev pub one_more : ℕ → ℕ
one_more n = min (n + 1) 4294967295

-- a question is passed below exactly if all four bits are set
abbrev pub count_after : (ℕ → Bool) → ℕ → ℕ → Name → ℕ
count_after bits count s n = cond (all_set bits s n) (one_more count) count

abbrev pub is_done : Answer → Bool
is_done Done = true
is_done OutOfRange = false
is_done Off = false
is_done Late = false
is_done Seen = false
is_done Early = false
is_done Over = false
is_done Full = false
is_done NoRoom = false
is_done (Cut at) = false
is_done Nothing = false
is_done LinkFull = false
is_done NoMessage = false
is_done NotOldest = false

-- an add sets the bits when it was done
abbrev pub bits_after : (ℕ → Bool) → Answer → ℕ → Name → ℕ → Bool
bits_after bits r s n = cond (is_done r) (with_four bits s n) bits
