-- What keeps the filter from a wrong no. Assumes nothing.
use Rattle.std.specs.Prelude.{◌≡◌, ℕ, Bool, true}
use Rattle.model.specs.declared.record.Name.{Name}
use Rattle.names.specs.Held.{Meaning}
use Rattle.bloom.specs.Bits.{all_set}

-- every name that the set below holds has its four bits set
abbrev pub Marked : Meaning → (ℕ → Bool) → Type 0
Marked m bits = (s : ℕ) (n : Name) → m.holds s n ≡ true → all_set bits s n ≡ true
