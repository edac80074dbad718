-- What slots say of the stops: each stop has one, with a value in it or none. Assumes nothing.
use Rattle.std.specs.Prelude.{◌≡◌, ℕ, ◌<◌, cond, List, [], ◌∷◌, length, None, count_by, Option, ◌==◌, nat_eq, nat_lt, slice_index_or}
use Rattle.std.specs.declared.cmp.Ordering.{Ordering}
use Rattle.std.specs.Cmp.{IsTotalOrder}
use Rattle.model.specs.Limits.{stops}
use Rattle.heap.specs.Heaps.{AtMost, parent}
use Rattle.agenda.specs.declared.slot.Slot.{Slot}

abbrev pub empty_slot : {V : Type 0} → ℕ → Slot V
empty_slot s = record { value = None; stop = s }

-- the value in a stop's slot
abbrev pub held : {V : Type 0} → List (Slot V) → ℕ → Option V
held [] q = None
held (x ∷ xs) q = cond (x.stop == q) x.value (held xs q)

-- each stop has one slot, and no other has any
abbrev pub Single : {V : Type 0} → List (Slot V) → Type 0
Single {V} xs = ((s : ℕ) → s < stops → count_by (λ x. nat_eq x.stop s) xs ≡ 1) × ((k : ℕ) (d : Slot V) → k < length xs → (slice_index_or xs k d).stop < stops)

-- the same of every number, where only a stop has anything
abbrev pub held_below : {V : Type 0} → List (Slot V) → ℕ → Option V
held_below xs q = cond (nat_lt q stops) (held xs q) None

-- a stop's value is now another, and all others stay
abbrev pub updated : {V : Type 0} → ℕ → Option V → (ℕ → Option V) → ℕ → Option V
updated s value at q = cond (q == s) value (at q)

-- the same, where a number that is no stop changes nothing
abbrev pub changed : {V : Type 0} → ℕ → Option V → (ℕ → Option V) → ℕ → Option V
changed s value at = cond (nat_lt s stops) (updated s value at) at

-- no slot is below its parent in the heap
abbrev pub Placed : {V : Type 0} {R : Slot V → Slot V → Ordering} → IsTotalOrder R → List (Slot V) → Type 0
Placed {V} o xs = (k : ℕ) (d : Slot V) → (0 < k) × (k < length xs) → AtMost o (slice_index_or xs (parent k) d) (slice_index_or xs k d)
