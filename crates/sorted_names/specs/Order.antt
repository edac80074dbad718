-- The order in which the sorted table keeps its names: by stop, then by time, then by serial, then by sender.
-- So a stop's names below a floor stand side by side. Assumes nothing.
use Rattle.std.specs.Prelude.{◌≡◌, ℕ, ◌<◌, ◌≤◌, Bool, true, false, cond, List, length, ◌==◌, nat_lt, slice_index_or}
use Rattle.model.specs.declared.record.Name.{Name}
use Rattle.names.specs.declared.taken.Taken.{Taken}
use Rattle.names.specs.Held.{listed}

-- decided by the first two numbers, unless they are equal
abbrev pub first : ℕ → ℕ → Bool → Bool
first x y rest = cond (x == y) rest (nat_lt x y)

-- p stands before q
abbrev pub before : Taken → Taken → Bool
before p q =
    first p.stop q.stop
    (first p.name.time q.name.time
    (first p.name.serial q.name.serial (nat_lt p.name.sender q.name.sender)))

-- each stands before all that come after it
abbrev pub Climbs : List Taken → Type 0
Climbs xs = (i j : ℕ) (d : Taken) → i < j → j < length xs → before (slice_index_or xs i d) (slice_index_or xs j d) ≡ true

-- the place up to which all stand before q, and from which on none does
pub record Splits (xs : List Taken) (q : Taken) (i : ℕ) : Type 0 where
  pub within : i ≤ length xs
  pub below : (k : ℕ) (d : Taken) → k < i → before (slice_index_or xs k d) q ≡ true
  pub above : (k : ℕ) (d : Taken) → i ≤ k → k < length xs → before (slice_index_or xs k d) q ≡ false

-- the name is not there, and belongs at the place
pub record Absent (xs : List Taken) (s : ℕ) (n : Name) (i : ℕ) : Type 0 where
  pub none : listed xs s n ≡ false
  pub splits : Splits xs (record { stop = s; name = n }) i

-- what stands before all names of the stop at the time, and at later ones
abbrev pub first_at : ℕ → ℕ → Taken
first_at s time = record { stop = s; name = record { sender = 0; serial = 0; time = time } }
