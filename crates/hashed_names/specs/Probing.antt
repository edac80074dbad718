-- Linear probing: where the search for a name begins, and why it finds what is stored. Assumes nothing.
use Rattle.std.specs.Prelude.{◌≡◌, ℕ, ◌+◌, ◌*◌, ◌/◌, ◌%◌, ◌^◌, ◌<◌, true, List, [], ◌∷◌, length, is_some, Some, None, Option, slice_index_or}
use Rattle.model.specs.declared.record.Name.{Name}
use Rattle.names.specs.declared.taken.Taken.{Taken}

-- the number of places
abbrev pub place_count : ℕ
place_count = 2048

-- the place at which the search for a name begins: the top 11 of 32 bits
abbrev pub home_of : ℕ → Name → ℕ
home_of s n = (n.serial * 2654435761 + n.time * 2246822519 + n.sender * 3266489917 + s * 668265263) % 2 ^ 32 / 2 ^ 21

-- the k-th place of the search
abbrev pub place_of : ℕ → Name → ℕ → ℕ
place_of s n k = (home_of s n + k) % place_count

-- the names in the places
abbrev pub stored : List (Option Taken) → List Taken
stored [] = []
stored (None ∷ xs) = stored xs
stored (Some p ∷ xs) = p ∷ stored xs

abbrev pub at : List (Option Taken) → ℕ → Option Taken
at xs i = slice_index_or xs i None

-- the search for the name comes to the place, over places that are all taken
pub record Reached (xs : List (Option Taken)) (s : ℕ) (n : Name) (i : ℕ) : Type 0 where
  pub steps : ℕ
  pub place : i ≡ place_of s n steps
  pub taken : (j : ℕ) → j < steps → is_some (at xs (place_of s n j)) ≡ true

-- the search comes to every name that is stored
abbrev pub Chained : List (Option Taken) → Type 0
Chained xs = (i : ℕ) (p : Taken) → i < length xs → at xs i ≡ Some p → Reached xs p.stop p.name i
