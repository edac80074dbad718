-- What the places hold, and what a search among them finds. Assumes nothing.
use Rattle.std.specs.Prelude.{◌≡◌, ℕ, ◌<◌, true, false, List, length, None, vec_items, Option}
use Rattle.model.specs.declared.record.Name.{Name}
use Rattle.names.specs.declared.taken.Taken.{Taken}
use Rattle.names.specs.Held.{listed}
use Rattle.hashed_names.specs.Probing.{place_count, stored, at, Reached, Chained}
use Rattle.hashed_names.specs.declared.places.Places.{Places}
use Rattle.hashed_names.specs.declared.places.Spot.{Spot}
use Rattle.hashed_names.specs.declared.places.Spot.TheVariants.{Here, Free, Nowhere}

abbrev pub slots_of : Places → List (Option Taken)
slots_of p = vec_items p.slots

-- the free place that takes the name
pub record FreeAt (xs : List (Option Taken)) (s : ℕ) (n : Name) (i : ℕ) : Type 0 where
  pub within : i < place_count
  pub empty : at xs i ≡ None
  pub reached : Reached xs s n i
  pub absent : Chained xs → listed (stored xs) s n ≡ false

-- no place is free
pub record Crowded (xs : List (Option Taken)) (s : ℕ) (n : Name) : Type 0 where
  pub absent : listed (stored xs) s n ≡ false
  pub full : length (stored xs) ≡ place_count

abbrev pub Found : List (Option Taken) → ℕ → Name → Spot → Type 0
Found xs s n Here = listed (stored xs) s n ≡ true
Found xs s n (Free i) = FreeAt xs s n i
Found xs s n Nowhere = Crowded xs s n
