-- A name set beside the names of the rows. Assumes nothing.
use Rattle.std.specs.Prelude.{◌≡◌, ℕ, ◌<◌, ◌≤◌, Bool, false, cond, ◌&&◌, List, [], ◌∷◌, ◌++◌, length, Some, None, Option, ◌==◌, nat_lt}
use Rattle.model.specs.Limits.{stops, most_names}
use Rattle.model.specs.declared.record.Name.{Name}
use Rattle.names.specs.Held.{Meaning}
use Rattle.names.specs.Changes.{after_add, without_below}
use Rattle.model.specs.Names.{kept}
use Rattle.law.specs.Rows.{seen}

-- a set holds exactly the names of the stops
abbrev pub Holds : Meaning → (ℕ → List Name) → Type 0
Holds m names = (s : ℕ) (k : Name) → m.holds s k ≡ (nat_lt s stops && seen k (names s))

-- one stop has other names now
abbrev pub with_names : ℕ → List Name → (ℕ → List Name) → ℕ → List Name
with_names s new names q = cond (q == s) new (names q)

-- the names that stay: those not below the floor, if there is one
abbrev pub staying : Option ℕ → List Name → List Name
staying None names = names
staying (Some floor) names = kept floor names

-- the name that comes, if one does
abbrev pub coming : Option Name → List Name
coming None = []
coming (Some k) = k ∷ []

-- a stop's names after some fell and one came
abbrev pub renamed : Option ℕ → Option Name → List Name → List Name
renamed floor come names = staying floor names ++ coming come

-- the name that comes is not among these
abbrev pub Fresh : Option Name → List Name → Type 0
Fresh None names = Unit {0}
Fresh (Some k) names = seen k names ≡ false

-- no stop has more names than its row has room for
abbrev pub Few : (ℕ → List Name) → Type 0
Few names = (s : ℕ) → s < stops → length (names s) ≤ most_names

-- what a set holds after the names of a stop below a floor fell, and what it is after a name came
abbrev pub dropping : (ℕ → Name → Bool) → ℕ → Option ℕ → ℕ → Name → Bool
dropping holds s None = holds
dropping holds s (Some floor) = without_below holds s floor

abbrev pub adding : Meaning → ℕ → Option Name → Meaning
adding m s None = m
adding m s (Some k) = after_add m s k

pub record Forgot (m after : Meaning) (s : ℕ) (floor : Option ℕ) : Type 0 where
  pub held : after.holds ≡ dropping m.holds s floor

pub record Remembered (m after : Meaning) (s : ℕ) (come : Option Name) : Type 0 where
  pub means : after ≡ adding m s come

-- a set that held exactly the names of the stops does so again
pub record Renamed (m after : Meaning) (s : ℕ) (floor : Option ℕ) (come : Option Name) : Type 0 where
  pub holds : (names : ℕ → List Name) → Holds m names → s < stops → Fresh come (names s) → Few (with_names s (renamed floor come (names s)) names) → Holds after (with_names s (renamed floor come (names s)) names)
