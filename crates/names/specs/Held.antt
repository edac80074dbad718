-- What a name set means: which names were taken at which stop, and how many they are. Assumes nothing.
use Rattle.std.specs.Prelude.{◌≡◌, ℕ, Bool, false, ◌&&◌, ◌||◌, List, [], ◌∷◌, length, ◌==◌}
use Rattle.model.specs.Names.{same_name}
use Rattle.model.specs.declared.record.Name.{Name}
use Rattle.names.specs.declared.taken.Taken.{Taken}

-- the most names that a set holds
abbrev pub most_taken : ℕ
most_taken = 1280

-- this is the name, taken at the stop
abbrev pub same_taken : Taken → ℕ → Name → Bool
same_taken p s n = p.stop == s && same_name p.name n

-- which names a set holds, by stop, and how many
pub record Meaning : Type 0 where
  pub holds : ℕ → Name → Bool
  pub size : ℕ

-- the list has the name, taken at the stop
abbrev pub listed : List Taken → ℕ → Name → Bool
listed [] s n = false
listed (p ∷ ps) s n = same_taken p s n || listed ps s n

-- nothing stands in the list twice
abbrev pub Apart : List Taken → Type 0
Apart [] = Unit {0}
Apart (p ∷ ps) = (listed ps p.stop p.name ≡ false) × Apart ps

-- the size is the number of names held: they can be listed, each once
pub record Counted (m : Meaning) : Type 0 where
  pub names : List Taken
  pub apart : Apart names
  pub long : length names ≡ m.size
  pub same : (s : ℕ) (n : Name) → m.holds s n ≡ listed names s n
