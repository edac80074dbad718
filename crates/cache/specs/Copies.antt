-- What a cache holds, and when it agrees with the store below. Assumes nothing.
use Rattle.std.specs.Prelude.{◌≡◌, ℕ, ◌%◌, ◌<◌, Bool, true, false, List, [], length, Some, None, Option, ◌==◌, slice_index_or, slice_set}
use Rattle.model.specs.Store.{Stored}
use Rattle.cache.specs.declared.entries.Entry.{Entry}

abbrev pub no_entry : Entry
no_entry = record { row = None; page = [] }

abbrev pub is_row : Option ℕ → ℕ → Bool
is_row None r = false
is_row (Some q) r = q == r

-- there is a copy of the row
abbrev pub holds : List Entry → ℕ → Bool
holds places r = is_row (slice_index_or places (r % 4) no_entry).row r

abbrev pub copy_of : List Entry → ℕ → List ℕ
copy_of places r = (slice_index_or places (r % 4) no_entry).page

-- a copy of the row comes to its place
abbrev pub kept : List Entry → ℕ → List ℕ → List Entry
kept places r page = slice_set places (r % 4) (record { row = Some r; page = page })

-- a store that is on, with such a row
pub record HasRow (s : Stored) (r : ℕ) (page : List ℕ) : Type 0 where
  pub on : s.power.on ≡ true
  pub there : r < length s.rows
  pub same : page ≡ slice_index_or s.rows r []

-- every copy is the row, and there are copies only while the store is on
abbrev pub Agrees : Stored → List Entry → Type 0
Agrees s places = (r : ℕ) → holds places r ≡ true → HasRow s r (copy_of places r)

abbrev pub Empty : List Entry → Type 0
Empty places = (r : ℕ) → holds places r ≡ false
