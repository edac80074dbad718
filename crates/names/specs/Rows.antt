-- When a set is made of what rows hold: so it is never full for a name that a row has room for. Assumes nothing.
use Rattle.std.specs.Prelude.{◌≡◌, ℕ, ◌<◌, ◌≤◌, Bool, true, false, List, length}
use Rattle.model.specs.Names.{named}
use Rattle.model.specs.Limits.{stops, most_names}
use Rattle.model.specs.declared.answer.Answer.TheVariants.{Done}
use Rattle.model.specs.declared.record.Name.{Name}
use Rattle.names.specs.Held.{Meaning, Counted, listed}
use Rattle.names.specs.declared.taken.Taken.{Taken}
use Rattle.names.specs.Changes.{add_answer, with_name}

-- every name held stands in the row of its stop, and no row has more names than fit into it
pub record InRows (h : ℕ → Name → Bool) (rows : ℕ → List Name) : Type 0 where
  pub stop : (s : ℕ) (n : Name) → h s n ≡ true → s < stops
  pub row : (s : ℕ) (n : Name) → h s n ≡ true → named (rows s) n ≡ true
  pub short : (s : ℕ) → length (rows s) ≤ most_names

-- a set has no more names than any list that has them all
abbrev pub Covered : Type 0
Covered =
    (m : Meaning) → Counted m → (ps : List Taken) → ((s : ℕ) (n : Name) → m.holds s n ≡ true → listed ps s n ≡ true) → m.size ≤ length ps

-- a set whose names would stand in rows with one name more takes that name
abbrev pub Room : Type 0
Room =
    (m : Meaning) → Counted m → (rows : ℕ → List Name) (s : ℕ) (n : Name) → m.holds s n ≡ false → InRows (with_name m.holds s n) rows → add_answer m s n ≡ Done

-- which names are held says how many
abbrev pub Sized : Type 0
Sized = (m k : Meaning) → Counted m → Counted k → m.holds ≡ k.holds → m.size ≡ k.size
