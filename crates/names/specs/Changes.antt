-- What each call of a name set answers, and what the set means afterwards. Assumes nothing.
use Rattle.std.specs.Prelude.{◌≡◌, ℕ, ◌+◌, Bool, false, cond, not, ◌&&◌, ◌||◌, ◌==◌, nat_lt}
use Rattle.model.specs.declared.answer.Answer.{Answer}
use Rattle.model.specs.declared.answer.Answer.TheVariants.{Done, Seen, Full}
use Rattle.model.specs.declared.record.Name.{Name}
use Rattle.names.specs.declared.taken.Taken.{Taken}
use Rattle.model.specs.Names.{same_name}
use Rattle.names.specs.Held.{Meaning, most_taken}

-- seen if it is held, full if so many others are
abbrev pub add_answer : Meaning → ℕ → Name → Answer
add_answer m s n = cond (m.holds s n) Seen (cond (nat_lt m.size most_taken) Done Full)

-- the name is held too, at the stop
abbrev pub with_name : (ℕ → Name → Bool) → ℕ → Name → ℕ → Name → Bool
with_name h s n = λ t k. (s == t && same_name n k) || h t k

-- the set with one name more
abbrev pub grown : Meaning → ℕ → Name → Meaning
grown m s n = record { holds = with_name m.holds s n; size = m.size + 1 }

-- only an add that is done changes the set
abbrev pub after_add : Meaning → ℕ → Name → Meaning
after_add m s n = cond (m.holds s n) m (cond (nat_lt m.size most_taken) (grown m s n) m)

-- this is one of the stop's names below the floor
abbrev pub is_below : ℕ → ℕ → Taken → Bool
is_below s floor p = p.stop == s && nat_lt p.name.time floor

-- held, and not one of the stop's names below the floor
abbrev pub without_below : (ℕ → Name → Bool) → ℕ → ℕ → ℕ → Name → Bool
without_below h s floor = λ t k. h t k && not (is_below s floor (record { stop = t; name = k }))

-- nothing is held
abbrev pub nothing : Meaning
nothing = record { holds = λ t k. false; size = 0 }

pub record Asked (m : Meaning) (s : ℕ) (n : Name) (r : Bool) (after : Meaning) : Type 0 where
  pub same : after ≡ m
  pub answer : r ≡ m.holds s n

pub record Added (m : Meaning) (s : ℕ) (n : Name) (r : Answer) (after : Meaning) : Type 0 where
  pub answer : r ≡ add_answer m s n
  pub means : after ≡ after_add m s n

-- how many are left follows from which are held, as a set's size is always their number
pub record Dropped (m : Meaning) (s floor : ℕ) (after : Meaning) : Type 0 where
  pub held : after.holds ≡ without_below m.holds s floor

pub record Cleared (after : Meaning) : Type 0 where
  pub means : after ≡ nothing
