-- What it means to put in all names of a list. Assumes nothing.
use Rattle.std.specs.Prelude.{◌≡◌, ℕ, ◌+◌, ◌≤◌, Bool, ◌&&◌, ◌||◌, List, length, ◌==◌}
use Rattle.model.specs.declared.answer.Answer.{Answer}
use Rattle.model.specs.declared.answer.Answer.TheVariants.{Done}
use Rattle.model.specs.declared.record.Name.{Name}
use Rattle.names.specs.Held.{Meaning, most_taken}
use Rattle.model.specs.Names.{named}

-- the names of the list are held too, at the stop
abbrev pub with_names : (ℕ → Name → Bool) → ℕ → List Name → ℕ → Name → Bool
with_names h s ns = λ t k. (s == t && named ns k) || h t k

pub record AddedAll (m : Meaning) (s : ℕ) (ns : List Name) (r : Answer) (after : Meaning) : Type 0 where
  pub held : r ≡ Done → after.holds ≡ with_names m.holds s ns
  -- where the set has room for as many names, all of them are in
  pub done : m.size + length ns ≤ most_taken → r ≡ Done
  pub few : after.size ≤ m.size + length ns
