-- What a layout makes of a card that is in order, and what formatting leaves. Assumes nothing.
use Rattle.std.specs.Prelude.{◌≡◌, ℕ, false, cond, ◌&&◌, List, replicate, slice_set}
use Rattle.model.specs.Power.{commit_answer, renewed, spent, restart_answer, restarted}
use Rattle.model.specs.Store.{Stored, row_fits, restart_fits}
use Rattle.model.specs.declared.answer.Answer.{Answer}
use Rattle.model.specs.declared.answer.CutPoint.{CutPoint}
use Rattle.stores.specs.Cards.{Medium, zero_page, blank_medium}

-- a row is written to a card that is on
pub record Writes (cost turn owed : ℕ) (point : CutPoint) (s t : Stored) (row : ℕ) (bytes : List ℕ) (a : Answer) : Type 0 where
  pub answer : a ≡ commit_answer cost point s.power
  pub means : t ≡ record { rows = cond (renewed turn s.power) (slice_set s.rows row bytes) s.rows; power = spent cost owed s.power }

-- the card is turned on again, and what was begun is finished
pub record Wakes (owed : ℕ) (point : CutPoint) (s t : Stored) (left tear : ℕ) (a : Answer) : Type 0 where
  pub answer : a ≡ restart_answer left point s.power
  pub means : t ≡ record { rows = s.rows; power = restarted left tear owed s.power }

-- what the next restart owes, where a call that is not refused leaves so much
abbrev pub owed_after_commit : ℕ → Stored → ℕ → List ℕ → ℕ
owed_after_commit owed s row bytes = cond (row_fits s row bytes && s.power.on) owed s.power.owed

abbrev pub owed_after_restart : ℕ → Stored → ℕ → List ℕ → ℕ
owed_after_restart owed s tear junk = cond (restart_fits tear junk) owed s.power.owed

-- a store of so many rows, on a card of so many pages, as formatting leaves it
pub record Formatted (meaning : Medium → Stored) (Sound : Medium → Type 0) (rows pages node : ℕ) (m : Medium) : Type 0 where
  pub blank : m ≡ blank_medium node pages
  pub means : meaning m ≡ record { rows = replicate rows zero_page; power = record { on = false; left = 0; tear = 0; owed = 0 } }
  pub sound : Sound m
