-- A row with one byte changed. Assumes nothing.
use Rattle.std.specs.Prelude.{◌≡◌, ℕ, cond, ◌&&◌, List, [], length, nat_lt, slice_index_or, slice_set}
use Rattle.model.specs.Limits.{page_bytes}
use Rattle.model.specs.Power.{commit_answer, renewed, spent}
use Rattle.model.specs.Store.{Stored, judged}
use Rattle.model.specs.declared.answer.Answer.{Answer}
use Rattle.model.specs.declared.answer.CutPoint.{CutPoint}

-- the row with that byte
abbrev pub changed : Stored → ℕ → ℕ → ℕ → List ℕ
changed s row at byte = slice_set (slice_index_or s.rows row []) at byte

-- a row that is there, and a byte that it has
abbrev pub change_answer : ℕ → CutPoint → Stored → ℕ → ℕ → Answer
change_answer cost point s row at =
    judged (nat_lt at page_bytes && nat_lt row (length s.rows)) s.power.on (commit_answer cost point s.power)

abbrev pub changed_store : ℕ → ℕ → ℕ → Stored → ℕ → ℕ → ℕ → Stored
changed_store cost turn owed s row at byte = cond ((nat_lt at page_bytes && nat_lt row (length s.rows)) && s.power.on)
    (record { rows = cond (renewed turn s.power) (slice_set s.rows row (changed s row at byte)) s.rows; power = spent cost owed s.power })
    s

pub record Changes (cost turn : ℕ) (point : CutPoint) (s t : Stored) (row at byte : ℕ) (r : Answer) : Type 0 where
  pub answer : r ≡ change_answer cost point s row at
  pub means : t ≡ changed_store cost turn t.power.owed s row at byte
