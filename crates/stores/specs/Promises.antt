-- What the calls of a store promise, of what it means before (s) and after (t). Assumes nothing.
use Rattle.std.specs.Prelude.{◌≡◌, ℕ, List}
use Rattle.model.specs.Store.{Stored, read_answer, read_bytes, store_answer, committed, wake_answer, awake}
use Rattle.model.specs.declared.answer.Answer.{Answer}
use Rattle.model.specs.declared.answer.CutPoint.{CutPoint}

-- a read of a row, and the buffer before and after it
pub record Reads (s t : Stored) (row : ℕ) (before after : List ℕ) (r : Answer) : Type 0 where
  pub answer : r ≡ read_answer s row before
  pub bytes : after ≡ read_bytes s row before
  pub means : t ≡ s

-- only what the next restart owes is the store's own
pub record Commits (cost turn : ℕ) (point : CutPoint) (s t : Stored) (row : ℕ) (bytes : List ℕ) (r : Answer) : Type 0 where
  pub answer : r ≡ store_answer cost point s row bytes
  pub means : t ≡ committed cost turn t.power.owed s row bytes

-- likewise
pub record Restarts (point : CutPoint) (s t : Stored) (left tear : ℕ) (junk : List ℕ) (r : Answer) : Type 0 where
  pub answer : r ≡ wake_answer left tear junk point s
  pub means : t ≡ awake left tear junk t.power.owed s
