-- What a store means, and what each of its calls answers and leaves behind. Assumes nothing.
use Rattle.std.specs.Prelude.{ℕ, Bool, cond, ◌&&◌, List, [], length, ◌==◌, nat_le, nat_lt, slice_index_or, slice_set}
use Rattle.model.specs.Limits.{page_bytes}
use Rattle.model.specs.Power.{Power, commit_answer, renewed, spent, restart_answer, restarted}
use Rattle.model.specs.declared.answer.Answer.{Answer}
use Rattle.model.specs.declared.answer.Answer.TheVariants.{Done, OutOfRange, Off}
use Rattle.model.specs.declared.answer.CutPoint.{CutPoint}

pub record Stored : Type 0 where
  -- the rows by number, each of 512 bytes
  pub rows : List (List ℕ)
  pub power : Power

-- a row that is there, and a buffer of its size
abbrev pub row_fits : Stored → ℕ → List ℕ → Bool
row_fits s row bytes = nat_lt row (length s.rows) && length bytes == page_bytes

-- a tear that there is, and a junk page of the right size
abbrev pub restart_fits : ℕ → List ℕ → Bool
restart_fits tear junk = nat_le tear 2 && length junk == page_bytes

-- the answer of a call that is in range or not, to a store that is on or off
abbrev pub judged : Bool → Bool → Answer → Answer
judged ranged on answer = cond ranged (cond on answer Off) OutOfRange

abbrev pub read_answer : Stored → ℕ → List ℕ → Answer
read_answer s row out = judged (row_fits s row out) s.power.on Done

-- the buffer after a read
abbrev pub read_bytes : Stored → ℕ → List ℕ → List ℕ
read_bytes s row out = cond (row_fits s row out && s.power.on) (slice_index_or s.rows row []) out

abbrev pub store_answer : ℕ → CutPoint → Stored → ℕ → List ℕ → Answer
store_answer cost point s row bytes = judged (row_fits s row bytes) s.power.on (commit_answer cost point s.power)

-- the store after a commit; what its next restart owes is the store's own
abbrev pub committed : ℕ → ℕ → ℕ → Stored → ℕ → List ℕ → Stored
committed cost turn owed s row bytes = cond (row_fits s row bytes && s.power.on)
    (record { rows = cond (renewed turn s.power) (slice_set s.rows row bytes) s.rows; power = spent cost owed s.power })
    s

abbrev pub wake_answer : ℕ → ℕ → List ℕ → CutPoint → Stored → Answer
wake_answer n tear junk point s = cond (restart_fits tear junk) (restart_answer n point s.power) OutOfRange

-- the store after a restart
abbrev pub awake : ℕ → ℕ → List ℕ → ℕ → Stored → Stored
awake n tear junk owed s = cond (restart_fits tear junk)
    (record { rows = s.rows; power = restarted n tear owed s.power })
    s
