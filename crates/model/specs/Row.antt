-- What a row of a stop says. Assumes nothing.
use Rattle.std.specs.Prelude.{ℕ, cond, List, [], ◌∷◌, length, drop, Some, None, Option, nat_le}
use Rattle.model.specs.Computation.{zero_state}
use Rattle.model.specs.Limits.{last_serial, most_pending}
use Rattle.model.specs.declared.answer.Answer.{Answer}
use Rattle.model.specs.declared.answer.Answer.TheVariants.{Done, Over, NoRoom}
use Rattle.model.specs.declared.record.Name.{Name}
use Rattle.model.specs.declared.record.Production.{Production}

pub record Row : Type 0 where
  -- the serial of the next production
  pub next : ℕ
  -- the 32 bytes of the computation's state
  pub state : List ℕ
  -- what was emitted and is not acknowledged yet, oldest first
  pub pending : List Production
  -- the names of the records taken that are not late yet, in the order of taking
  pub names : List Name

-- the row of a stop where nothing has happened
abbrev pub first_row : Row
first_row = record { next = 0; state = zero_state; pending = []; names = [] }

-- a stop with four pending productions, or with no serial left, can produce nothing more
abbrev pub room_for_one : Row → Answer
room_for_one row = cond (nat_le most_pending (length row.pending)) NoRoom (cond (nat_le last_serial row.next) Over Done)

abbrev pub oldest : List Production → Option Production
oldest [] = None
oldest (p ∷ ps) = Some p

-- the row without its oldest pending production
abbrev pub cleared_row : Row → Row
cleared_row row = record { next = row.next; state = row.state; pending = drop 1 row.pending; names = row.names }
