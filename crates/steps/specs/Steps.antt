-- A row before and after a step. Assumes nothing.
use Rattle.std.specs.Prelude.{◌≡◌, ℕ, ◌≤◌, Bool, List, ◌++◌, Some, Option}
use Rattle.model.specs.Computation.{Computation}
use Rattle.model.specs.Limits.{last_time}
use Rattle.model.specs.Row.{Row}
use Rattle.model.specs.declared.answer.Answer.{Answer}
use Rattle.model.specs.declared.answer.Answer.TheVariants.{Done}
use Rattle.model.specs.declared.record.Record.{Record}
use Rattle.model.specs.Row.{room_for_one}
use Rattle.law.specs.Rows.{considered, taken_row, fired_row, floor_of, next_after, produced}

-- a record is taken; the floor is that of the stop after it
pub record Took (c : Computation (List ℕ)) (on : Bool) (w : ℕ) (r : Record) (before after : Row) (floor : ℕ) : Type 0 where
  pub admitted : considered c on w r before ≡ Done
  pub row : after ≡ taken_row c w r before
  pub floor_is : floor ≡ floor_of c w after.state

-- a record is refused
pub record Refused (c : Computation (List ℕ)) (on : Bool) (w : ℕ) (r : Record) (before : Row) (a : Answer) : Type 0 where
  pub answer : a ≡ considered c on w r before
  pub refused : a ≡ Done → ⊥

-- the row with what a step emitted, if anything
abbrev pub emitting : Option (ℕ × ℕ) → Row → Row
emitting e row = record {
  next = next_after e row.next;
  state = row.state;
  pending = row.pending ++ produced e row.next;
  names = row.names;
}

-- a due is fired; the floor is that of the stop after it
pub record Fired (c : Computation (List ℕ)) (w : ℕ) (before after : Row) (floor : ℕ) : Type 0 where
  pub room : room_for_one before ≡ Done
  pub row : after ≡ fired_row c w before
  pub floor_is : floor ≡ floor_of c w after.state

-- there is no room for what it would emit
pub record Unfired (before : Row) (a : Answer) : Type 0 where
  pub answer : a ≡ room_for_one before
  pub refused : a ≡ Done → ⊥

-- a row with a due that the watermark has reached
pub record Reached (c : Computation (List ℕ)) (w : ℕ) (row : Row) : Type 0 where
  pub due : ℕ
  pub due_is : c.due row.state ≡ Some due
  pub reached : due ≤ w
  pub watermark : w ≤ last_time
