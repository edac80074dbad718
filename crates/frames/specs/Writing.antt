-- What writing a call as a frame answers and leaves, and that the frame is read back. Assumes nothing.
use Rattle.std.specs.Prelude.{◌≡◌, ℕ, ◌+◌, cond, List, ◌++◌, length, drop, Some, None, Ok, Err, Option, Result, nat_lt}
use Rattle.model.specs.declared.answer.Fault.{Fault}
use Rattle.model.specs.declared.answer.Fault.TheVariants.{WrongLength, BufferTooSmall}
use Rattle.model.specs.declared.call.Call.{Call}
use Rattle.frames.specs.Reading.{call_at, next_place}

-- how many bytes were written, given the frame, if there is one, and the room
abbrev pub write_answer : Option (List ℕ) → ℕ → Result ℕ Fault
write_answer None room = Err WrongLength
write_answer (Some frame) room = cond (nat_lt room (length frame)) (Err BufferTooSmall) (Ok (length frame))

-- the buffer then: the frame first and the later bytes kept, or all as it was
abbrev pub buffer_after : Option (List ℕ) → List ℕ → List ℕ
buffer_after None buffer = buffer
buffer_after (Some frame) buffer = cond (nat_lt (length buffer) (length frame)) buffer (frame ++ drop (length frame) buffer)

-- wherever these bytes stand, and whatever stands around them, they are read as the call, and the reader goes on after them
pub record ReadBack (call : Call) (frame : List ℕ) : Type 0 where
  pub gives : (before after : List ℕ) → call_at (before ++ (frame ++ after)) (length before) ≡ Some (Ok call)
  pub passes : (before after : List ℕ) → next_place (before ++ (frame ++ after)) (length before) ≡ length before + length frame
