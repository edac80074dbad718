-- The number of each answer and of each fault. Assumes nothing.
use Rattle.std.specs.Prelude.{ℕ, Bool, true, false, ◌==◌, Result, Ok, Err}
use Rattle.model.specs.declared.answer.Answer.{Answer}
use Rattle.model.specs.declared.answer.Answer.TheVariants.{Done, OutOfRange, Off, Late, Seen, Early, Over, Full, NoRoom, Cut, Nothing, LinkFull, NoMessage, NotOldest}
use Rattle.model.specs.declared.answer.Outcome.{Outcome}
use Rattle.model.specs.declared.answer.Outcome.TheVariants.{Plain, Shown}
use Rattle.model.specs.declared.answer.Fault.{Fault}
use Rattle.model.specs.declared.answer.Fault.TheVariants.{HeaderShort, UnknownKind, WrongLength, BodyShort, BufferTooSmall}

abbrev pub answer_number : Answer → ℕ
answer_number Done = 0
answer_number OutOfRange = 1
answer_number Off = 2
answer_number Late = 3
answer_number Seen = 4
answer_number Early = 5
answer_number Over = 6
answer_number Full = 7
answer_number NoRoom = 8
answer_number (Cut at) = 9
answer_number Nothing = 10
answer_number LinkFull = 11
answer_number NoMessage = 12
answer_number NotOldest = 13

-- an answer that is a refusal: nothing has happened
abbrev pub refusal : Answer → Bool
refusal Done = false
refusal OutOfRange = true
refusal Off = true
refusal Late = true
refusal Seen = true
refusal Early = true
refusal Over = true
refusal Full = true
refusal NoRoom = true
refusal (Cut at) = false
refusal Nothing = true
refusal LinkFull = true
refusal NoMessage = true
refusal NotOldest = true

abbrev pub is_done : Answer → Bool
is_done a = answer_number a == 0

abbrev pub is_seen : Answer → Bool
is_seen a = answer_number a == 4

abbrev pub is_cut : Answer → Bool
is_cut a = answer_number a == 9

-- an answer as a result: all but `Done` are handed on
abbrev pub as_result : Answer → Result Unit Answer
as_result Done = Ok tt
as_result OutOfRange = Err OutOfRange
as_result Off = Err Off
as_result Late = Err Late
as_result Seen = Err Seen
as_result Early = Err Early
as_result Over = Err Over
as_result Full = Err Full
as_result NoRoom = Err NoRoom
as_result (Cut at) = Err (Cut at)
as_result Nothing = Err Nothing
as_result LinkFull = Err LinkFull
as_result NoMessage = Err NoMessage
as_result NotOldest = Err NotOldest

-- a show that is done carries the production shown
abbrev pub outcome_answer : Outcome → Answer
outcome_answer (Plain a) = a
outcome_answer (Shown stop production) = Done

abbrev pub fault_number : Fault → ℕ
fault_number HeaderShort = 20
fault_number UnknownKind = 21
fault_number WrongLength = 22
fault_number BodyShort = 23
fault_number BufferTooSmall = 24
