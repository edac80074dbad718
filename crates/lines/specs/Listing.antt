-- The listing of a script: a line for each frame, up to the first fault. Assumes nothing.
use Rattle.std.specs.Prelude.{ℕ, zero, suc, ◌+◌, List, [], ◌++◌, length, Some, None, Ok, Err, codes, decimal, Option, Result}
use Rattle.model.specs.Answers.{fault_number}
use Rattle.model.specs.declared.answer.Fault.{Fault}
use Rattle.model.specs.declared.call.Call.{Call}
use Rattle.frames.specs.Reading.{call_at, next_place}
use Rattle.lines.specs.Lines.{line_of}

-- the frame's number, its offset, its call
abbrev pub entry_of : ℕ → ℕ → Call → List ℕ
entry_of number offset call = decimal number ++ (codes " " ++ (decimal offset ++ (codes " " ++ (line_of call ++ codes "\n"))))

abbrev pub fault_of : ℕ → ℕ → List ℕ
fault_of number offset = codes "fault " ++ (decimal number ++ (codes " " ++ (decimal offset ++ codes "\n")))

-- what stands at a place as a line, and then the rest; nothing follows a fault
abbrev pub told : Option (Result Call Fault) → ℕ → ℕ → List ℕ → List ℕ
told None number place rest = []
told (Some (Err fault)) number place rest = fault_of (fault_number fault) place
told (Some (Ok call)) number place rest = entry_of number place call ++ rest

-- at most so many frames, from a place and a number on
unfoldable pub listed_from : ℕ → List ℕ → ℕ → ℕ → List ℕ
listed_from zero script place number = []
listed_from (suc more) script place number =
    told (call_at script place) number place (listed_from more script (next_place script place) (number + 1))

-- the whole listing: no script has more frames than bytes
abbrev pub listed : List ℕ → List ℕ
listed script = listed_from (length script) script 0 1
