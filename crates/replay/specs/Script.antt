-- The calls of a script, and its first fault. Assumes nothing.
use Rattle.std.specs.Prelude.{ℕ, zero, suc, List, [], ◌∷◌, length, Some, None, Ok, Err, Option, Result}
use Rattle.model.specs.declared.answer.Fault.{Fault}
use Rattle.model.specs.declared.call.Call.{Call}
use Rattle.frames.specs.Reading.{call_at, next_place}
use Rattle.frames.specs.declared.reader.Misfit.{Misfit}

-- what stands at a place, and then the rest; nothing follows a fault
abbrev pub gathered : Option (Result Call Fault) → List Call → List Call
gathered None rest = []
gathered (Some (Err fault)) rest = []
gathered (Some (Ok call)) rest = call ∷ rest

-- at most so many calls, from a place on
unfoldable pub calls_from : ℕ → List ℕ → ℕ → List Call
calls_from zero script place = []
calls_from (suc more) script place = gathered (call_at script place) (calls_from more script (next_place script place))

-- no script has more frames than bytes
abbrev pub calls_in : List ℕ → List Call
calls_in script = calls_from (length script) script 0

-- a fault at a place, or else a later one
abbrev pub first_fault : Option (Result Call Fault) → ℕ → Option (Fault × ℕ) → Option (Fault × ℕ)
first_fault None place later = None
first_fault (Some (Err fault)) place later = Some (fault, place)
first_fault (Some (Ok call)) place later = later

unfoldable pub fault_from : ℕ → List ℕ → ℕ → Option (Fault × ℕ)
fault_from zero script place = None
fault_from (suc more) script place = first_fault (call_at script place) place (fault_from more script (next_place script place))

abbrev pub fault_in : List ℕ → Option (Fault × ℕ)
fault_in script = fault_from (length script) script 0

-- a fault with the offset of its frame
abbrev pub placed : Option Misfit → Option (Fault × ℕ)
placed None = None
placed (Some m) = Some (m.fault, m.offset)
