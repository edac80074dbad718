-- What stands at a place of a script, and where the next frame begins. Assumes nothing.
use Rattle.std.specs.Prelude.{ℕ, ◌+◌, cond, List, length, take, drop, Some, None, Ok, Err, Option, Result, nat_le, nat_lt}
use Rattle.model.specs.declared.answer.Fault.{Fault}
use Rattle.model.specs.declared.answer.Fault.TheVariants.{HeaderShort, UnknownKind, WrongLength, BodyShort}
use Rattle.model.specs.declared.call.Call.{Call}
use Rattle.frames.specs.declared.kind.Kind.{Kind}
use Rattle.model.specs.Bytes.{u16_at}
use Rattle.frames.specs.Calls.{call_of}
use Rattle.frames.specs.Kinds.{fits, kind_of}

-- the end, a fault, or a kind and a body
abbrev pub Standing : Type 0
Standing = Option (Result (Kind × List ℕ) Fault)

-- the length must suit the kind, and then so many bytes must be there
abbrev pub after_header : Option Kind → ℕ → List ℕ → Standing
after_header None n rest = Some (Err UnknownKind)
after_header (Some k) n rest =
    cond (fits k n) (cond (nat_lt (length rest) n) (Some (Err BodyShort)) (Some (Ok (k, take n rest)))) (Some (Err WrongLength))

-- the frame at the front of what is left: faults in the order in which they are judged
abbrev pub first_frame : List ℕ → Standing
first_frame rest = cond (nat_lt (length rest) 4) (Some (Err HeaderShort)) (after_header (kind_of (u16_at rest 2)) (u16_at rest 0) (drop 4 rest))

-- what stands at a place of a script
abbrev pub stands_at : List ℕ → ℕ → Standing
stands_at script i = cond (nat_le (length script) i) None (first_frame (drop i script))

-- the place after what stands at i: nothing is read past a fault
abbrev pub place_after : List ℕ → ℕ → Standing → ℕ
place_after script i None = i
place_after script i (Some (Err f)) = length script
place_after script i (Some (Ok p)) = i + (4 + length p.1)

abbrev pub next_place : List ℕ → ℕ → ℕ
next_place script i = place_after script i (stands_at script i)

-- the call that a kind and a body stand for
abbrev pub called : Standing → Option (Result Call Fault)
called None = None
called (Some (Err f)) = Some (Err f)
called (Some (Ok p)) = Some (Ok (call_of p.0 p.1))

-- the call whose frame stands at a place
abbrev pub call_at : List ℕ → ℕ → Option (Result Call Fault)
call_at script i = called (stands_at script i)
