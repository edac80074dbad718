-- What a reader is, and what it hands out. Assumes nothing.
use Rattle.std.specs.Prelude.{◌≡◌, ℕ, ◌+◌, ◌<◌, ◌≤◌, true, List, length, take, OnSome, Some, None, Ok, Err, Option, Result}
use Rattle.model.specs.declared.answer.Fault.{Fault}
use Rattle.model.specs.declared.call.Call.{Call}
use Rattle.frames.specs.declared.frame.Frame.{Frame}
use Rattle.frames.specs.declared.kind.Kind.{Kind}
use Rattle.frames.specs.declared.reader.Event.{Event}
use Rattle.frames.specs.declared.reader.Misfit.{Misfit}
use Rattle.frames.specs.declared.reader.Placed.{Placed}
use Rattle.frames.specs.declared.reader.Reader.{Reader}
use Rattle.frames.specs.Frames.{frame_kind, frame_body, framed}
use Rattle.frames.specs.Kinds.{fits}
use Rattle.frames.specs.Reading.{Standing, call_at, next_place}

-- the script that a reader has, and the place where it stands
abbrev pub script_of : Reader → List ℕ
script_of r = r.script.now

abbrev pub place_of : Reader → ℕ
place_of r = r.at

-- the kind and the body, or the fault, that was read
abbrev pub shown : Result Frame Fault → Result (Kind × List ℕ) Fault
shown (Ok f) = Ok (frame_kind f, frame_body f)
shown (Err fault) = Err fault

-- the same of what was handed out
abbrev pub handed : Option (Result Placed Misfit) → Standing
handed None = None
handed (Some (Ok p)) = Some (Ok (frame_kind p.frame, frame_body p.frame))
handed (Some (Err m)) = Some (Err m.fault)

-- its offset, if anything was handed out, is i
abbrev pub Offset : ℕ → Option (Result Placed Misfit) → Type 0
Offset i None = Unit {0}
Offset i (Some (Ok p)) = p.offset ≡ i
Offset i (Some (Err m)) = m.offset ≡ i

-- a frame that was handed out has a body that its kind can have, and its bytes are the first of these
pub record Begun (bs : List ℕ) (f : Frame) : Type 0 where
  pub suits : fits (frame_kind f) (length (frame_body f)) ≡ true
  pub bytes : take (4 + length (frame_body f)) bs ≡ framed (frame_kind f) (frame_body f)
  pub within : 4 + length (frame_body f) ≤ length bs

abbrev pub Whole : List ℕ → Placed → Type 0
Whole bs p = Begun bs p.frame

abbrev pub IfFramed : Option (Result Placed Misfit) → (Placed → Type 0) → Type 0
IfFramed None P = Unit {0}
IfFramed (Some (Err m)) P = Unit {0}
IfFramed (Some (Ok p)) P = P p

-- the same of calls
abbrev pub handed_call : Option (Result Event Misfit) → Option (Result Call Fault)
handed_call None = None
handed_call (Some (Ok e)) = Some (Ok e.call)
handed_call (Some (Err m)) = Some (Err m.fault)

abbrev pub EventOffset : ℕ → Option (Result Event Misfit) → Type 0
EventOffset i None = Unit {0}
EventOffset i (Some (Ok e)) = e.offset ≡ i
EventOffset i (Some (Err m)) = m.offset ≡ i

-- one call of a reader: what stood at its place, and where it stands after that
pub record Reads (s : Reader) (r : Option (Result Event Misfit)) (t : Reader) : Type 0 where
  pub call : handed_call r ≡ call_at (script_of s) (place_of s)
  pub offset : EventOffset (place_of s) r
  pub script : script_of t ≡ script_of s
  pub place : place_of t ≡ next_place (script_of s) (place_of s)
  pub forward : OnSome r ((place_of s < place_of t) × (place_of t ≤ length (script_of s)))
