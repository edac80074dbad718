-- The body of a frame for each call, and the call of each body. Assumes nothing.
use Rattle.std.specs.Prelude.{ℕ, cond, List, [], ◌∷◌, ◌++◌, length, Some, None, Ok, Err, Option, Result, slice_index}
use Rattle.std.specs.Option.{option_map}
use Rattle.model.specs.declared.answer.Fault.{Fault}
use Rattle.model.specs.declared.answer.Fault.TheVariants.{WrongLength}
use Rattle.model.specs.declared.call.Call.{Call}
use Rattle.model.specs.declared.call.Call.TheVariants as call
use Rattle.model.specs.declared.call.Junk.TheVariants.{Fill, Page}
use Rattle.frames.specs.declared.kind.Kind.{Kind}
use Rattle.frames.specs.declared.kind.Kind.TheVariants as kind
use Rattle.model.specs.Bytes.{u16_at, u32_at, u16_bytes, u32_bytes}
use Rattle.frames.specs.Frames.{framed}
use Rattle.frames.specs.Kinds.{fits}

-- the call that a body of a kind stands for
abbrev pub call_of : Kind → List ℕ → Call
call_of kind.HandIn b =
    call.HandIn record { name = record { sender = u16_at b 0; serial = u32_at b 4; time = u32_at b 8 }; stop = u16_at b 2; amount = u16_at b 12 }
call_of kind.Advance b = call.Advance (u32_at b 0)
call_of kind.Fire b = call.Fire (slice_index b 0)
call_of kind.Send b = call.Send
call_of kind.Lose b = call.Lose (slice_index b 0)
call_of kind.Repeat b = call.Repeat (slice_index b 0)
call_of kind.Deliver b = call.Deliver (slice_index b 0)
call_of kind.Pass b = call.Pass
call_of kind.Restart b = call.Restart (slice_index b 0) (u32_at b 1) (slice_index b 5) (Fill (slice_index b 6))
call_of kind.Show b = call.Show
call_of kind.MarkDone b = call.MarkDone (u16_at b 0) (u32_at b 2)

-- any body of the right length decodes
abbrev pub decoded : Kind → List ℕ → Result Call Fault
decoded k b = cond (fits k (length b)) (Ok (call_of k b)) (Err WrongLength)

abbrev pub kind_for : Call → Kind
kind_for (call.HandIn r) = kind.HandIn
kind_for (call.Advance time) = kind.Advance
kind_for (call.Fire node) = kind.Fire
kind_for call.Send = kind.Send
kind_for (call.Lose place) = kind.Lose
kind_for (call.Repeat place) = kind.Repeat
kind_for (call.Deliver place) = kind.Deliver
kind_for call.Pass = kind.Pass
kind_for (call.Restart node left tear junk) = kind.Restart
kind_for call.Show = kind.Show
kind_for (call.MarkDone stop serial) = kind.MarkDone

-- the body that stands for a call; a restart that lends a whole page of junk has none
abbrev pub body_of : Call → Option (List ℕ)
body_of (call.HandIn r) =
    Some (u16_bytes r.name.sender ++ (u16_bytes r.stop ++ (u32_bytes r.name.serial ++ (u32_bytes r.name.time ++ u16_bytes r.amount))))
body_of (call.Advance time) = Some (u32_bytes time)
body_of (call.Fire node) = Some (node ∷ [])
body_of call.Send = Some []
body_of (call.Lose place) = Some (place ∷ [])
body_of (call.Repeat place) = Some (place ∷ [])
body_of (call.Deliver place) = Some (place ∷ [])
body_of call.Pass = Some []
body_of (call.Restart node left tear (Fill fill)) = Some (node ∷ (u32_bytes left ++ (tear ∷ fill ∷ [])))
body_of (call.Restart node left tear (Page page)) = None
body_of call.Show = Some []
body_of (call.MarkDone stop serial) = Some (u16_bytes stop ++ u32_bytes serial)

-- the whole frame of a call
abbrev pub frame_of : Call → Option (List ℕ)
frame_of c = option_map (framed (kind_for c)) (body_of c)
