-- The bytes of a frame, and what a frame shows: its kind and the bytes of its body. Assumes nothing.
use Rattle.std.specs.Prelude.{ℕ, List, ◌++◌, length}
use Rattle.frames.specs.declared.frame.Frame.{Frame}
use Rattle.frames.specs.declared.frame.Frame.TheVariants as frame
use Rattle.frames.specs.declared.kind.Kind.{Kind}
use Rattle.frames.specs.declared.kind.Kind.TheVariants as kind
use Rattle.model.specs.Bytes.{u16_bytes}
use Rattle.frames.specs.Kinds.{kind_number}

abbrev pub frame_kind : Frame → Kind
frame_kind (frame.HandIn b) = kind.HandIn
frame_kind (frame.Advance b) = kind.Advance
frame_kind (frame.Fire b) = kind.Fire
frame_kind (frame.Send b) = kind.Send
frame_kind (frame.Lose b) = kind.Lose
frame_kind (frame.Repeat b) = kind.Repeat
frame_kind (frame.Deliver b) = kind.Deliver
frame_kind (frame.Pass b) = kind.Pass
frame_kind (frame.Restart b) = kind.Restart
frame_kind (frame.Show b) = kind.Show
frame_kind (frame.MarkDone b) = kind.MarkDone

abbrev pub frame_body : Frame → List ℕ
frame_body (frame.HandIn b) = b.now
frame_body (frame.Advance b) = b.now
frame_body (frame.Fire b) = b.now
frame_body (frame.Send b) = b.now
frame_body (frame.Lose b) = b.now
frame_body (frame.Repeat b) = b.now
frame_body (frame.Deliver b) = b.now
frame_body (frame.Pass b) = b.now
frame_body (frame.Restart b) = b.now
frame_body (frame.Show b) = b.now
frame_body (frame.MarkDone b) = b.now

-- length, kind, body
abbrev pub framed : Kind → List ℕ → List ℕ
framed k body = u16_bytes (length body) ++ (u16_bytes (kind_number k) ++ body)
