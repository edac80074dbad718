-- A frame always has room in the longest frame's.
use Rattle.std.proofs.Common.{◌≡◌, ℕ, ◌≤◌, Bool, true, false, cond, ltb, List, [], ◌++◌, length, take, drop, is_ok, is_err, IfOk, Some, None, Ok, Err, Option, Result, unwrap_or, refl, ap, ◌∙◌, arith}
use Rattle.std.proofs.lemmas.List.{take_at}
use Rattle.std.proofs.lemmas.Bool.{ltb-true}
use Rattle.model.specs.declared.answer.Fault.{Fault}
use Rattle.model.specs.declared.answer.Fault.TheVariants.{BufferTooSmall}
use Rattle.model.specs.declared.call.Call.{Call}
use Rattle.model.specs.declared.call.Call.TheVariants.{HandIn, Advance, Fire, Send, Lose, Repeat, Deliver, Pass, Restart, Show, MarkDone}
use Rattle.model.specs.declared.call.Junk.TheVariants.{Fill, Page}
use Rattle.frames.specs.Writing.{buffer_after, write_answer}
use Rattle.assembly.specs.Assembled.{bytes_of}

pub short : (c : Call) → length (bytes_of c) ≤ 18
short (HandIn r) = omega arith
short (Advance time) = omega arith
short (Fire node) = omega arith
short Send = omega arith
short (Lose place) = omega arith
short (Repeat place) = omega arith
short (Deliver place) = omega arith
short Pass = omega arith
short (Restart node left tear (Fill fill)) = omega arith
short (Restart node left tear (Page page)) = omega arith
short Show = omega arith
short (MarkDone stop serial) = omega arith

-- what was written is the frame
put_some : (frame buffer held : List ℕ) (size : ℕ) (small : Bool)
    → Ok size ≡ cond small (Err BufferTooSmall) (Ok (length frame)) → held ≡ cond small buffer (frame ++ drop (length frame) buffer) → take size held ≡ frame
put_some frame buffer held size true e h = let z : ◌≡◌ {A = ℕ} 0 1 = cc in absurd (omega arith)
put_some frame buffer held size false e h =
    let s : size ≡ length frame = cc in
    ap (λ n. take n held) s ∙ ap (λ xs. take (length frame) xs) h ∙ take_at frame (drop (length frame) buffer) (length frame) refl

pub put : (o : Option (List ℕ)) (buffer held : List ℕ) (size : ℕ)
    → Ok size ≡ write_answer o (length buffer) → held ≡ buffer_after o buffer → take size held ≡ unwrap_or o []
put None buffer held size e h = let z : ◌≡◌ {A = ℕ} 0 1 = cc in absurd (omega arith)
put (Some frame) buffer held size e h = put_some frame buffer held size (ltb (length buffer) (length frame)) e h

refused_some : (frame : List ℕ) (room : ℕ) (fault : Fault) (small : Bool) → ltb room (length frame) ≡ small → length frame ≤ room
    → Err fault ≡ cond small (Err BufferTooSmall) (Ok (length frame)) → frame ≡ []
refused_some frame room fault true s l e = absurd (omega (arith, ltb-true room (length frame) s))
refused_some frame room fault false s l e = let z : ◌≡◌ {A = ℕ} 0 1 = cc in absurd (omega arith)

-- only a call without a frame is refused
pub refused : (o : Option (List ℕ)) (room : ℕ) (fault : Fault) → length (unwrap_or o []) ≤ room → Err fault ≡ write_answer o room → unwrap_or o [] ≡ []
refused None room fault l e = refl
refused (Some frame) room fault l e = refused_some frame room fault (ltb room (length frame)) refl l e

-- what an `Ok` says of a list that grew or stayed
pub if_grown : {X Y : Type 0} (r : Result X Y) (now_is grown stayed : List ℕ) → now_is ≡ cond (is_ok r) grown stayed → IfOk r (λ _. now_is ≡ grown)
if_grown (Ok x) now_is grown stayed e = e
if_grown (Err y) now_is grown stayed e = tt

pub at_ok : {X Y : Type 0} (r : Result X Y) (P : Type 0) → is_err r ≡ false → IfOk r (λ _. P) → P
at_ok (Ok x) P e h = h
at_ok (Err y) P e h = let z : ◌≡◌ {A = ℕ} 0 1 = cc in absurd (omega arith)
