-- The law of the counter: whatever is taken and fired at a stop, for each minute what was emitted for it and what is open
-- in it add up to what was taken in it. Assumes nothing.
use Rattle.std.specs.Prelude.{◌≡◌, ℕ, ◌+◌, ◌*◌, ◌/◌, cond, ◌&&◌, List, [], ◌∷◌, Some, None, Option, ◌==◌, nat_le, nat_lt}
use Rattle.model.specs.Computation.{Takes, Fires, zero_state}
use Rattle.counter.specs.Counter.{counter, CounterSound, sum_of}
use Rattle.counter.specs.declared.state.CounterState.{CounterState}

-- at a watermark an amount is taken at a time, or the stop fires
pub data Event : Type 0 where
  Took : (w t a : ℕ) → Event
  Fired : (w : ℕ) → Event

-- the state after an event, and what was emitted
abbrev pub event : CounterState → Event → CounterState × Option (ℕ × ℕ)
event s (Took w t a) = counter.take s w t a
event s (Fired w) = counter.fire s

-- a take happens where it is fine, and a fire where the watermark has reached a due
abbrev pub May : CounterState → Event → Type 0
May s (Took w t a) = Takes counter CounterSound s w t a
May s (Fired w) = (d : ℕ) × Fires counter CounterSound s w d

-- events that can happen one after the other, from a state on
abbrev pub Happens : CounterState → List Event → Type 0
Happens s [] = Unit {0}
Happens s (e ∷ es) = May s e × Happens (event s e).0 es

-- the state that they leave
abbrev pub leaves : CounterState → List Event → CounterState
leaves s [] = s
leaves s (e ∷ es) = leaves (event s e).0 es

-- what an event takes in a minute
abbrev pub takes_in : ℕ → Event → ℕ
takes_in m (Took w t a) = cond (t / 60 == m) a 0
takes_in m (Fired w) = 0

-- what is emitted for a minute, which is stamped with the minute's end
abbrev pub emits_for : ℕ → Option (ℕ × ℕ) → ℕ
emits_for m None = 0
emits_for m (Some e) = cond (e.0 == 60 * (m + 1)) e.1 0

-- all that was taken in a minute, and all that was emitted for it
abbrev pub taken_in : ℕ → List Event → ℕ
taken_in m [] = 0
taken_in m (e ∷ es) = takes_in m e + taken_in m es

abbrev pub emitted_for : ℕ → CounterState → List Event → ℕ
emitted_for m s [] = 0
emitted_for m s (e ∷ es) = emits_for m (event s e).1 + emitted_for m (event s e).0 es

-- what is open in a minute: its sum, if it is one of the four open minutes
abbrev pub open_in : CounterState → ℕ → ℕ
open_in s m = cond (nat_le (s.mark / 60) m && nat_lt m (s.mark / 60 + 4)) (sum_of s m) 0

abbrev pub MinutesAddUp : Type 0
MinutesAddUp =
    (es : List Event) (m : ℕ)
    → Happens (counter.load zero_state) es
    → emitted_for m (counter.load zero_state) es + open_in (leaves (counter.load zero_state) es) m ≡ taken_in m es
