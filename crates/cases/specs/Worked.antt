-- Worked cases, each an equation with the definitions that the contracts use. Assumes nothing.
use Rattle.std.specs.Prelude.{◌≡◌, ℕ, true, false, [], ◌∷◌, Some, None, Option}
use Rattle.model.specs.Computation.{zero_state}
use Rattle.model.specs.OnBytes.{on_bytes}
use Rattle.model.specs.Power.{Power, commit_answer, renewed, spent, restart_answer, restarted}
use Rattle.model.specs.declared.answer.Answer.{Answer}
use Rattle.model.specs.declared.answer.Answer.TheVariants.{Done, Late, Early, Over, Cut}
use Rattle.model.specs.declared.answer.CutPoint.{CutPoint}
use Rattle.model.specs.declared.record.Record.{Record}
use Rattle.law.specs.Node.{Node, hand_in}
use Rattle.counter.specs.Counter.{counter}
use Rattle.counter.specs.declared.state.CounterState.{CounterState}
use Rattle.detector.specs.Detector.{detector}
use Rattle.detector.specs.declared.state.DetectorState.{DetectorState}

-- a stop's counter to which nothing has happened, and one that has taken an amount at second 30
abbrev pub empty : CounterState
empty = counter.load zero_state

abbrev pub holding : ℕ → CounterState
holding a = (counter.take empty 0 30 a).0

-- so many requests at a time
abbrev pub asked : ℕ → ℕ → Record
asked t a = record { name = record { sender = 7; serial = 1; time = t }; stop = 3; amount = a }

-- power that lasts so many writes and then leaves the page old at tear 0, new at 1, junk at 2
abbrev pub lasting : ℕ → ℕ → Power
lasting left tear = record { on = true; left = left; tear = tear; owed = 0 }

-- a collector over a journal store, every stop of which has counted so much at this watermark
abbrev pub collector : CounterState → ℕ → Node
collector s w = record {
  row = λ q. record { next = 0; state = counter.store s; pending = []; names = [] };
  w = w;
  power = lasting 100 0;
  queue = [];
}

-- what it makes of a record that is handed in
abbrev pub handed : CounterState → ℕ → ℕ → ℕ → Answer × Node
handed s w t a =
    hand_in
    (record { computation = on_bytes counter; cost = 4; turn = 2 })
    (record { owed = 0; point = λ q. record { node = 0; row = q; page = 0 }; wake = record { node = 0; row = 0; page = 0 } })
    (asked t a)
    (collector s w)

-- the record is taken: its name stands in the row, and the state is the one after the take
pub record Taken (s : CounterState) (w t a : ℕ) : Type 0 where
  pub done : (handed s w t a).0 ≡ Done
  pub named : ((handed s w t a).1.row 3).names ≡ (asked t a).name ∷ []
  pub counted : ((handed s w t a).1.row 3).state ≡ counter.store (counter.take s w t a).0

-- the record is refused, and nothing has changed
abbrev pub Refused : CounterState → ℕ → ℕ → ℕ → Answer → Type 0
Refused s w t a answer = handed s w t a ≡ (answer, collector s w)

-- which times a counter takes at a watermark, and how much
pub record Counted : Type 0 where
  pub empty_239 : Taken empty 0 239 1
  pub empty_240 : Refused empty 0 240 1 Early
  pub at_60_empty_59 : Refused empty 60 59 1 Late
  pub at_60_empty_60 : Taken empty 60 60 1
  pub at_60_empty_299 : Taken empty 60 299 1
  pub at_60_empty_300 : Refused empty 60 300 1 Early
  pub at_60_open_239 : Taken (holding 12) 60 239 1
  pub at_60_open_240 : Refused (holding 12) 60 240 1 Early
  pub up_to_the_largest_sum : Taken (holding 40000) 0 30 25535
  pub past_the_largest_sum : Refused (holding 40000) 0 30 25536 Over

-- a stop's detector to which nothing has happened, one that predicts so much, and what it does with an amount
abbrev pub unaware : DetectorState
unaware = detector.load zero_state

abbrev pub predicting : ℕ → DetectorState
predicting p = record { predicted = p; total = 0; mark = 0 }

abbrev pub after : DetectorState → ℕ → ℕ → DetectorState × Option (ℕ × ℕ)
after s t a = detector.take s t t a

-- four amounts, one after the other
abbrev pub twelve : DetectorState × Option (ℕ × ℕ)
twelve = after unaware 60 12

abbrev pub five : DetectorState × Option (ℕ × ℕ)
five = after twelve.0 120 5

abbrev pub three : DetectorState × Option (ℕ × ℕ)
three = after five.0 180 3

abbrev pub two : DetectorState × Option (ℕ × ℕ)
two = after three.0 240 2

-- which amounts a detector tells of, and what it predicts then
pub record Detected : Type 0 where
  pub predicts_nothing : unaware.predicted ≡ 0
  pub twelve_tells : twelve.1 ≡ Some (60, 12)
  pub twelve_moves : twelve.0.predicted ≡ 48
  pub five_is_quiet : five.1 ≡ None
  pub five_moves : five.0.predicted ≡ 56
  pub three_is_quiet : three.1 ≡ None
  pub three_moves : three.0.predicted ≡ 54
  pub two_is_quiet : two.1 ≡ None
  pub two_moves : two.0.predicted ≡ 49
  pub ten_at_80_tells : (after (predicting 80) 60 10).1 ≡ Some (60, 10)
  pub ten_at_81_is_quiet : (after (predicting 81) 60 10).1 ≡ None

-- a shadow store commits by two writes and turns at the second; with one left the second is the cut
pub record Shadowed (point : CutPoint) : Type 0 where
  pub cut : (tear : ℕ) → commit_answer 2 point (lasting 1 tear) ≡ Cut point
  pub old_at_0 : renewed 2 (lasting 1 0) ≡ false
  pub new_at_1 : renewed 2 (lasting 1 1) ≡ true
  pub old_at_2 : renewed 2 (lasting 1 2) ≡ false

-- a journal store commits by four writes and turns at the second; cut at the third it owes two
pub record Journalled (point : CutPoint) (tear : ℕ) : Type 0 where
  pub cut : commit_answer 4 point (lasting 2 tear) ≡ Cut point
  pub new : renewed 2 (lasting 2 tear) ≡ true
  pub off : (spent 4 2 (lasting 2 tear)).on ≡ false
  pub with_one_cut : restart_answer 1 point (spent 4 2 (lasting 2 tear)) ≡ Cut point
  pub with_one_off : (restarted 1 tear 2 (spent 4 2 (lasting 2 tear))).on ≡ false
  pub with_two_done : restart_answer 2 point (spent 4 2 (lasting 2 tear)) ≡ Done
  pub with_two_on : (restarted 2 tear 0 (spent 4 2 (lasting 2 tear))).on ≡ true
  pub with_two_left : (restarted 2 tear 0 (spent 4 2 (lasting 2 tear))).left ≡ 0

-- all of them together
pub record Worked : Type 0 where
  pub counted : Counted
  pub detected : Detected
  pub shadowed : (point : CutPoint) → Shadowed point
  pub journalled : (point : CutPoint) (tear : ℕ) → Journalled point tear
