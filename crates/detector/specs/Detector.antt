-- The detector predicts the next amount and tells of a spike: an amount of at least ten that is at least twice what was
-- predicted. Assumes nothing.
use Rattle.std.specs.Prelude.{ℕ, ◌+◌, ◌*◌, ◌≤◌, min, Bool, cond, ◌&&◌, List, ◌++◌, replicate, pos, ◌+ℤ◌, ◌-ℤ◌, Some, None, Option, int_div, nat_le, nat_lt, unsigned_abs}
use Rattle.model.specs.Computation.{Computation}
use Rattle.model.specs.Limits.{last_time}
use Rattle.model.specs.declared.answer.Verdict.{Verdict}
use Rattle.model.specs.declared.answer.Verdict.TheVariants.{TooMuch, Fine}
use Rattle.model.specs.Bytes.{u32_at, u32_bytes}
use Rattle.detector.specs.declared.state.DetectorState.{DetectorState}

-- predictions are in sixteenths
abbrev pub sixteenths : ℕ → ℕ
sixteenths a = 16 * a

abbrev pub most_predicted : ℕ
most_predicted = 1048560

-- the largest total that four bytes hold
abbrev pub most_total : ℕ
most_total = 4294967295

-- an amount that stands out, by the prediction made before it
abbrev pub spike : ℕ → ℕ → Bool
spike p a = nat_le 10 a && nat_le (2 * p) (sixteenths a)

-- the prediction moves a quarter of the way to the amount; the quarter is rounded toward zero
abbrev pub moved : ℕ → ℕ → ℕ
moved p a = unsigned_abs (pos p +ℤ int_div (pos (sixteenths a) -ℤ pos p) (pos 4))

abbrev pub detector_verdict : DetectorState → ℕ → ℕ → ℕ → Verdict
detector_verdict s w t a = cond (nat_lt most_total (s.total + a)) TooMuch Fine

abbrev pub detector_take : DetectorState → ℕ → ℕ → ℕ → DetectorState × Option (ℕ × ℕ)
detector_take s w t a = (
  record { predicted = moved s.predicted a; total = s.total + a; mark = t },
  cond (spike s.predicted a) (Some (t, a)) None,
)

-- prediction, total and mark in four bytes each, and twenty zeros
abbrev pub detector_store : DetectorState → List ℕ
detector_store s = u32_bytes s.predicted ++ u32_bytes s.total ++ u32_bytes s.mark ++ replicate 20 0

-- no prediction is above the largest amount, and no mark past the last time
abbrev pub detector_load : List ℕ → DetectorState
detector_load bs =
    record { predicted = min (u32_at bs 0) most_predicted; total = u32_at bs 4; mark = min (u32_at bs 8) last_time }

-- it is never early and has no due
abbrev pub detector : Computation DetectorState
detector = record {
  mark = λ s. s.mark;
  due = λ s. None;
  verdict = detector_verdict;
  take = detector_take;
  fire = λ s. (s, None);
  store = detector_store;
  load = detector_load;
}

pub record DetectorSound (s : DetectorState) : Type 0 where
  pub predicted : s.predicted ≤ most_predicted
  pub total : s.total ≤ most_total
  pub time : s.mark ≤ last_time
