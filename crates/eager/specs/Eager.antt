-- A computation made to be as unpleasant as the laws allow: it emits the largest amount at every take and every fire, its
-- mark goes as far as it may, its due stays as early as it may and so is due again after every fire, and its verdicts
-- follow no reason. Assumes nothing.
use Rattle.std.specs.Prelude.{ℕ, ◌%◌, ◌≤◌, min, max, cond, List, ◌∷◌, ◌++◌, replicate, Some, None, Option, ◌==◌, slice_index}
use Rattle.model.specs.Computation.{Computation}
use Rattle.model.specs.Limits.{last_time, most_amount}
use Rattle.model.specs.declared.answer.Verdict.{Verdict}
use Rattle.model.specs.declared.answer.Verdict.TheVariants.{TooEarly, TooMuch, Fine}
use Rattle.model.specs.Bytes.{u32_at, u32_bytes}
use Rattle.eager.specs.declared.state.EagerState.{EagerState}

abbrev pub eager_verdict : EagerState → ℕ → ℕ → ℕ → Verdict
eager_verdict s w t a = cond (t % 7 == 6) TooEarly (cond (a == 13) TooMuch Fine)

-- the due before, or the time taken
abbrev pub due_or : Option ℕ → ℕ → Option ℕ
due_or None t = Some t
due_or (Some d) t = Some (min d t)

abbrev pub eager_take : EagerState → ℕ → ℕ → ℕ → EagerState × Option (ℕ × ℕ)
eager_take s w t a = (record { mark = t; due = due_or s.due t }, Some (t, most_amount))

-- the later of the mark and the due
abbrev pub pushed : ℕ → Option ℕ → ℕ
pushed m None = m
pushed m (Some d) = max m d

abbrev pub eager_fire : EagerState → EagerState × Option (ℕ × ℕ)
eager_fire s = (record { mark = pushed s.mark s.due; due = s.due }, Some (pushed s.mark s.due, most_amount))

-- the mark, then 1 and the due, or zeros
abbrev pub due_bytes : Option ℕ → List ℕ
due_bytes None = replicate 5 0
due_bytes (Some d) = 1 ∷ u32_bytes d

abbrev pub eager_store : EagerState → List ℕ
eager_store s = u32_bytes s.mark ++ due_bytes s.due ++ replicate 23 0

abbrev pub eager_load : List ℕ → EagerState
eager_load bs =
    record { mark = min (u32_at bs 0) last_time; due = cond (slice_index bs 4 == 0) None (Some (min (u32_at bs 5) last_time)) }

abbrev pub eager : Computation EagerState
eager = record {
  mark = λ s. s.mark;
  due = λ s. s.due;
  verdict = eager_verdict;
  take = eager_take;
  fire = eager_fire;
  store = eager_store;
  load = eager_load;
}

abbrev pub InTime : Option ℕ → Type 0
InTime None = Unit {0}
InTime (Some d) = d ≤ last_time

pub record EagerSound (s : EagerState) : Type 0 where
  pub time : s.mark ≤ last_time
  pub in_time : InTime s.due
