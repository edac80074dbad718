-- The counter adds up what is asked for in each minute. Four minutes are open; one closes by being fired, or passes empty.
-- Assumes nothing.
use Rattle.std.specs.Prelude.{◌≡◌, ℕ, zero, suc, ◌+◌, ◌*◌, ◌/◌, ◌%◌, ◌<◌, ◌≤◌, min, max, cond, List, [], ◌∷◌, ◌++◌, length, replicate, Some, None, sum, Option, nat_le, nat_lt, slice_index, slice_set}
use Rattle.model.specs.Computation.{Computation}
use Rattle.model.specs.Limits.{last_time, most_amount}
use Rattle.model.specs.Bytes.{u32_at, u16_at, u32_bytes, u16_bytes}
use Rattle.model.specs.declared.answer.Verdict.{Verdict}
use Rattle.model.specs.declared.answer.Verdict.TheVariants.{TooEarly, TooMuch, Fine}
use Rattle.counter.specs.declared.state.CounterState.{CounterState}

-- the sum of minute m stands in place m modulo 4
abbrev pub sum_of : CounterState → ℕ → ℕ
sum_of s m = slice_index s.sums (m % 4)

-- the earliest of n minutes from m on that has a sum
unfoldable pub earliest_from : CounterState → ℕ → ℕ → Option ℕ
earliest_from s m zero = None
earliest_from s m (suc n) = cond (nat_lt 0 (sum_of s m)) (Some m) (earliest_from s (m + 1) n)

-- the open minutes begin at the mark
abbrev pub earliest : CounterState → Option ℕ
earliest s = earliest_from s (s.mark / 60) 4

-- of n minutes from f on, m is the earliest with a sum
pub record Earliest (s : CounterState) (f n m : ℕ) : Type 0 where
  pub from : f ≤ m
  pub to : m < f + n
  pub some : 0 < sum_of s m
  pub before : (k : ℕ) → f ≤ k → k < m → sum_of s k ≡ 0

-- of n minutes from f on, none has a sum
abbrev pub Empty : CounterState → ℕ → ℕ → Type 0
Empty s f n = (k : ℕ) → f ≤ k → k < f + n → sum_of s k ≡ 0

-- a mark goes with the watermark, but not past a minute with a sum
abbrev pub reached : Option ℕ → ℕ → ℕ
reached None w = 60 * (w / 60)
reached (Some m) w = min (60 * (w / 60)) (60 * m)

abbrev pub raised : CounterState → ℕ → ℕ
raised s w = max s.mark (reached (earliest s) w)

-- too early is four minutes past the raised mark; too much is past the largest sum
abbrev pub counter_verdict : CounterState → ℕ → ℕ → ℕ → Verdict
counter_verdict s w t a =
    cond (nat_le (raised s w + 240) t) TooEarly (cond (nat_lt most_amount (sum_of s (t / 60) + a)) TooMuch Fine)

-- a minute is due at its end
abbrev pub end : Option ℕ → Option ℕ
end None = None
end (Some m) = Some (60 * (m + 1))

-- a take adds to the sum of its minute
abbrev pub counter_take : CounterState → ℕ → ℕ → ℕ → CounterState × Option (ℕ × ℕ)
counter_take s w t a =
    (record { mark = raised s w; sums = slice_set s.sums (t / 60 % 4) (sum_of s (t / 60) + a) }, None)

-- a minute that fires emits its end and its sum, and the next one is the first open
abbrev pub closed : CounterState → Option ℕ → CounterState × Option (ℕ × ℕ)
closed s None = (s, None)
closed s (Some m) =
    (record { mark = 60 * (m + 1); sums = slice_set s.sums (m % 4) 0 }, Some (60 * (m + 1), sum_of s m))

-- the mark in four bytes, the four sums in two each, and twenty zeros
abbrev pub counter_store : CounterState → List ℕ
counter_store s =
    u32_bytes s.mark ++
    u16_bytes (slice_index s.sums 0) ++
    u16_bytes (slice_index s.sums 1) ++
    u16_bytes (slice_index s.sums 2) ++
    u16_bytes (slice_index s.sums 3) ++
    replicate 20 0

-- a mark is the start of a minute, and no later than the last time
abbrev pub counter_load : List ℕ → CounterState
counter_load bs =
    record {
      mark = 60 * (min (u32_at bs 0) last_time / 60);
      sums = u16_at bs 4 ∷ u16_at bs 6 ∷ u16_at bs 8 ∷ u16_at bs 10 ∷ [];
    }

abbrev pub counter : Computation CounterState
counter = record {
  mark = λ s. s.mark;
  due = λ s. end (earliest s);
  verdict = counter_verdict;
  take = counter_take;
  fire = λ s. closed s (earliest s);
  store = counter_store;
  load = counter_load;
}

-- four sums, each of them an amount, from the start of a minute on
pub record CounterSound (s : CounterState) : Type 0 where
  pub minute : s.mark % 60 ≡ 0
  pub time : s.mark ≤ last_time
  pub four : length s.sums ≡ 4
  pub small : (i : ℕ) → slice_index s.sums i ≤ most_amount

-- what the sums hold
abbrev pub held : CounterState → ℕ
held s = sum s.sums
