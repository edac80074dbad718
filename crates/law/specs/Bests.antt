-- What the earliest due, the greatest production and the low watermark are, in other words. Assumes nothing.
use Rattle.std.specs.Prelude.{◌≡◌, ℕ, ◌<◌, ◌≤◌, ◌⊎◌, List, Some}
use Rattle.model.specs.Computation.{Computation, Upto}
use Rattle.model.specs.Limits.{stops}
use Rattle.model.specs.Row.{Row}
use Rattle.model.specs.declared.record.Production.{Production}
use Rattle.law.specs.Lists.{Mem}
use Rattle.model.specs.Row.{oldest}

-- stop s is due at t, and no stop is due before it, nor a lower stop with it
pub record FirstDue (c : Computation (List ℕ)) (rows : ℕ → Row) (s t : ℕ) : Type 0 where
  pub stop : s < stops
  pub due : c.due (rows s).state ≡ Some t
  pub first : (q e : ℕ) → q < stops → c.due (rows q).state ≡ Some e → (t < e) ⊎ ((t ≡ e) × (s ≤ q))

-- x is the oldest pending of stop s, and no stop's oldest has a greater amount, nor a lower stop's the same
pub record Crowd (rows : ℕ → Row) (s : ℕ) (x : Production) : Type 0 where
  pub stop : s < stops
  pub oldest_is : oldest (rows s).pending ≡ Some x
  pub greatest_is
      : (q : ℕ) (y : Production)
      → q < stops → oldest (rows q).pending ≡ Some y → (y.amount < x.amount) ⊎ ((y.amount ≡ x.amount) × (s ≤ q))

-- a number is at most the watermark, all pending times and all dues of the stops below a number
pub record Lows (c : Computation (List ℕ)) (rows : ℕ → Row) (w b n : ℕ) : Type 0 where
  pub watermark : b ≤ w
  pub pending : (s : ℕ) → s < n → (p : Production) → Mem p (rows s).pending → b ≤ p.time
  pub dues : (s : ℕ) → s < n → Upto b (c.due (rows s).state)
