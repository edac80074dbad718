-- What is asked of all stops together. Assumes nothing.
use Rattle.std.specs.Prelude.{ℕ, zero, suc, ◌+◌, min, List, [], ◌∷◌, ◌++◌, Some, None, Option, nat_lt}
use Rattle.model.specs.Computation.{Computation}
use Rattle.model.specs.Limits.{stops}
use Rattle.model.specs.FirstBest.{first_best}
use Rattle.model.specs.Row.{Row, oldest}
use Rattle.model.specs.declared.record.Production.{Production}

-- the earliest due with its stop, ties to the lowest stop
abbrev pub earliest : Computation (List ℕ) → (ℕ → Row) → Option (ℕ × ℕ)
earliest c rows = first_best (λ d e. nat_lt d e) (λ s. c.due (rows s).state) stops

-- of each stop's oldest pending production, the one with the greatest amount, ties to the lowest stop
abbrev pub greatest : (ℕ → Row) → Option (ℕ × Production)
greatest rows = first_best (λ p q. nat_lt q.amount p.amount) (λ s. oldest (rows s).pending) stops

-- the least of a number, the times of some productions, and a due
abbrev pub least_time : List Production → ℕ → ℕ
least_time [] b = b
least_time (p ∷ ps) b = min p.time (least_time ps b)

abbrev pub least_due : Option ℕ → ℕ → ℕ
least_due None b = b
least_due (Some d) b = min d b

unfoldable pub low_below : Computation (List ℕ) → (ℕ → Row) → ℕ → ℕ → ℕ
low_below c rows w zero = w
low_below c rows w (suc n) = least_due (c.due (rows n).state) (least_time (rows n).pending (low_below c rows w n))

-- the low watermark: the least of the watermark, all pending times and all dues
abbrev pub lowest : Computation (List ℕ) → (ℕ → Row) → ℕ → ℕ
lowest c rows w = low_below c rows w stops

-- the stops with something pending, rising
abbrev pub listed : ℕ → List Production → List ℕ
listed s [] = []
listed s (p ∷ ps) = s ∷ []

unfoldable pub pending_below : (ℕ → Row) → ℕ → List ℕ
pending_below rows zero = []
pending_below rows (suc n) = pending_below rows n ++ listed n (rows n).pending

abbrev pub pending_stops : (ℕ → Row) → List ℕ
pending_stops rows = pending_below rows stops

-- the sum of a number for each stop
unfoldable pub sum_below : (ℕ → ℕ) → ℕ → ℕ
sum_below f zero = 0
sum_below f (suc n) = sum_below f n + f n

abbrev pub sum_stops : (ℕ → ℕ) → ℕ
sum_stops f = sum_below f stops
