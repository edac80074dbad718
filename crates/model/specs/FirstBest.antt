-- The best of what the stops have, ties to the lowest stop. Assumes nothing.
use Rattle.std.specs.Prelude.{ℕ, zero, suc, Bool, cond, Some, None, Option}

abbrev pub better : {X : Type 0} → (X → X → Bool) → Option (ℕ × X) → ℕ → Option X → Option (ℕ × X)
better beats best s None = best
better beats None s (Some x) = Some (s, x)
better beats (Some b) s (Some x) = cond (beats x b.1) (Some (s, x)) (Some b)

-- of the stops below a number, the one whose entry is better than all before it and not worse than any after it
unfoldable pub first_best : {X : Type 0} → (X → X → Bool) → (ℕ → Option X) → ℕ → Option (ℕ × X)
first_best beats at zero = None
first_best beats at (suc n) = better beats (first_best beats at n) n (at n)
