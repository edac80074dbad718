-- The rows of a store whose row r is f r. Assumes nothing.
use Rattle.std.specs.Prelude.{ℕ, List, map}
use Rattle.std.specs.List.{range_with_len}

unfoldable pub rows_by : (ℕ → List ℕ) → ℕ → List (List ℕ)
rows_by f n = map f (range_with_len 0 n)
