-- Whether a row and a buffer are in range, by the number of rows.
use Rattle.std.proofs.Common.{◌≡◌, ℕ, ◌<◌, ◌≤◌, true, false, ltb, List, length, arith}
use Rattle.std.proofs.lemmas.Bool.{and_from, and_left, and_right, lt-ltb, le-ltb, eq-eqb, ne_eqb}
use Rattle.model.specs.Limits.{page_bytes}
use Rattle.model.specs.Store.{Stored, row_fits}

module _ (s : Stored) (n row : ℕ) (bytes : List ℕ) (e : length s.rows ≡ n) where
  pub row_fits_lem : row < n → length bytes ≡ page_bytes → row_fits s row bytes ≡ true
  row_fits_lem l w = and_from _ _ (lt-ltb row (length s.rows) (omega arith)) (eq-eqb (length bytes) page_bytes w)

  pub no_row : n ≤ row → row_fits s row bytes ≡ false
  no_row l = and_left _ _ (le-ltb row (length s.rows) (omega arith))

  pub no_page : (length bytes ≡ page_bytes → ⊥) → row_fits s row bytes ≡ false
  no_page ne = and_right (ltb row (length s.rows)) _ (ne_eqb (length bytes) page_bytes ne)
