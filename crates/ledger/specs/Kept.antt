-- A store that keeps what a node says. Assumes nothing.
use Rattle.std.specs.Prelude.{◌≡◌, ℕ, ◌<◌, ◌≤◌, false, List, [], length, replicate, slice_index_or}
use Rattle.model.specs.Limits.{stops, last_time, page_bytes}
use Rattle.model.specs.Row.{Row}
use Rattle.model.specs.Store.{Stored}
use Rattle.rows.specs.Layout.{encoded, encoded_watermark, RowFits}
use Rattle.law.specs.Node.{Node}

-- these are the bytes of a row that fits into them
pub record Stands (bytes : List ℕ) (r : Row) : Type 0 where
  pub encodes : bytes ≡ encoded r
  pub fits : RowFits r

-- a row for each stop, the watermark behind them, and the node's power
pub record Kept (s : Stored) (n : Node) : Type 0 where
  pub count : length s.rows ≡ 33
  pub row : (q : ℕ) → q < stops → Stands (slice_index_or s.rows q []) (n.row q)
  pub watermark : slice_index_or s.rows stops [] ≡ encoded_watermark n.w
  pub watermark_fits : n.w ≤ last_time
  pub power : s.power ≡ n.power

-- a store that is off, with nothing but zeros in its rows
pub record Blank (s : Stored) : Type 0 where
  pub rows : s.rows ≡ replicate 33 (replicate page_bytes 0)
  pub off : s.power.on ≡ false
