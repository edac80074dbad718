-- What reading and writing a node's rows promises, of what the store means before (s) and after (t). Assumes nothing.
use Rattle.std.specs.Prelude.{◌≡◌, ℕ, ◌<◌, ◌≤◌, true, Some, Option}
use Rattle.std.specs.Option.{option_map}
use Rattle.model.specs.Limits.{stops, last_time}
use Rattle.model.specs.Row.{Row}
use Rattle.model.specs.Store.{Stored}
use Rattle.model.specs.declared.answer.Answer.{Answer}
use Rattle.rows.specs.Meaning.{row_of}
use Rattle.rows.specs.declared.stop_row.StopRow.{StopRow}
use Rattle.law.specs.Node.{Kit, Node, Free, commit_row, commit_watermark}
use Rattle.ledger.specs.Kept.{Kept}

-- the row of a stop is the one that the store keeps for it
pub record RowRead (s t : Stored) (q : ℕ) (r : Option StopRow) : Type 0 where
  pub means : t ≡ s
  pub row : (n : Node) → Kept s n → n.power.on ≡ true → q < stops → option_map row_of r ≡ Some (n.row q)

-- the answer, and what is kept then, are those of a commit of the row
pub record RowCommitted (kit : Kit) (free : Free) (s t : Stored) (q : ℕ) (new : Row) (a : Answer) : Type 0 where
  pub answer : (n : Node) → Kept s n → n.power.on ≡ true → q < stops → a ≡ (commit_row kit free q new n).0
  pub kept : (n : Node) → Kept s n → n.power.on ≡ true → q < stops → Kept t (commit_row kit free q new n).1

-- the watermark is the one that the store keeps
pub record WatermarkRead (s t : Stored) (r : Option ℕ) : Type 0 where
  pub means : t ≡ s
  pub watermark : (n : Node) → Kept s n → n.power.on ≡ true → r ≡ Some n.w

-- the answer, and what is kept then, are those of a commit of the watermark
pub record WatermarkCommitted (kit : Kit) (free : Free) (s t : Stored) (w : ℕ) (a : Answer) : Type 0 where
  pub answer : (n : Node) → Kept s n → n.power.on ≡ true → a ≡ (commit_watermark kit free w n).0
  pub kept : (n : Node) → Kept s n → n.power.on ≡ true → w ≤ last_time → Kept t (commit_watermark kit free w n).1
