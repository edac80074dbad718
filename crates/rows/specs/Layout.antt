-- The 512 bytes of a row, field after field as they stand in it. Assumes nothing.
use Rattle.std.specs.Prelude.{ℕ, ◌+◌, ◌-◌, ◌*◌, ◌^◌, ◌<◌, ◌≤◌, List, [], ◌∷◌, ◌++◌, length, replicate, slice_index_or}
use Rattle.std.specs.List.{flat_map}
use Rattle.model.specs.Computation.{StateBytes}
use Rattle.model.specs.Limits.{most_pending, most_names, page_bytes}
use Rattle.model.specs.Row.{Row}
use Rattle.model.specs.declared.record.Name.{Name}
use Rattle.model.specs.declared.record.Production.{Production}
use Rattle.model.specs.Bytes.{u16_bytes, u32_bytes}

-- the bytes of a pending production, and of a name
abbrev pub pending_size : ℕ
pending_size = 12

abbrev pub name_size : ℕ
name_size = 10

-- where the state, the pending productions, the names and the last zeros begin
abbrev pub state_at : ℕ
state_at = 8

abbrev pub pending_at : ℕ
pending_at = state_at + 32

abbrev pub names_at : ℕ
names_at = pending_at + most_pending * pending_size

abbrev pub rest_at : ℕ
rest_at = names_at + most_names * name_size

-- serial, time, amount
abbrev pub pending_bytes : Production → List ℕ
pending_bytes p = u32_bytes p.serial ++ (u32_bytes p.time ++ u32_bytes p.amount)

-- sender, serial, time
abbrev pub name_bytes : Name → List ℕ
name_bytes n = u16_bytes n.sender ++ (u32_bytes n.serial ++ u32_bytes n.time)

-- bytes, and zeros up to a size
unfoldable pub padded : ℕ → List ℕ → List ℕ
padded size bs = bs ++ replicate (size - length bs) 0

-- next serial, the two numbers of entries, two zeros, the state, the pending productions, the names, zeros
unfoldable pub encoded : Row → List ℕ
encoded r =
    u32_bytes r.next ++ ((length r.pending ∷ length r.names ∷ 0 ∷ 0 ∷ []) ++ (r.state ++ (padded (most_pending * pending_size) (flat_map pending_bytes r.pending) ++ (padded (most_names * name_size) (flat_map name_bytes r.names) ++ replicate (page_bytes - rest_at) 0))))

-- the row of the watermark: the watermark, zeros
unfoldable pub encoded_watermark : ℕ → List ℕ
encoded_watermark w = u32_bytes w ++ replicate (page_bytes - 4) 0

-- what a row's fields can hold
pub record PendingFits (p : Production) : Type 0 where
  pub serial : p.serial < 2 ^ 32
  pub time : p.time < 2 ^ 32
  pub amount : p.amount < 2 ^ 16

pub record NameFits (n : Name) : Type 0 where
  pub sender : n.sender < 2 ^ 16
  pub serial : n.serial < 2 ^ 32
  pub time : n.time < 2 ^ 32

pub record RowFits (r : Row) : Type 0 where
  pub next : r.next < 2 ^ 32
  pub state : StateBytes r.state
  pub few_pending : length r.pending ≤ most_pending
  pub few_names : length r.names ≤ most_names
  pub pending : (i : ℕ) (d : Production) → i < length r.pending → PendingFits (slice_index_or r.pending i d)
  pub names : (i : ℕ) (d : Name) → i < length r.names → NameFits (slice_index_or r.names i d)
