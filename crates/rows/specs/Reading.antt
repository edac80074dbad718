-- What stands at each place of a row's bytes. Assumes nothing.
use Rattle.std.specs.Prelude.{◌≡◌, ℕ, ◌+◌, ◌*◌, ◌<◌, ◌≤◌, min, List, map, length, take, drop, slice_index, slice_index_or}
use Rattle.std.specs.List.{range_with_len}
use Rattle.model.specs.Limits.{most_pending, most_names, page_bytes}
use Rattle.model.specs.Row.{Row}
use Rattle.model.specs.declared.record.Name.{Name}
use Rattle.model.specs.declared.record.Production.{Production}
use Rattle.model.specs.Bytes.{u16_at, u32_at}
use Rattle.rows.specs.Layout.{state_at, pending_at, names_at, pending_size, name_size}

-- the production, and the name, whose bytes begin at a place
abbrev pub production_in : List ℕ → ℕ → Production
production_in bs at = record { serial = u32_at bs at; time = u32_at bs (at + 4); amount = u16_at bs (at + 8) }

abbrev pub name_in : List ℕ → ℕ → Name
name_in bs at = record { sender = u16_at bs at; serial = u32_at bs (at + 2); time = u32_at bs (at + 6) }

-- as many entries as the row says, at most those that it has place for
unfoldable pub pending_in : List ℕ → List Production
pending_in bs = map (λ i. production_in bs (pending_at + pending_size * i)) (range_with_len 0 (min most_pending (slice_index bs 4)))

unfoldable pub names_in : List ℕ → List Name
names_in bs = map (λ i. name_in bs (names_at + name_size * i)) (range_with_len 0 (min most_names (slice_index bs 5)))

abbrev pub row_in : List ℕ → Row
row_in bs = record { next = u32_at bs 0; state = take 32 (drop state_at bs); pending = pending_in bs; names = names_in bs }

-- each field is at its place, and a byte that no field owns is zero
pub record LaidOut (r : Row) (bs : List ℕ) : Type 0 where
  pub size : length bs ≡ page_bytes
  pub next : u32_at bs 0 ≡ r.next
  pub pending_count : slice_index bs 4 ≡ length r.pending
  pub name_count : slice_index bs 5 ≡ length r.names
  pub state : take 32 (drop state_at bs) ≡ r.state
  pub pending : (i : ℕ) (d : Production) → i < length r.pending → production_in bs (pending_at + pending_size * i) ≡ slice_index_or r.pending i d
  pub names : (i : ℕ) (d : Name) → i < length r.names → name_in bs (names_at + name_size * i) ≡ slice_index_or r.names i d
  pub zero_6 : slice_index bs 6 ≡ 0
  pub zero_7 : slice_index bs 7 ≡ 0
  pub amounts_short : (i : ℕ) → i < length r.pending → u16_at bs (pending_at + pending_size * i + 10) ≡ 0
  pub zero_behind_pending : (i : ℕ) → pending_at + pending_size * length r.pending ≤ i → i < names_at → slice_index bs i ≡ 0
  pub zero_behind_names : (i : ℕ) → names_at + name_size * length r.names ≤ i → slice_index bs i ≡ 0
