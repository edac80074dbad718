-- The shadow store: two slots for each row, and page 0 to say which of them is live. Assumes nothing.
use Rattle.std.specs.Prelude.{◌≡◌, ℕ, ◌+◌, ◌-◌, ◌*◌, ◌<◌, ◌≤◌, min, cond, List, [], length, ◌==◌, slice_index, slice_index_or, slice_set}
use Rattle.model.specs.Limits.{page_bytes}
use Rattle.model.specs.Store.{Stored}
use Rattle.model.specs.declared.answer.Answer.{Answer}
use Rattle.model.specs.declared.answer.CutPoint.{CutPoint}
use Rattle.stores.specs.Cards.{Medium, cut_at, written_both, write_both_answer}
use Rattle.stores.specs.Layouts.{Formatted as FormattedOn}
use Rattle.stores.specs.Rows.{rows_by}

abbrev pub row_count : ℕ
row_count = 33

abbrev pub page_count : ℕ
page_count = 67

-- the byte of page 0 that says which slot of a row is live
abbrev pub flag : List (List ℕ) → ℕ → ℕ
flag pages r = slice_index (slice_index_or pages 0 []) r

-- the page of a slot
abbrev pub slot : ℕ → ℕ → ℕ
slot r which = 1 + 2 * r + which

-- the page that holds a row, and the other one
abbrev pub live_page : List (List ℕ) → ℕ → ℕ
live_page pages r = slot r (min (flag pages r) 1)

abbrev pub other_page : List (List ℕ) → ℕ → ℕ
other_page pages r = slot r (1 - flag pages r)

-- page 0 with the other slot live
abbrev pub switched : List (List ℕ) → ℕ → List ℕ
switched pages r = slice_set (slice_index_or pages 0 []) r (1 - flag pages r)

abbrev pub row_in : List (List ℕ) → ℕ → List ℕ
row_in pages r = slice_index_or pages (live_page pages r) []

-- what the pages mean; a restart has nothing to write
abbrev pub meaning : Medium → Stored
meaning m = record {
  rows = rows_by (row_in m.pages) row_count;
  power = record { on = m.on; left = m.left; tear = m.tear; owed = 0 };
}

-- what a commit writes: the other slot, and then page 0
abbrev pub switching : Medium → ℕ → List ℕ → Medium
switching m r bytes = written_both m (other_page m.pages r) bytes 0 (switched m.pages r)

pub record Switches (m n : Medium) (r : ℕ) (bytes : List ℕ) (a : Answer) : Type 0 where
  pub card : n ≡ switching m r bytes
  pub answer : a ≡ write_both_answer m r (other_page m.pages r) bytes 0

-- power fails at the slot if nothing is left, else at page 0
abbrev pub commit_cut_at : Medium → ℕ → CutPoint
commit_cut_at m r = cut_at m r (cond (m.left == 0) (other_page m.pages r) 0)

-- a restart writes nothing, so it is never cut
abbrev pub restart_cut_at : Medium → ℕ → CutPoint
restart_cut_at m n = cut_at m 0 0

-- the card has its pages, and page 0 says 0 or 1 of each row, and nothing else
pub record Sound (m : Medium) : Type 0 where
  pub sized : length m.pages ≡ page_count
  pub wide : length (slice_index_or m.pages 0 []) ≡ page_bytes
  pub flags : (r : ℕ) → flag m.pages r < 2
  pub rest : (k : ℕ) → row_count ≤ k → flag m.pages k ≡ 0

-- a store as formatting leaves it
abbrev pub Formatted : ℕ → Medium → Type 0
Formatted node m = FormattedOn meaning Sound row_count page_count node m
