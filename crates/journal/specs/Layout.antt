-- The journal store: a row's page stands in the journal, page 1, until it is at home. Assumes nothing.
use Rattle.std.specs.Prelude.{◌≡◌, ℕ, ◌+◌, ◌-◌, ◌≤◌, Bool, true, cond, List, [], length, replicate, ◌==◌, nat_le, slice_index, slice_index_or, slice_set}
use Rattle.model.specs.Answers.{answer_number}
use Rattle.model.specs.Limits.{page_bytes}
use Rattle.model.specs.Store.{Stored}
use Rattle.model.specs.declared.answer.Answer.{Answer}
use Rattle.model.specs.declared.answer.Answer.TheVariants.{Done}
use Rattle.model.specs.declared.answer.CutPoint.{CutPoint}
use Rattle.stores.specs.Cards.{Medium, cut_at, written_both, write_both_answer}
use Rattle.stores.specs.Layouts.{Formatted as FormattedOn}
use Rattle.stores.specs.Rows.{rows_by}

abbrev pub row_count : ℕ
row_count = 33

abbrev pub page_count : ℕ
page_count = 35

-- the page where a row is at home
abbrev pub home : ℕ → ℕ
home r = 2 + r

-- byte 0 of page 0: 0, or r + 1 while page 1 stands for row r
abbrev pub mark : List (List ℕ) → ℕ
mark pages = slice_index (slice_index_or pages 0 []) 0

-- page 0 with that byte
unfoldable pub mark_page : ℕ → List ℕ
mark_page v = slice_set (replicate page_bytes 0) 0 v

abbrev pub row_in : List (List ℕ) → ℕ → List ℕ
row_in pages r = cond (mark pages == r + 1) (slice_index_or pages 1 []) (slice_index_or pages (home r) [])

-- a restart writes the home and then page 0, if page 1 stands for a row
abbrev pub owed_by : ℕ → ℕ
owed_by v = cond (v == 0) 0 2

abbrev pub meaning : Medium → Stored
meaning m = record {
  rows = rows_by (row_in m.pages) row_count;
  power = record { on = m.on; left = m.left; tear = m.tear; owed = owed_by (mark m.pages) };
}

-- the page that a commit is cut at, by the writes that are left: page 1, page 0, the home, page 0
abbrev pub cut_page : ℕ → ℕ → ℕ
cut_page r left = cond (left == 0) 1 (cond (left == 1) 0 (cond (left == 2) (home r) 0))

abbrev pub commit_cut_at : Medium → ℕ → CutPoint
commit_cut_at m r = cut_at m r (cut_page r m.left)

-- a restart is cut at the home or at page 0, on behalf of the row that page 1 stands for
abbrev pub restart_cut_at : Medium → ℕ → CutPoint
restart_cut_at m n = cut_at m (mark m.pages - 1) (cond (n == 0) (home (mark m.pages - 1)) 0)

-- what is owed after a commit, by the writes that were left and the tear: page 1 stands for the row
-- from the second write to the fourth
abbrev pub owed_after_writes : ℕ → ℕ → ℕ
owed_after_writes tear left =
    cond (nat_le 4 left) 0 (cond (left == 0) 0 (cond (left == 1) (cond (tear == 1) 2 0) (cond (left == 2) 2 (cond (tear == 1) 0 2))))

-- what is owed after a restart that owed two writes or none
abbrev pub owed_after_mending : ℕ → ℕ → ℕ → ℕ
owed_after_mending owed tear n = cond (nat_le owed n) 0 (cond (n == 0) 2 (cond (tear == 1) 0 2))

-- what a commit writes: page 1 and the mark, and then, if power lasts, the home and no mark
abbrev pub begun : Medium → ℕ → List ℕ → Medium
begun m r bytes = written_both m 1 bytes 0 (mark_page (r + 1))

abbrev pub begun_answer : Medium → ℕ → List ℕ → Answer
begun_answer m r bytes = write_both_answer m r 1 bytes 0

abbrev pub lasting : Medium → ℕ → List ℕ → Bool
lasting m r bytes = answer_number (begun_answer m r bytes) == 0

abbrev pub journalled : Medium → ℕ → List ℕ → Medium
journalled m r bytes = cond (lasting m r bytes) (written_both (begun m r bytes) (home r) bytes 0 (mark_page 0)) (begun m r bytes)

abbrev pub journal_answer : Medium → ℕ → List ℕ → Answer
journal_answer m r bytes = cond (lasting m r bytes) (write_both_answer (begun m r bytes) r (home r) bytes 0) (begun_answer m r bytes)

pub record Journals (m n : Medium) (r : ℕ) (bytes : List ℕ) (a : Answer) : Type 0 where
  pub card : n ≡ journalled m r bytes
  pub answer : a ≡ journal_answer m r bytes

-- what a restart does to a card that is on: the journal goes home, and the mark is taken away
abbrev pub mended : Medium → Medium
mended m = cond (mark m.pages == 0) m (written_both m (home (mark m.pages - 1)) (slice_index_or m.pages 1 []) 0 (mark_page 0))

abbrev pub mend_answer : Medium → Answer
mend_answer m = cond (mark m.pages == 0) Done (write_both_answer m (mark m.pages - 1) (home (mark m.pages - 1)) (slice_index_or m.pages 1 []) 0)

pub record Mends (m n : Medium) (a : Answer) : Type 0 where
  pub card : n ≡ mended m
  pub answer : a ≡ mend_answer m

-- the card has its pages, page 0 has a mark of a row or none and nothing else, and none while the card is on
pub record Sound (m : Medium) : Type 0 where
  pub sized : length m.pages ≡ page_count
  pub first : slice_index_or m.pages 0 [] ≡ mark_page (mark m.pages)
  pub known : mark m.pages ≤ row_count
  pub settled : m.on ≡ true → mark m.pages ≡ 0

-- a store as formatting leaves it
abbrev pub Formatted : ℕ → Medium → Type 0
Formatted node m = FormattedOn meaning Sound row_count page_count node m
