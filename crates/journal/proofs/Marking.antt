-- What the rows are while page 1 stands for a row and while it does not.
use Rattle.std.proofs.Common.{◌≡◌, ℕ, ◌+◌, ◌<◌, ◌≢◌, List, [], get_or, set, sym, ap, ◌∙◌, ⊎_elim, arith}
use Rattle.std.proofs.lemmas.Bool.{cases_eq, cond-true, cond-false, eq-eqb, ne_eqb}
use Rattle.stores.specs.Rows.{rows_by}
use Rattle.stores.proofs.Rows.{rows_same, rows_new}
use Rattle.journal.specs.Layout.{row_count, home, mark, row_in}

-- pages of which row r is b, and all other rows are where they are in the old pages
pub record Holds (old pages : List (List ℕ)) (r : ℕ) (b : List ℕ) : Type 0 where
  pub here : row_in pages r ≡ b
  pub elsewhere : (k : ℕ) → k ≢ r → row_in pages k ≡ get_or old (home k) []

-- page 1 stands for the row
pub marked : (old pages : List (List ℕ)) (r : ℕ) (b : List ℕ) → mark pages ≡ r + 1 → get_or pages 1 [] ≡ b →
    ((k : ℕ) → k ≢ r → get_or pages (home k) [] ≡ get_or old (home k) []) → Holds old pages r b
marked old pages r b e one others = record {
  here = cond-true _ _ _ (eq-eqb (mark pages) (r + 1) e) ∙ one;
  elsewhere = λ k ne. cond-false _ _ _ (ne_eqb (mark pages) (k + 1) (λ x. ne (omega arith))) ∙ others k ne;
}

-- the row is at home
pub settled : (old pages : List (List ℕ)) (r : ℕ) (b : List ℕ) → mark pages ≡ 0 → get_or pages (home r) [] ≡ b →
    ((k : ℕ) → k ≢ r → get_or pages (home k) [] ≡ get_or old (home k) []) → Holds old pages r b
settled old pages r b e at others = record {
  here = cond-false _ _ _ (ne_eqb (mark pages) (r + 1) (λ x. omega arith)) ∙ at;
  elsewhere = λ k ne. cond-false _ _ _ (ne_eqb (mark pages) (k + 1) (λ x. omega arith)) ∙ others k ne;
}

-- with no mark a row is its home
pub at_home : (pages : List (List ℕ)) (k : ℕ) → mark pages ≡ 0 → row_in pages k ≡ get_or pages (home k) []
at_home pages k e = cond-false _ _ _ (ne_eqb (mark pages) (k + 1) (λ x. omega arith))

-- row r is new
pub rows_newer : (old pages : List (List ℕ)) (r : ℕ) (b : List ℕ) → r < row_count → mark old ≡ 0 → Holds old pages r b →
    rows_by (row_in pages) row_count ≡ set (rows_by (row_in old) row_count) r b
rows_newer old pages r b l e h =
    rows_new (row_in old) (row_in pages) row_count r b l h.here (λ k i ne. h.elsewhere k ne ∙ sym (at_home old k e))

-- two ways to hold the same rows
pub rows_alike : (old p q : List (List ℕ)) (r : ℕ) (b : List ℕ) → Holds old p r b → Holds old q r b → rows_by (row_in q) row_count ≡ rows_by (row_in p) row_count
rows_alike old p q r b f g = rows_same (row_in p) (row_in q) row_count
    (λ k l. ⊎_elim (λ e. ap (row_in q) e ∙ g.here ∙ sym f.here ∙ ap (row_in p) (sym e)) (λ ne. g.elsewhere k ne ∙ sym (f.elsewhere k ne)) (cases_eq k r))

-- with no mark before and after, the rows are their homes
pub rows_kept : (old pages : List (List ℕ)) → mark old ≡ 0 → mark pages ≡ 0 → ((k : ℕ) → get_or pages (home k) [] ≡ get_or old (home k) []) →
    rows_by (row_in pages) row_count ≡ rows_by (row_in old) row_count
rows_kept old pages e f h = rows_same (row_in old) (row_in pages) row_count (λ k l. at_home pages k f ∙ h k ∙ sym (at_home old k e))
