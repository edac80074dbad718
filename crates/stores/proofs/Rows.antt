-- The rows of a store, one by one: how many, which, and what a change of one row makes of all.
use Rattle.std.proofs.Common.{◌≡◌, ℕ, ◌<◌, Bool, ◌≢◌, List, [], length, get_or, set, replicate, sym, ap, ◌∙◌, ⊎_elim, zero-add, arith}
use Rattle.std.proofs.lemmas.List.FromFn.{length-map-range_with_len, get_or-map-range_with_len}
use Rattle.std.proofs.lemmas.List.{ext_get_or, length-set, get_or-set_same, get_or-set_other, length-replicate, get_or-replicate}
use Rattle.std.proofs.lemmas.Bool.{cases_eq}
use Rattle.model.specs.Store.{Stored}
use Rattle.stores.specs.Rows.{rows_by}

pub length-rows : (f : ℕ → List ℕ) (n : ℕ) → length (rows_by f n) ≡ n
unfolding rows_by
length-rows f n = length-map-range_with_len f 0 n

pub row_at : (f : ℕ → List ℕ) (n r : ℕ) → r < n → get_or (rows_by f n) r [] ≡ f r
unfolding rows_by
row_at f n r h = get_or-map-range_with_len f 0 n r r [] h (zero-add r)

-- lists of rows are equal if their rows are
pub rows_are : (f : ℕ → List ℕ) (n : ℕ) (rows : List (List ℕ)) → length rows ≡ n → ((r : ℕ) → r < n → f r ≡ get_or rows r []) → rows_by f n ≡ rows
rows_are f n rows e h =
    ext_get_or [] (rows_by f n) rows (length-rows f n ∙ sym e) (λ r l. let b : r < n = omega (arith, length-rows f n) in row_at f n r b ∙ h r b)

pub rows_same : (f g : ℕ → List ℕ) (n : ℕ) → ((r : ℕ) → r < n → g r ≡ f r) → rows_by g n ≡ rows_by f n
rows_same f g n h = rows_are g n (rows_by f n) (length-rows f n) (λ r l. h r l ∙ sym (row_at f n r l))

-- one row is new and the others are the same
pub rows_new : (f g : ℕ → List ℕ) (n r : ℕ) (bytes : List ℕ) → r < n → g r ≡ bytes → ((k : ℕ) → k < n → k ≢ r → g k ≡ f k) → rows_by g n ≡ set (rows_by f n) r bytes
rows_new f g n r bytes l new others = rows_are g n (set (rows_by f n) r bytes) (length-set (rows_by f n) r bytes ∙ length-rows f n) at
  where
    at : (k : ℕ) → k < n → g k ≡ get_or (set (rows_by f n) r bytes) k []
    at k b = ⊎_elim
        (λ e. ap g e ∙ new ∙ sym (get_or-set_same (rows_by f n) r bytes [] (omega (arith, length-rows f n))) ∙ ap (λ i. get_or (set (rows_by f n) r bytes) i []) (sym e))
        (λ ne. others k b ne ∙ sym (row_at f n k b) ∙ sym (get_or-set_other (rows_by f n) r k bytes [] ne))
        (cases_eq k r)

pub rows_all : (f : ℕ → List ℕ) (n : ℕ) (bytes : List ℕ) → ((r : ℕ) → r < n → f r ≡ bytes) → rows_by f n ≡ replicate n bytes
rows_all f n bytes h =
    rows_are f n (replicate n bytes) (length-replicate n bytes) (λ r l. h r l ∙ sym (get_or-replicate n r bytes [] l))

-- rows and power are all that a store means
pub same_stored : (rows rows' : List (List ℕ)) (on on' : Bool) (left left' tear tear' owed : ℕ) → rows ≡ rows' → on ≡ on' → left ≡ left' → tear ≡ tear' →
    ◌≡◌ {A = Stored} (record { rows = rows; power = record { on = on; left = left; tear = tear; owed = owed } })
    (record { rows = rows'; power = record { on = on'; left = left'; tear = tear'; owed = owed } })
same_stored rows rows' on on' left left' tear tear' owed p q r t = cc
