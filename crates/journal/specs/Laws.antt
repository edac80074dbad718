-- The laws of the layout: how many rows, and a card of zeros is a sound store of zero rows.
use Rattle.std.proofs.Common.{◌≡◌, ℕ, ◌+◌, ◌<◌, ◌≤◌, true, false, List, [], length, get_or, set, replicate, sym, refl, ap, ◌∙◌, arith}
use Rattle.std.proofs.lemmas.List.{get_or-set_same, set-get_or, get_or-replicate, length-replicate}
use Rattle.std.proofs.lemmas.Bool.{cond-false, ne_eqb}
use Rattle.model.specs.Limits.{page_bytes}
use Rattle.stores.specs.Cards.{Medium, zero_page, blank_medium}
use Rattle.stores.proofs.Rows.{length-rows, rows_all, same_stored}
use Rattle.journal.specs.Layout.{row_count, page_count, Sound, Formatted, meaning, row_in, home, mark, mark_page, owed_by}

pub mark_at : (v : ℕ) → get_or (mark_page v) 0 0 ≡ v
unfolding mark_page
mark_at v = get_or-set_same (replicate page_bytes 0) 0 v 0 (omega (arith, length-replicate {A = ℕ} page_bytes 0))

pub no_mark : mark_page 0 ≡ zero_page
unfolding mark_page
no_mark = ap (set (replicate page_bytes 0) 0) (sym (get_or-replicate {A = ℕ} page_bytes 0 0 0 (omega arith))) ∙ set-get_or (replicate page_bytes 0) 0 0

pub mark_is : (pages : List (List ℕ)) (v : ℕ) → get_or pages 0 [] ≡ mark_page v → mark pages ≡ v
mark_is pages v e = ap (λ (p : List ℕ). get_or p 0 0) e ∙ mark_at v

-- a card is sound by its page 0
pub sound_by : (n : Medium) (v : ℕ) → length n.pages ≡ page_count → get_or n.pages 0 [] ≡ mark_page v → v ≤ row_count → (n.on ≡ true → v ≡ 0) → Sound n
sound_by n v sized first known rest =
    let e = mark_is n.pages v first in
    record { sized = sized; first = first ∙ ap mark_page (sym e); known = omega arith; settled = λ on. e ∙ rest on }

module _ (node : ℕ) where
  abbrev blank : Medium
  blank = blank_medium node page_count

  first : get_or blank.pages 0 [] ≡ mark_page 0
  first = get_or-replicate page_count 0 zero_page [] (omega arith) ∙ sym no_mark

  unmarked : mark blank.pages ≡ 0
  unmarked = mark_is blank.pages 0 first

  row_zero : (r : ℕ) → r < row_count → row_in blank.pages r ≡ zero_page
  row_zero r l = cond-false _ _ _ (ne_eqb (mark blank.pages) (r + 1) (λ e. omega (arith, unmarked))) ∙ get_or-replicate page_count (home r) zero_page [] (omega arith)

  pub journal_formatted : Formatted node blank
  journal_formatted = record {
    blank = refl;
    means = ap (λ o. record { rows = (meaning blank).rows; power = record { on = false; left = 0; tear = 0; owed = o } }) (ap owed_by unmarked)
        ∙ same_stored _ _ false false 0 0 0 0 0 (rows_all (row_in blank.pages) row_count zero_page row_zero) refl refl refl;
    sound = sound_by blank 0 (length-replicate page_count zero_page) first (omega arith) (λ x. refl);
  }

pub journal_rows : (m : Medium) → length (meaning m).rows ≡ row_count
journal_rows m = length-rows (row_in m.pages) row_count
