-- The laws of the layout: how many rows, and a card of zeros is a sound store of zero rows.
use Rattle.std.proofs.Common.{◌≡◌, ℕ, ◌<◌, false, List, [], length, get_or, refl, ap, ◌∙◌, ⊎_elim, arith}
use Rattle.std.proofs.lemmas.List.{get_or-replicate, get_or_past, length-replicate}
use Rattle.std.proofs.lemmas.Bool.{cases_lt}
use Rattle.model.specs.Limits.{page_bytes}
use Rattle.stores.specs.Cards.{Medium, zero_page, blank_medium}
use Rattle.stores.proofs.Rows.{length-rows, rows_all, same_stored}
use Rattle.shadow.specs.Layout.{row_count, page_count, Sound, Formatted, meaning, row_in, live_page, flag}

module _ (node : ℕ) where
  abbrev blank : Medium
  blank = blank_medium node page_count

  first : get_or blank.pages 0 [] ≡ zero_page
  first = get_or-replicate page_count 0 zero_page [] (omega arith)

  flag_zero : (k : ℕ) → flag blank.pages k ≡ 0
  flag_zero k = ap (λ (p : List ℕ). get_or p k 0) first ∙ ⊎_elim (get_or-replicate page_bytes k 0 0)
      (λ h. get_or_past zero_page k 0 (omega (arith, length-replicate {A = ℕ} page_bytes 0))) (cases_lt k page_bytes)

  row_zero : (r : ℕ) → r < row_count → row_in blank.pages r ≡ zero_page
  row_zero r l = get_or-replicate page_count (live_page blank.pages r) zero_page [] (omega (arith, flag_zero r))

  blank_sound : Sound blank
  blank_sound = record {
    sized = length-replicate page_count zero_page;
    wide = ap length first ∙ length-replicate {A = ℕ} page_bytes 0;
    flags = λ k. omega (arith, flag_zero k);
    rest = λ k h. flag_zero k;
  }

  pub shadow_formatted : Formatted node blank
  shadow_formatted = record {
    blank = refl;
    means = same_stored _ _ false false 0 0 0 0 0 (rows_all (row_in blank.pages) row_count zero_page row_zero) refl refl refl;
    sound = blank_sound;
  }

pub shadow_rows : (m : Medium) → length (meaning m).rows ≡ row_count
shadow_rows m = length-rows (row_in m.pages) row_count
