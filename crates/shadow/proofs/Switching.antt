-- What writes to a slot and to page 0 make of the rows.
use Rattle.std.proofs.Common.{◌≡◌, ℕ, ◌-◌, ◌<◌, min, ◌≢◌, List, [], length, get_or, set, ap, ◌∙◌, ⊎_elim, arith}
use Rattle.std.proofs.lemmas.List.{get_or-set_same, get_or-set_other, length-set}
use Rattle.std.proofs.lemmas.Bool.{cases_eq}
use Rattle.model.specs.Limits.{page_bytes}
use Rattle.stores.specs.Cards.{Medium}
use Rattle.stores.specs.Rows.{rows_by}
use Rattle.stores.proofs.Rows.{rows_same, rows_new}
use Rattle.shadow.specs.Layout.{row_count, page_count, Sound, flag, slot, live_page, other_page, switched, row_in}

-- the slots of two rows, and the two slots of one row, lie apart
live_apart : (pages : List (List ℕ)) (k r : ℕ) → live_page pages k ≢ other_page pages r
live_apart pages k r e =
    ⊎_elim (λ same. let f : flag pages k ≡ flag pages r = ap (flag pages) same in omega arith) (λ ne. omega arith) (cases_eq k r)

-- the other slot may hold anything
pub slot_written : (pages : List (List ℕ)) (r : ℕ) (x : List ℕ) → rows_by (row_in (set pages (other_page pages r) x)) row_count ≡ rows_by (row_in pages) row_count
slot_written pages r x = rows_same (row_in pages) (row_in (set pages (other_page pages r) x)) row_count same
  where
    same : (k : ℕ) → k < row_count → row_in (set pages (other_page pages r) x) k ≡ row_in pages k
    same k l =
        let z : 0 ≢ other_page pages r = omega arith in
        let first = get_or-set_other pages (other_page pages r) 0 x [] z in
        let live : live_page (set pages (other_page pages r) x) k ≡ live_page pages k = ap (λ (p : List ℕ). slot k (min (get_or p k 0) 1)) first in
        ap (λ i. get_or (set pages (other_page pages r) x) i []) live ∙ get_or-set_other pages (other_page pages r) (live_page pages k) x [] (live_apart pages k r)

-- the other slot becomes live
pub page_switched : (pages : List (List ℕ)) (r : ℕ) (bytes : List ℕ) → r < row_count → length pages ≡ page_count → length (get_or pages 0 []) ≡ page_bytes →
    rows_by (row_in (set (set pages (other_page pages r) bytes) 0 (switched pages r))) row_count ≡ set (rows_by (row_in pages) row_count) r bytes
page_switched pages r bytes l sized wide = rows_new (row_in pages) (row_in after) row_count r bytes l new others
  where
    middle : List (List ℕ)
    middle = set pages (other_page pages r) bytes

    after : List (List ℕ)
    after = set middle 0 (switched pages r)

    first : get_or after 0 [] ≡ switched pages r
    first = get_or-set_same middle 0 (switched pages r) [] (omega (arith, length-set pages (other_page pages r) bytes))

    later : (i : ℕ) → i ≢ 0 → get_or after i [] ≡ get_or middle i []
    later i ne = get_or-set_other middle 0 i (switched pages r) [] ne

    new : row_in after r ≡ bytes
    new =
        let f : flag after r ≡ 1 - flag pages r = ap (λ (p : List ℕ). get_or p r 0) first ∙ get_or-set_same (get_or pages 0 []) r (1 - flag pages r) 0 (omega arith) in
        let live : live_page after r ≡ other_page pages r = omega arith in
        ap (λ i. get_or after i []) live ∙ later (other_page pages r) (λ e. omega arith) ∙ get_or-set_same pages (other_page pages r) bytes [] (omega arith)

    others : (k : ℕ) → k < row_count → k ≢ r → row_in after k ≡ row_in pages k
    others k h ne =
        let f : flag after k ≡ flag pages k = ap (λ (p : List ℕ). get_or p k 0) first ∙ get_or-set_other (get_or pages 0 []) r k (1 - flag pages r) 0 ne in
        let live : live_page after k ≡ live_page pages k = ap (λ v. slot k (min v 1)) f in
        ap (λ i. get_or after i []) live ∙ later (live_page pages k) (λ e. omega arith) ∙ get_or-set_other pages (other_page pages r) (live_page pages k) bytes [] (live_apart pages k r)

-- the card stays sound: whatever the slot holds, and if page 0 is switched
pub slot_sound : (m n : Medium) (r : ℕ) (x : List ℕ) → Sound m → n.pages ≡ set m.pages (other_page m.pages r) x → Sound n
slot_sound m n r x s e =
    let z : 0 ≢ other_page m.pages r = omega arith in
    let first : get_or n.pages 0 [] ≡ get_or m.pages 0 [] = ap (λ (p : List (List ℕ)). get_or p 0 []) e ∙ get_or-set_other m.pages (other_page m.pages r) 0 x [] z in
    record {
      sized = ap length e ∙ length-set m.pages (other_page m.pages r) x ∙ s.sized;
      wide = ap length first ∙ s.wide;
      flags = λ k. omega (arith, ap (λ (p : List ℕ). get_or p k 0) first, s.flags k);
      rest = λ k h. ap (λ (p : List ℕ). get_or p k 0) first ∙ s.rest k h;
    }

pub switch_sound : (m n : Medium) (r : ℕ) → Sound m → r < row_count → n.pages ≡ set m.pages 0 (switched m.pages r) → Sound n
switch_sound m n r s l e =
    let page = get_or m.pages 0 [] in
    let first : get_or n.pages 0 [] ≡ switched m.pages r = ap (λ (p : List (List ℕ)). get_or p 0 []) e ∙ get_or-set_same m.pages 0 (switched m.pages r) [] (omega (arith, s.sized)) in
    let other : (k : ℕ) → k ≢ r → flag n.pages k ≡ flag m.pages k = λ k ne. ap (λ (p : List ℕ). get_or p k 0) first ∙ get_or-set_other page r k (1 - flag m.pages r) 0 ne in
    let here : flag n.pages r ≡ 1 - flag m.pages r = ap (λ (p : List ℕ). get_or p r 0) first ∙ get_or-set_same page r (1 - flag m.pages r) 0 (omega (arith, s.wide)) in
    record {
      sized = ap length e ∙ length-set m.pages 0 (switched m.pages r) ∙ s.sized;
      wide = ap length first ∙ length-set page r (1 - flag m.pages r) ∙ s.wide;
      flags = λ k. ⊎_elim (λ same. omega (arith, here, ap (flag n.pages) same)) (λ ne. omega (arith, other k ne, s.flags k)) (cases_eq k r);
      rest = λ k h. other k (λ same. omega arith) ∙ s.rest k h;
    }
