-- A commit, by how long power lasts: cut at page 1, at page 0, at the home, at page 0 again, or done.
use Rattle.std.proofs.Common.{◌≡◌, ℕ, ◌+◌, ◌-◌, ◌<◌, ◌≤◌, Bool, true, false, cond, ◌&&◌, ◌||◌, eqb, leb, ◌≢◌, List, [], length, get_or, set, sym, refl, ap, ◌∙◌, subst, ⊎_elim, arith}
use Rattle.std.proofs.lemmas.List.{get_or-set_same, get_or-set_other, set-get_or, length-set}
use Rattle.std.proofs.lemmas.Bool.{cases_order, cases_Bool, cond-true, cond-false, le-leb, leb-false, ne_eqb, eqb-true, or_left, both_ways}
use Rattle.model.specs.Answers.{answer_number}
use Rattle.model.specs.Power.{commit_answer, renewed}
use Rattle.model.specs.declared.answer.Answer.{Answer}
use Rattle.model.specs.declared.answer.Answer.TheVariants.{Done, OutOfRange, Off, Late, Seen, Early, Over, Full, NoRoom, Cut, Nothing, LinkFull, NoMessage, NotOldest}
use Rattle.model.specs.declared.answer.CutPoint.{CutPoint}
use Rattle.stores.specs.Cards.{Medium, cut_at, landed, written_both, write_both_answer}
use Rattle.stores.specs.Rows.{rows_by}
use Rattle.stores.proofs.Failing.{torn, torn_at, torn_zero}
use Rattle.stores.proofs.Writing.{cut_first, cut_second, done_both, answer_first, answer_second, answer_done}
use Rattle.journal.specs.Layout.{row_count, page_count, Sound, Journals, lasting, begun, begun_answer, meaning, commit_cut_at, cut_page, owed_by, owed_after_writes, home, mark, mark_page, row_in}
use Rattle.journal.specs.Laws.{mark_is, sound_by}
use Rattle.journal.proofs.Marking.{marked, settled, rows_newer, rows_kept}

-- a commit that was not refused: its answer a, and the card n after it
pub record Went (m n : Medium) (r : ℕ) (b : List ℕ) (a : Answer) : Type 0 where
  pub answer : a ≡ commit_answer 4 (commit_cut_at m r) (meaning m).power
  pub rows : (meaning n).rows ≡ cond (renewed 2 (meaning m).power) (set (meaning m).rows r b) (meaning m).rows
  pub on : n.on ≡ leb 4 m.left
  pub left : n.left ≡ m.left - 4
  pub tear : n.tear ≡ m.tear
  pub owed : owed_by (mark n.pages) ≡ owed_after_writes m.tear m.left
  pub sound : Sound n

pub owed_marked : (r : ℕ) → owed_by (r + 1) ≡ 2
owed_marked r = cond-false _ _ _ (ne_eqb (r + 1) 0 (λ e. omega arith))

-- only done has the number 0
done_if_zero : (a : Answer) → answer_number a ≡ 0 → a ≡ Done
done_if_zero Done e = refl
done_if_zero OutOfRange e = absurd (omega arith)
done_if_zero Off e = absurd (omega arith)
done_if_zero Late e = absurd (omega arith)
done_if_zero Seen e = absurd (omega arith)
done_if_zero Early e = absurd (omega arith)
done_if_zero Over e = absurd (omega arith)
done_if_zero Full e = absurd (omega arith)
done_if_zero NoRoom e = absurd (omega arith)
done_if_zero (Cut p) e = absurd (omega arith)
done_if_zero Nothing e = absurd (omega arith)
done_if_zero LinkFull e = absurd (omega arith)
done_if_zero NoMessage e = absurd (omega arith)
done_if_zero NotOldest e = absurd (omega arith)

pub not_lasting : (a : Answer) → (a ≡ Done → ⊥) → eqb (answer_number a) 0 ≡ false
not_lasting a not = ne_eqb (answer_number a) 0 (λ e. not (done_if_zero a e))

no_cut : (p : CutPoint) → Cut p ≡ Done → ⊥
no_cut p e = let z : ◌≡◌ {A = ℕ} 0 1 = cc in omega arith

module _ (m : Medium) (r : ℕ) (b : List ℕ) (s : Sound m) (l : r < row_count) (on : m.on ≡ true) where
  -- the rule of the commit, by the writes that are left
  abbrev answers : ℕ → Answer
  answers x = cond (leb 4 x) Done (Cut (cut_at m r (cut_page r x)))

  abbrev newer : ℕ → Bool
  newer x = leb 2 x || (eqb (x + 1) 2 && eqb m.tear 1)

  unmarked : mark m.pages ≡ 0
  unmarked = s.settled on

  first : get_or m.pages 0 [] ≡ mark_page 0
  first = s.first ∙ ap mark_page unmarked

  -- a cut leaves a mark v on page 0, and some rows
  cut_went : (n : Medium) (a : Answer) (x v : ℕ) → m.left ≡ x → leb 4 x ≡ false → a ≡ answers x → n.on ≡ false → n.left ≡ 0 → n.tear ≡ m.tear →
      length n.pages ≡ page_count → get_or n.pages 0 [] ≡ mark_page v → v ≤ row_count → owed_by v ≡ owed_after_writes m.tear x →
      (meaning n).rows ≡ cond (newer x) (set (meaning m).rows r b) (meaning m).rows → Went m n r b a
  cut_went n a x v h short answer off none same sized page known owes rows = record {
    answer = answer ∙ sym (ap answers h);
    rows = rows ∙ sym (ap (λ i. cond (newer i) (set (meaning m).rows r b) (meaning m).rows) h);
    on = off ∙ sym short ∙ sym (ap (leb 4) h);
    left = let k : m.left < 4 = leb-false 4 m.left (ap (leb 4) h ∙ short) in none ∙ omega arith;
    tear = same;
    owed = ap owed_by (mark_is n.pages v page) ∙ owes ∙ sym (ap (owed_after_writes m.tear) h);
    sound = sound_by n v sized page known (λ e. absurd (both_ways n.on off e));
  }

  -- page 1 may hold anything while there is no mark
  module _ (x : List ℕ) where
    abbrev one : List (List ℕ)
    one = set m.pages 1 x

    one_sized : length one ≡ page_count
    one_sized = length-set m.pages 1 x ∙ s.sized

    one_first : get_or one 0 [] ≡ mark_page 0
    one_first = let z : ◌≢◌ {A = ℕ} 0 1 = λ e. omega arith in get_or-set_other m.pages 1 0 x [] z ∙ first

    one_homes : (k : ℕ) → get_or one (home k) [] ≡ get_or m.pages (home k) []
    one_homes k = let z : home k ≢ 1 = λ e. omega arith in get_or-set_other m.pages 1 (home k) x [] z

    one_rows : rows_by (row_in one) row_count ≡ rows_by (row_in m.pages) row_count
    one_rows = rows_kept m.pages one unmarked (mark_is one 0 one_first) one_homes

  -- page 0 marks the row
  abbrev two : List (List ℕ)
  two = set (one b) 0 (mark_page (r + 1))

  two_sized : length two ≡ page_count
  two_sized = length-set (one b) 0 (mark_page (r + 1)) ∙ one_sized b

  two_first : get_or two 0 [] ≡ mark_page (r + 1)
  two_first = get_or-set_same (one b) 0 (mark_page (r + 1)) [] (omega (arith, one_sized b))

  two_page : get_or two 1 [] ≡ b
  two_page =
      let z : ◌≢◌ {A = ℕ} 1 0 = λ e. omega arith in
      get_or-set_other (one b) 0 1 (mark_page (r + 1)) [] z ∙ get_or-set_same m.pages 1 b [] (omega (arith, s.sized))

  two_homes : (k : ℕ) → get_or two (home k) [] ≡ get_or m.pages (home k) []
  two_homes k = let z : home k ≢ 0 = λ e. omega arith in get_or-set_other (one b) 0 (home k) (mark_page (r + 1)) [] z ∙ one_homes b k

  two_rows : rows_by (row_in two) row_count ≡ set (meaning m).rows r b
  two_rows = rows_newer m.pages two r b l unmarked (marked m.pages two r b (mark_is two (r + 1) two_first) two_page (λ k ne. two_homes k))

  -- the home may hold anything while the mark stands
  module _ (x : List ℕ) where
    abbrev three : List (List ℕ)
    three = set two (home r) x

    three_sized : length three ≡ page_count
    three_sized = length-set two (home r) x ∙ two_sized

    three_first : get_or three 0 [] ≡ mark_page (r + 1)
    three_first = let z : 0 ≢ home r = λ e. omega arith in get_or-set_other two (home r) 0 x [] z ∙ two_first

    three_page : get_or three 1 [] ≡ b
    three_page = let z : 1 ≢ home r = λ e. omega arith in get_or-set_other two (home r) 1 x [] z ∙ two_page

    three_homes : (k : ℕ) → k ≢ r → get_or three (home k) [] ≡ get_or m.pages (home k) []
    three_homes k ne = let z : home k ≢ home r = λ e. ne (omega arith) in get_or-set_other two (home r) (home k) x [] z ∙ two_homes k

    three_rows : rows_by (row_in three) row_count ≡ set (meaning m).rows r b
    three_rows = rows_newer m.pages three r b l unmarked (marked m.pages three r b (mark_is three (r + 1) three_first) three_page three_homes)

  -- page 0 has no mark again
  abbrev four : List (List ℕ)
  four = set (three b) 0 (mark_page 0)

  four_sized : length four ≡ page_count
  four_sized = length-set (three b) 0 (mark_page 0) ∙ three_sized b

  four_first : get_or four 0 [] ≡ mark_page 0
  four_first = get_or-set_same (three b) 0 (mark_page 0) [] (omega (arith, three_sized b))

  four_home : get_or four (home r) [] ≡ b
  four_home =
      let z : home r ≢ 0 = λ e. omega arith in
      get_or-set_other (three b) 0 (home r) (mark_page 0) [] z ∙ get_or-set_same two (home r) b [] (omega (arith, two_sized))

  four_homes : (k : ℕ) → k ≢ r → get_or four (home k) [] ≡ get_or m.pages (home k) []
  four_homes k ne = let z : home k ≢ 0 = λ e. omega arith in get_or-set_other (three b) 0 (home k) (mark_page 0) [] z ∙ three_homes b k ne

  four_rows : rows_by (row_in four) row_count ≡ set (meaning m).rows r b
  four_rows = rows_newer m.pages four r b l unmarked (settled m.pages four r b (mark_is four 0 four_first) four_home four_homes)

  -- the cards on the way
  abbrev card_one : Medium
  card_one = landed m 1 b

  abbrev card_two : Medium
  card_two = landed card_one 0 (mark_page (r + 1))

  abbrev card_three : Medium
  card_three = landed card_two (home r) b

  in_one : 1 < length m.pages
  in_one = omega (arith, s.sized)

  in_zero : 0 < length m.pages
  in_zero = omega (arith, s.sized)

  in_home : home r < length card_two.pages
  in_home = omega (arith, two_sized)

  in_zero_two : 0 < length card_two.pages
  in_zero_two = omega (arith, two_sized)

  went_one : (a : Answer) → m.left ≡ 0 → a ≡ answers 0 → Went m (torn_at m 1 b) r b a
  went_one a h e = cut_went (torn_at m 1 b) a 0 0 h refl e refl h refl (one_sized (torn m 1 b)) (one_first (torn m 1 b)) (omega arith) refl (one_rows (torn m 1 b))

  went_two : (a : Answer) → m.left ≡ 1 → a ≡ answers 1 → Went m (torn_at card_one 0 (mark_page (r + 1))) r b a
  went_two a h e = ⊎_elim new old (cases_Bool (eqb m.tear 1))
    where
      n : Medium
      n = torn_at card_one 0 (mark_page (r + 1))

      new : eqb m.tear 1 ≡ true → Went m n r b a
      new t =
          let is : n.pages ≡ two = ap (set (one b) 0) (torn_zero card_one (mark_page (r + 1)) ∙ cond-true _ _ _ t) in
          cut_went n a 1 (r + 1) h refl e refl (omega arith) refl (ap length is ∙ two_sized) (ap (λ (p : List (List ℕ)). get_or p 0 []) is ∙ two_first) (omega arith)
          (owed_marked r ∙ sym (cond-true _ _ _ t)) (ap (λ p. rows_by (row_in p) row_count) is ∙ two_rows ∙ sym (cond-true _ _ _ t))

      old : eqb m.tear 1 ≡ false → Went m n r b a
      old t =
          let is : n.pages ≡ one b = ap (set (one b) 0) (torn_zero card_one (mark_page (r + 1)) ∙ cond-false _ _ _ t) ∙ set-get_or (one b) 0 [] in
          cut_went n a 1 0 h refl e refl (omega arith) refl (ap length is ∙ one_sized b) (ap (λ (p : List (List ℕ)). get_or p 0 []) is ∙ one_first b) (omega arith)
          (sym (cond-false _ _ _ t)) (ap (λ p. rows_by (row_in p) row_count) is ∙ one_rows b ∙ sym (cond-false _ _ _ t))

  went_three : (a : Answer) → m.left ≡ 2 → a ≡ answers 2 → Went m (torn_at card_two (home r) b) r b a
  went_three a h e = cut_went (torn_at card_two (home r) b) a 2 (r + 1) h refl e refl (omega arith) refl (three_sized (torn card_two (home r) b))
      (three_first (torn card_two (home r) b)) (omega arith) (owed_marked r) (three_rows (torn card_two (home r) b))

  went_four : (a : Answer) → m.left ≡ 3 → a ≡ answers 3 → Went m (torn_at card_three 0 (mark_page 0)) r b a
  went_four a h e = ⊎_elim new old (cases_Bool (eqb m.tear 1))
    where
      n : Medium
      n = torn_at card_three 0 (mark_page 0)

      new : eqb m.tear 1 ≡ true → Went m n r b a
      new t =
          let is : n.pages ≡ four = ap (set (three b) 0) (torn_zero card_three (mark_page 0) ∙ cond-true _ _ _ t) in
          cut_went n a 3 0 h refl e refl (omega arith) refl (ap length is ∙ four_sized) (ap (λ (p : List (List ℕ)). get_or p 0 []) is ∙ four_first) (omega arith)
          (sym (cond-true _ _ _ t)) (ap (λ p. rows_by (row_in p) row_count) is ∙ four_rows)

      old : eqb m.tear 1 ≡ false → Went m n r b a
      old t =
          let is : n.pages ≡ three b = ap (set (three b) 0) (torn_zero card_three (mark_page 0) ∙ cond-false _ _ _ t) ∙ set-get_or (three b) 0 [] in
          cut_went n a 3 (r + 1) h refl e refl (omega arith) refl (ap length is ∙ three_sized b) (ap (λ (p : List (List ℕ)). get_or p 0 []) is ∙ three_first b) (omega arith)
          (owed_marked r ∙ sym (cond-false _ _ _ t)) (ap (λ p. rows_by (row_in p) row_count) is ∙ three_rows b)

  went_done : (a : Answer) → 4 ≤ m.left → a ≡ Done → Went m (landed card_three 0 (mark_page 0)) r b a
  went_done a h e =
      let long : leb 4 m.left ≡ true = le-leb 4 m.left h in
      record {
        answer = e ∙ sym (cond-true _ _ _ long);
        rows = four_rows ∙ sym (cond-true _ _ _ (or_left _ _ (le-leb 2 m.left (omega arith))));
        on = on ∙ sym long;
        left = omega arith;
        tear = refl;
        owed = ap owed_by (mark_is four 0 four_first) ∙ sym (cond-true _ _ _ long);
        sound = sound_by (landed card_three 0 (mark_page 0)) 0 four_sized four_first (omega arith) (λ x. refl);
      }

  -- power fails at one of the first two writes
  pub went_begun : (n : Medium) (a : Answer) → n ≡ written_both m 1 b 0 (mark_page (r + 1)) → a ≡ write_both_answer m r 1 b 0 → (a ≡ Done → ⊥) → Went m n r b a
  went_begun n a is e not = ⊎_elim second (⊎_elim none (λ h. absurd (not (e ∙ answer_done m r 1 b 0 (mark_page (r + 1)) in_one in_zero on h)))) (cases_order m.left 1)
    where
      second : m.left ≡ 1 → Went m n r b a
      second h = subst (λ k. Went m k r b a) (sym (is ∙ cut_second m r 1 b 0 (mark_page (r + 1)) in_one in_zero on h))
          (went_two a h (e ∙ answer_second m r 1 b 0 (mark_page (r + 1)) in_one in_zero on h))

      none : m.left < 1 → Went m n r b a
      none g =
          let h : m.left ≡ 0 = omega arith in
          subst (λ k. Went m k r b a) (sym (is ∙ cut_first m r 1 b 0 (mark_page (r + 1)) in_one in_zero on h))
          (went_one a h (e ∙ answer_first m r 1 b 0 (mark_page (r + 1)) in_one in_zero on h))

  two_lasted : write_both_answer m r 1 b 0 ≡ Done → 2 ≤ m.left
  two_lasted e = ⊎_elim
      (λ h. absurd (no_cut _ (sym (answer_second m r 1 b 0 (mark_page (r + 1)) in_one in_zero on h) ∙ e)))
      (⊎_elim (λ g. let h : m.left ≡ 0 = omega arith in absurd (no_cut _ (sym (answer_first m r 1 b 0 (mark_page (r + 1)) in_one in_zero on h) ∙ e))) (λ h. h))
      (cases_order m.left 1)

  -- power lasted for the first two writes
  pub went_on : (k n : Medium) (a : Answer) → k ≡ written_both m 1 b 0 (mark_page (r + 1)) → write_both_answer m r 1 b 0 ≡ Done →
      n ≡ written_both k (home r) b 0 (mark_page 0) → a ≡ write_both_answer k r (home r) b 0 → Went m n r b a
  went_on k n a isk done isn e = ⊎_elim fourth (⊎_elim third rest) (cases_order m.left 3)
    where
      two_left : 2 ≤ m.left
      two_left = two_lasted done

      at : k ≡ card_two
      at = isk ∙ done_both m r 1 b 0 (mark_page (r + 1)) in_one in_zero on two_left

      is : n ≡ written_both card_two (home r) b 0 (mark_page 0)
      is = isn ∙ ap (λ (x : Medium). written_both x (home r) b 0 (mark_page 0)) at

      answered : a ≡ write_both_answer card_two r (home r) b 0
      answered = e ∙ ap (λ (x : Medium). write_both_answer x r (home r) b 0) at

      fourth : m.left ≡ 3 → Went m n r b a
      fourth h =
          let g : card_two.left ≡ 1 = omega arith in
          subst (λ x. Went m x r b a) (sym (is ∙ cut_second card_two r (home r) b 0 (mark_page 0) in_home in_zero_two on g))
          (went_four a h (answered ∙ answer_second card_two r (home r) b 0 (mark_page 0) in_home in_zero_two on g))

      third : m.left < 3 → Went m n r b a
      third f =
          let h : m.left ≡ 2 = omega (arith, two_left) in
          let g : card_two.left ≡ 0 = omega arith in
          subst (λ x. Went m x r b a) (sym (is ∙ cut_first card_two r (home r) b 0 (mark_page 0) in_home in_zero_two on g))
          (went_three a h (answered ∙ answer_first card_two r (home r) b 0 (mark_page 0) in_home in_zero_two on g))

      rest : 3 < m.left → Went m n r b a
      rest h =
          let g : 2 ≤ card_two.left = omega arith in
          subst (λ x. Went m x r b a) (sym (is ∙ done_both card_two r (home r) b 0 (mark_page 0) in_home in_zero_two on g))
          (went_done a h (answered ∙ answer_done card_two r (home r) b 0 (mark_page 0) in_home in_zero_two on g))

  pub went : (n : Medium) (a : Answer) → Journals m n r b a → Went m n r b a
  went n a did = ⊎_elim done begun_only (cases_Bool (lasting m r b))
    where
      done : lasting m r b ≡ true → Went m n r b a
      done t = went_on (begun m r b) n a refl (done_if_zero (begun_answer m r b) (eqb-true (answer_number (begun_answer m r b)) 0 t)) (did.card ∙ cond-true _ _ _ t) (did.answer ∙ cond-true _ _ _ t)

      begun_only : lasting m r b ≡ false → Went m n r b a
      begun_only f =
          let is = did.answer ∙ cond-false _ _ _ f in
          went_begun n a (did.card ∙ cond-false _ _ _ f) is (λ e. both_ways (lasting m r b) f (ap (λ x. eqb (answer_number x) 0) (sym is ∙ e)))
