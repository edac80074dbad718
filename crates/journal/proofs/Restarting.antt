-- A restart, by whether page 1 stands for a row and by how long power lasts.
use Rattle.std.proofs.Common.{◌≡◌, ℕ, ◌+◌, ◌-◌, ◌<◌, ◌≤◌, true, false, cond, eqb, leb, ◌≢◌, List, [], length, get_or, set, sym, refl, ap, ◌∙◌, subst, ⊎_elim, arith}
use Rattle.std.proofs.lemmas.List.{get_or-set_same, get_or-set_other, set-get_or, length-set}
use Rattle.std.proofs.lemmas.Bool.{cases_eq, cases_order, cases_Bool, cond-true, cond-false, le-leb, eq-eqb, ne_eqb, both_ways}
use Rattle.model.specs.Power.{restart_answer}
use Rattle.model.specs.declared.answer.Answer.{Answer}
use Rattle.model.specs.declared.answer.Answer.TheVariants.{Done, Cut}
use Rattle.stores.specs.Cards.{Medium, cut_at, landed, turned_on, written_both, write_both_answer}
use Rattle.stores.proofs.Failing.{torn, torn_at, torn_zero}
use Rattle.stores.proofs.Writing.{cut_first, cut_second, done_both, answer_first, answer_second, answer_done}
use Rattle.journal.specs.Layout.{row_count, page_count, Sound, meaning, restart_cut_at, owed_by, owed_after_mending, home, mark, mark_page, mended, mend_answer}
use Rattle.journal.specs.Laws.{mark_is, sound_by}
use Rattle.journal.proofs.Marking.{Holds, marked, settled, rows_alike}
use Rattle.journal.proofs.Committing.{owed_marked}

-- a restart that was not refused: its answer a, and the card n after it
pub record Woke (m n : Medium) (x t : ℕ) (a : Answer) : Type 0 where
  pub answer : a ≡ restart_answer x (restart_cut_at m x) (meaning m).power
  pub rows : (meaning n).rows ≡ (meaning m).rows
  pub on : n.on ≡ leb (meaning m).power.owed x
  pub left : n.left ≡ x - (meaning m).power.owed
  pub tear : n.tear ≡ t
  pub owed : (meaning n).power.owed ≡ owed_after_mending (meaning m).power.owed t x
  pub sound : Sound n

-- there is no mark, and nothing to write
pub woke_settled : (m : Medium) (left tear : ℕ) (junk : List ℕ) (a : Answer) → Sound m → mark m.pages ≡ 0 → a ≡ Done → Woke m (turned_on m left tear junk) left tear a
woke_settled m left tear junk a s z e =
    let owes : owed_by (mark m.pages) ≡ 0 = ap owed_by z in
    let long : leb (owed_by (mark m.pages)) left ≡ true = le-leb (owed_by (mark m.pages)) left (omega arith) in
    record {
      answer = e ∙ sym (cond-true _ _ _ long);
      rows = refl;
      on = sym long;
      left = omega arith;
      tear = refl;
      owed = owes ∙ sym (cond-true _ _ _ long);
      sound = record { sized = s.sized; first = s.first; known = s.known; settled = λ h. z };
    }

module _ (m : Medium) (left tear : ℕ) (junk : List ℕ) (s : Sound m) (ne : mark m.pages ≢ 0) where
  abbrev r : ℕ
  r = mark m.pages - 1

  abbrev b : List ℕ
  b = get_or m.pages 1 []

  abbrev k : Medium
  k = turned_on m left tear junk

  marks : mark m.pages ≡ r + 1
  marks = omega arith

  first : get_or m.pages 0 [] ≡ mark_page (r + 1)
  first = s.first ∙ ap mark_page marks

  row_in : r < row_count
  row_in = omega (arith, s.known, marks)

  owes : owed_by (mark m.pages) ≡ 2
  owes = ap owed_by marks ∙ owed_marked r

  -- the rule of the restart, by the writes that power lasts
  abbrev answers : ℕ → Answer
  answers x = cond (leb 2 x) Done (Cut (cut_at m r (cond (eqb x 0) (home r) 0)))

  holding : Holds m.pages m.pages r b
  holding = marked m.pages m.pages r b marks refl (λ i h. refl)

  build : (n : Medium) (a : Answer) (v : ℕ) → a ≡ answers left → n.on ≡ leb 2 left → n.left ≡ left - 2 → n.tear ≡ tear → length n.pages ≡ page_count →
      get_or n.pages 0 [] ≡ mark_page v → v ≤ row_count → (n.on ≡ true → v ≡ 0) → owed_by v ≡ owed_after_mending 2 tear left → Holds m.pages n.pages r b → Woke m n left tear a
  build n a v e on less same sized page known rest owed holds = record {
    answer = e ∙ ap (λ o. cond (leb o left) Done (Cut (restart_cut_at m left))) (sym owes);
    rows = rows_alike m.pages m.pages n.pages r b holding holds;
    on = on ∙ ap (λ o. leb o left) (sym owes);
    left = less ∙ ap (λ o. left - o) (sym owes);
    tear = same;
    owed = ap owed_by (mark_is n.pages v page) ∙ owed ∙ ap (λ o. owed_after_mending o tear left) (sym owes);
    sound = sound_by n v sized page known rest;
  }

  -- the home may hold anything while the mark stands
  module _ (x : List ℕ) where
    abbrev one : List (List ℕ)
    one = set m.pages (home r) x

    one_sized : length one ≡ page_count
    one_sized = length-set m.pages (home r) x ∙ s.sized

    one_first : get_or one 0 [] ≡ mark_page (r + 1)
    one_first = let z : 0 ≢ home r = λ e. omega arith in get_or-set_other m.pages (home r) 0 x [] z ∙ first

    one_page : get_or one 1 [] ≡ b
    one_page = let z : 1 ≢ home r = λ e. omega arith in get_or-set_other m.pages (home r) 1 x [] z

    one_homes : (i : ℕ) → i ≢ r → get_or one (home i) [] ≡ get_or m.pages (home i) []
    one_homes i apart = let z : home i ≢ home r = λ e. apart (omega arith) in get_or-set_other m.pages (home r) (home i) x [] z

    one_holds : Holds m.pages one r b
    one_holds = marked m.pages one r b (mark_is one (r + 1) one_first) one_page one_homes

  -- the row is at home and the mark is gone
  abbrev two : List (List ℕ)
  two = set (one b) 0 (mark_page 0)

  two_sized : length two ≡ page_count
  two_sized = length-set (one b) 0 (mark_page 0) ∙ one_sized b

  two_first : get_or two 0 [] ≡ mark_page 0
  two_first = get_or-set_same (one b) 0 (mark_page 0) [] (omega (arith, one_sized b))

  two_home : get_or two (home r) [] ≡ b
  two_home =
      let z : home r ≢ 0 = λ e. omega arith in
      get_or-set_other (one b) 0 (home r) (mark_page 0) [] z ∙ get_or-set_same m.pages (home r) b [] (omega (arith, s.sized, row_in))

  two_homes : (i : ℕ) → i ≢ r → get_or two (home i) [] ≡ get_or m.pages (home i) []
  two_homes i apart = let z : home i ≢ 0 = λ e. omega arith in get_or-set_other (one b) 0 (home i) (mark_page 0) [] z ∙ one_homes b i apart

  two_holds : Holds m.pages two r b
  two_holds = settled m.pages two r b (mark_is two 0 two_first) two_home two_homes

  in_home : home r < length k.pages
  in_home = omega (arith, s.sized, row_in)

  in_zero : 0 < length k.pages
  in_zero = omega (arith, s.sized)

  abbrev card_one : Medium
  card_one = landed k (home r) b

  off : false ≡ true → r + 1 ≡ 0
  off e = absurd (both_ways false refl e)

  woke_none : (a : Answer) → left ≡ 0 → a ≡ answers 0 → Woke m (torn_at k (home r) b) left tear a
  woke_none a h e = build (torn_at k (home r) b) a (r + 1) (e ∙ sym (ap answers h)) (sym (ap (leb 2) h)) (omega arith) refl (one_sized (torn k (home r) b))
      (one_first (torn k (home r) b)) (omega (arith, row_in)) off (owed_marked r ∙ sym (ap (owed_after_mending 2 tear) h)) (one_holds (torn k (home r) b))

  woke_one : (a : Answer) → left ≡ 1 → a ≡ answers 1 → Woke m (torn_at card_one 0 (mark_page 0)) left tear a
  woke_one a h e = ⊎_elim new old (cases_Bool (eqb tear 1))
    where
      n : Medium
      n = torn_at card_one 0 (mark_page 0)

      new : eqb tear 1 ≡ true → Woke m n left tear a
      new t =
          let is : n.pages ≡ two = ap (set (one b) 0) (torn_zero card_one (mark_page 0) ∙ cond-true _ _ _ t) in
          build n a 0 (e ∙ sym (ap answers h)) (sym (ap (leb 2) h)) (omega arith) refl (ap length is ∙ two_sized) (ap (λ (p : List (List ℕ)). get_or p 0 []) is ∙ two_first)
          (omega arith) (λ x. refl) (sym (cond-true _ _ _ t) ∙ sym (ap (owed_after_mending 2 tear) h)) (subst (λ p. Holds m.pages p r b) (sym is) two_holds)

      old : eqb tear 1 ≡ false → Woke m n left tear a
      old t =
          let is : n.pages ≡ one b = ap (set (one b) 0) (torn_zero card_one (mark_page 0) ∙ cond-false _ _ _ t) ∙ set-get_or (one b) 0 [] in
          build n a (r + 1) (e ∙ sym (ap answers h)) (sym (ap (leb 2) h)) (omega arith) refl (ap length is ∙ one_sized b) (ap (λ (p : List (List ℕ)). get_or p 0 []) is ∙ one_first b)
          (omega (arith, row_in)) off (owed_marked r ∙ sym (cond-false _ _ _ t) ∙ sym (ap (owed_after_mending 2 tear) h)) (subst (λ p. Holds m.pages p r b) (sym is) (one_holds b))

  woke_done : (a : Answer) → 2 ≤ left → a ≡ Done → Woke m (landed card_one 0 (mark_page 0)) left tear a
  woke_done a h e =
      let long : leb 2 left ≡ true = le-leb 2 left h in
      build (landed card_one 0 (mark_page 0)) a 0 (e ∙ sym (cond-true _ _ _ long)) (sym long) (omega arith) refl two_sized two_first (omega arith) (λ x. refl)
      (sym (cond-true _ _ _ long)) two_holds

  woke_marked : (n : Medium) (a : Answer) → n ≡ written_both k (home r) b 0 (mark_page 0) → a ≡ write_both_answer k r (home r) b 0 → Woke m n left tear a
  woke_marked n a is e = ⊎_elim second (⊎_elim none rest) (cases_order left 1)
    where
      second : left ≡ 1 → Woke m n left tear a
      second h = subst (λ x. Woke m x left tear a) (sym (is ∙ cut_second k r (home r) b 0 (mark_page 0) in_home in_zero refl h))
          (woke_one a h (e ∙ answer_second k r (home r) b 0 (mark_page 0) in_home in_zero refl h))

      none : left < 1 → Woke m n left tear a
      none g =
          let h : left ≡ 0 = omega arith in
          subst (λ x. Woke m x left tear a) (sym (is ∙ cut_first k r (home r) b 0 (mark_page 0) in_home in_zero refl h))
          (woke_none a h (e ∙ answer_first k r (home r) b 0 (mark_page 0) in_home in_zero refl h))

      rest : 1 < left → Woke m n left tear a
      rest h = subst (λ x. Woke m x left tear a) (sym (is ∙ done_both k r (home r) b 0 (mark_page 0) in_home in_zero refl h))
          (woke_done a h (e ∙ answer_done k r (home r) b 0 (mark_page 0) in_home in_zero refl h))

pub woke : (m k n : Medium) (left tear : ℕ) (junk : List ℕ) (a : Answer) → k ≡ turned_on m left tear junk → n ≡ mended k → a ≡ mend_answer k → Sound m → Woke m n left tear a
woke m k n left tear junk a on is e s =
    let p : n ≡ mended (turned_on m left tear junk) = is ∙ ap mended on in
    let q : a ≡ mend_answer (turned_on m left tear junk) = e ∙ ap mend_answer on in
    ⊎_elim
    (λ z. let t = eq-eqb (mark m.pages) 0 z in subst (λ x. Woke m x left tear a) (sym (p ∙ cond-true _ _ _ t)) (woke_settled m left tear junk a s z (q ∙ cond-true _ _ _ t)))
    (λ ne. let f = ne_eqb (mark m.pages) 0 ne in woke_marked m left tear junk s ne n a (p ∙ cond-false _ _ _ f) (q ∙ cond-false _ _ _ f))
    (cases_eq (mark m.pages) 0)
