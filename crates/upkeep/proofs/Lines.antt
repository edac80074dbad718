-- A queue of stops has room for one more stop. Assumes nothing.
use Rattle.std.proofs.Common.{◌≡◌, ℕ, zero, suc, ◌<◌, ◌≤◌, Bool, false, cond, not, eqb, List, [], ◌∷◌, ◌++◌, length, Some, None, sym, refl, ap, ◌∙◌, subst, inl, inr, arith}
use mathlib.Core.Bool.{false≢true}
use Rattle.std.proofs.lemmas.Bool.{cases_Bool, cond-true, cond-false, eqb-true, eqb-false, ne_eqb, not-true, not_from_true, not_from_false, lt-ltb}
use Rattle.model.specs.Limits.{stops}
use Rattle.model.specs.declared.record.Production.{Production}
use Rattle.model.specs.Row.{oldest}
use Rattle.queue.specs.Lines.{joined_by, left_by}
use Rattle.law.specs.Lists.{Mem, Apart}
use Rattle.law.specs.Node.{stands, requeued}
use Rattle.law.proofs.Best.{less}
use Rattle.law.proofs.Lists.{kept_mem, kept_passes, kept_all, apart_kept}
use Rattle.law.proofs.Queues.{mem_stands}
use Rattle.upkeep.specs.Lines.{Line}

-- of a list that is apart, all but one entry are others than n
one_less : (n : ℕ) (xs : List ℕ) → Apart xs → length xs ≤ suc (length (left_by n xs))
one_less n [] a = omega arith
one_less n (x ∷ xs) a =
    elim (cases_Bool (eqb x n)) [
      | inl same ↦
          let here = eqb-true x n same in
          let others : left_by n xs ≡ xs =
          kept_all (λ (q : ℕ). not (eqb q n)) xs (λ y m. not_from_false (eqb y n) (ne_eqb y n (λ e. a.0 (subst (λ (z : ℕ). Mem z xs) (e ∙ sym here) m)))) in
          let gone : left_by n (x ∷ xs) ≡ left_by n xs = cond-false (not (eqb x n)) (x ∷ left_by n xs) (left_by n xs) (not_from_true (eqb x n) same) in
          subst (λ (ys : List ℕ). suc (length xs) ≤ suc (length ys)) (sym (gone ∙ others)) (omega arith)
      | inr other ↦
          let stays : left_by n (x ∷ xs) ≡ x ∷ left_by n xs = cond-true (not (eqb x n)) (x ∷ left_by n xs) (left_by n xs) (not_from_false (eqb x n) other) in
          let below = one_less n xs a.1 in
          subst (λ (ys : List ℕ). suc (length xs) ≤ suc (length ys)) (sym stays) (omega arith)
    ]

-- there are no more numbers below n than n
pub few_below : (n : ℕ) (xs : List ℕ) → Apart xs → ((x : ℕ) → Mem x xs → x < n) → length xs ≤ n
few_below zero [] a f = omega arith
few_below zero (x ∷ xs) a f = absurd (none (f x (inl refl)))
  where
    none : x < 0 → ⊥
    none h = omega arith
few_below (suc n) xs a f =
    let short =
    few_below n (left_by n xs) (apart_kept (λ (q : ℕ). not (eqb q n)) xs a)
    (λ x m. less x n (f x (kept_mem x (λ (q : ℕ). not (eqb q n)) xs m)) (eqb-false x n (not-true (eqb x n) (kept_passes x (λ (q : ℕ). not (eqb q n)) xs m)))) in
    omega (arith, one_less n xs a, short)

-- a stop that does not stand in a queue finds room there
room : (s : ℕ) (queue : List ℕ) → Line queue → s < stops → stands s queue ≡ false → length queue < stops
room s queue l h out =
    let all =
    few_below stops (s ∷ queue) (λ m. false≢true (sym out ∙ mem_stands s queue m), l.once)
    (λ x m. elim m [ inl e ↦ subst (λ (y : ℕ). y < stops) (sym e) h | inr k ↦ l.stop x k ]) in
    omega (arith, all)

pub joins : (s : ℕ) (ps : List Production) (p : Production) (queue : List ℕ) → oldest ps ≡ Some p → Line queue → s < stops → joined_by s queue ≡ requeued s ps queue
joins s [] p queue e l h = absurd (let z : ◌≡◌ {A = ℕ} 0 1 = cc in omega arith)
joins s (x ∷ ps) p queue e l h =
    elim (cases_Bool (stands s queue)) [
      | inl there ↦ cond-true _ _ _ there ∙ sym (cond-true _ _ _ there)
      | inr out ↦
          ap (λ (b : Bool). cond (stands s queue) queue (cond b (queue ++ s ∷ []) queue)) (lt-ltb (length queue) stops (room s queue l h out))
    ]

pub leaves : (s : ℕ) (ps : List Production) (queue : List ℕ) → oldest ps ≡ None → left_by s queue ≡ requeued s ps queue
leaves s [] queue e = refl
leaves s (x ∷ ps) queue e = absurd (let z : ◌≡◌ {A = ℕ} 0 1 = cc in omega arith)
