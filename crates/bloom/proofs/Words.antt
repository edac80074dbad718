-- Bits in words: what a bit set in a word is, and a word set in a list of words.
use Rattle.std.proofs.Common.{◌≡◌, ℕ, suc, ◌+◌, ◌-◌, ◌*◌, ◌/◌, ◌%◌, ◌^◌, ◌<◌, true, false, ◌||◌, eqb, List, length, get_or, set, replicate, sym, ap, ◌∙◌, subst, inl, inr, add-one, arith}
use mathlib.Core.Path.{fun_ext}
use native.Mathlib.Nat.{div-eq_of_lt, zero-div}
use lib.Bits.{bit_or, or_shr, or_mod, or_zero_r}
use Rattle.std.proofs.lemmas.Nat.{pow-add, pow_below, shl-shr}
use Rattle.std.proofs.lemmas.List.{get_or-set_same, get_or-set_other, get_or-replicate, get_or_past, length-replicate}
use Rattle.std.proofs.lemmas.Bool.{cases_eq, cases_lt, eq-eqb, ne_eqb, or_left}
use Rattle.std.proofs.lemmas.Bool.Decides.{nat_tests}
use Rattle.bloom.specs.Bits.{word_bit, bit_in, with_bit}

-- bit j of the word that has only bit k
one_bit_same : (k : ℕ) → 2 ^ k / 2 ^ k % 2 ≡ 1
one_bit_same k =
    let whole : 1 * 2 ^ k ≡ 2 ^ k = omega arith in
    let one : 2 ^ k / 2 ^ k ≡ 1 = ap (λ x. x / 2 ^ k) (sym whole) ∙ shl-shr 1 k in
    ap (λ x. x % 2) one

one_bit_below : (j m : ℕ) → 2 ^ (suc m + j) / 2 ^ j % 2 ≡ 0
one_bit_below j m =
    let split : 2 ^ (suc m + j) ≡ 2 ^ suc m * 2 ^ j = pow-add 2 (suc m) j in
    let half : 2 ^ suc m ≡ 2 ^ m * 2 = ap (λ n. 2 ^ n) (sym (add-one m)) ∙ pow-add 2 m 1 in
    ap (λ x. x / 2 ^ j % 2) split ∙ ap (λ x. x % 2) (shl-shr (2 ^ suc m) j ∙ half) ∙ omega arith

one_bit_other : (k j : ℕ) → (k ≡ j → ⊥) → 2 ^ k / 2 ^ j % 2 ≡ 0
one_bit_other k j ne =
    elim (cases_lt k j) [
      | inl lt ↦ ap (λ x. x % 2) (div-eq_of_lt (pow_below k j lt))
      | inr ge ↦
          let far : suc (k - j - 1) + j ≡ k = omega arith in
          subst (λ n. 2 ^ n / 2 ^ j % 2 ≡ 0) far (one_bit_below j (k - j - 1))
    ]

pub word_set : (w k j : ℕ) → word_bit (bit_or w (2 ^ k)) j ≡ (eqb k j || word_bit w j)
word_set w k j =
    let parts : bit_or w (2 ^ k) / 2 ^ j % 2 ≡ bit_or (w / 2 ^ j % 2) (2 ^ k / 2 ^ j % 2) =
    ap (λ x. x % 2) (or_shr w (2 ^ k) j) ∙ or_mod (w / 2 ^ j) (2 ^ k / 2 ^ j) 1
    in
    ap (λ x. eqb x 1) parts
    ∙ elim (cases_eq k j) [
      | inl e ↦
          ap (λ y. eqb (bit_or (w / 2 ^ j % 2) y) 1) (subst (λ n. 2 ^ k / 2 ^ n % 2 ≡ 1) e (one_bit_same k))
          ∙ with_one (w / 2 ^ j % 2) (omega arith) ∙ sym (or_left (eqb k j) (word_bit w j) (eq-eqb k j e))
      | inr ne ↦
          ap (λ y. eqb (bit_or (w / 2 ^ j % 2) y) 1) (one_bit_other k j ne)
          ∙ ap (λ y. eqb y 1) (or_zero_r (w / 2 ^ j % 2))
          ∙ sym (ap (λ b. b || word_bit w j) (ne_eqb k j ne))
    ]
  where
    with_one : (x : ℕ) → x < 2 → eqb (bit_or x 1) 1 ≡ true
    with_one x l =
        elim (cases_lt x 1) [
          | inl z ↦ let is : x ≡ 0 = omega arith in ap (λ y. eqb (bit_or y 1) 1) is
          | inr o ↦ let is : x ≡ 1 = omega arith in ap (λ y. eqb (bit_or y 1) 1) is
        ]

pub words_set : (ws : List ℕ) (p w : ℕ) → p / 64 < length ws → w ≡ get_or ws (p / 64) 0 → bit_in (set ws (p / 64) (bit_or w (2 ^ (p % 64)))) ≡ with_bit (bit_in ws) p
unfolding bit_in
words_set ws p w l e = fun_ext (λ q. at q)
  where
    at : (q : ℕ) → word_bit (get_or (set ws (p / 64) (bit_or w (2 ^ (p % 64)))) (q / 64) 0) (q % 64) ≡ (eqb p q || word_bit (get_or ws (q / 64) 0) (q % 64))
    at q =
        elim (cases_eq (q / 64) (p / 64)) [
          | inl same ↦
              let here : get_or (set ws (p / 64) (bit_or w (2 ^ (p % 64)))) (q / 64) 0 ≡ bit_or (get_or ws (q / 64) 0) (2 ^ (p % 64)) =
              ap (λ i. get_or (set ws (p / 64) (bit_or w (2 ^ (p % 64)))) i 0) same
              ∙ get_or-set_same ws (p / 64) (bit_or w (2 ^ (p % 64))) 0 l
              ∙ ap (λ v. bit_or v (2 ^ (p % 64))) (e ∙ ap (λ i. get_or ws i 0) (sym same))
              in
              ap (λ v. word_bit v (q % 64)) here
              ∙ word_set (get_or ws (q / 64) 0) (p % 64) (q % 64)
              ∙ ap (λ b. b || word_bit (get_or ws (q / 64) 0) (q % 64)) (grind (arith, nat_tests))
          | inr other ↦
              ap (λ v. word_bit v (q % 64)) (get_or-set_other ws (p / 64) (q / 64) (bit_or w (2 ^ (p % 64))) 0 other)
              ∙ sym (ap (λ b. b || word_bit (get_or ws (q / 64) 0) (q % 64)) (ne_eqb p q (λ same. other (ap (λ x. x / 64) (sym same)))))
        ]

pub words_clear : (n : ℕ) → bit_in (replicate n 0) ≡ (λ _. false)
unfolding bit_in
words_clear n = fun_ext (λ p. ap (λ w. word_bit w (p % 64)) (zero_at (p / 64)) ∙ none (p % 64))
  where
    zero_at : (i : ℕ) → ◌≡◌ {A = ℕ} (get_or (replicate n 0) i 0) 0
    zero_at i =
        elim (cases_lt i n) [
          | inl lt ↦ get_or-replicate n i 0 0 lt
          | inr ge ↦ get_or_past (replicate n 0) i 0 (let size : length (replicate {A = ℕ} n 0) ≡ n = length-replicate n 0 in omega arith)
        ]

    none : (k : ℕ) → word_bit 0 k ≡ false
    none k = ap (λ x. eqb (x % 2) 1) (zero-div (2 ^ k))
