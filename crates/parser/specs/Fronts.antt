-- The longest front that passes a test ends where the first other byte stands. Assumes nothing.
use Rattle.std.proofs.Common.{◌≡◌, ℕ, ◌+◌, ◌<◌, Bool, true, false, List, ◌∷◌, length, Option, unwrap_or, refl, ◌∙◌, arith}
use Rattle.std.specs.List.{prefix_len, AllWithin, HoldsAt}
use Rattle.std.specs.Option.{MatchOption}
use Rattle.std.proofs.lemmas.Bool.{cond-true, cond-false}
use Rattle.std.proofs.lemmas.Iterator.{index_from_first}

module _ (p : ℕ → Bool) where
  hit : (x : ℕ) (xs : List ℕ) → p x ≡ false → prefix_len p (x ∷ xs) ≡ 0
  hit x xs e = cond-false (p x) _ 0 e

  miss : (x : ℕ) (xs : List ℕ) → p x ≡ true → prefix_len p (x ∷ xs) ≡ prefix_len p xs + 1
  miss x xs e = cond-true (p x) _ 0 e ∙ omega arith

  pub until : (xs : List ℕ) (r : Option ℕ)
      → MatchOption r (AllWithin (λ x. p x ≡ true) xs 0 (length xs)) (λ i. (i < length xs) × HoldsAt (λ x. p x ≡ false) xs i × AllWithin (λ x. p x ≡ true) xs 0 i)
      → prefix_len p xs ≡ unwrap_or r (length xs)
  until xs r h = index_from_first (prefix_len p) (λ x. p x ≡ false) (λ x. p x ≡ true) refl hit miss xs r h
