-- A number read digit by digit.
use Rattle.std.proofs.Common.{◌≡◌, ℕ, ◌+◌, ◌-◌, ◌*◌, ◌<◌, ◌≤◌, true, false, leb, List, ◌∷◌, length, get_or, drop, None, ap, ◌∙◌}
use Rattle.std.proofs.lemmas.List.{drop_more}
use Rattle.std.proofs.lemmas.Bool.{cond-true, cond-false, le-leb, lt-leb}
use Rattle.std.specs.Char.{is_ascii_digit}
use Rattle.parser.specs.Numerals.{number_from}

-- one byte on, at index i
module _ (most n : ℕ) (word : List ℕ) (i : ℕ) (inside : i < length word) where
  abbrev b : ℕ
  b = get_or word i 0

  here : number_from most n (drop i word) ≡ number_from most n (b ∷ drop (i + 1) word)
  here = ap (number_from most n) (drop_more word i 0 inside)

  pub no_digit : is_ascii_digit b ≡ false → number_from most n (drop i word) ≡ None
  no_digit e = here ∙ cond-false (is_ascii_digit b) _ None e

  pub too_large : is_ascii_digit b ≡ true → most < n * 10 + (b - 48) → number_from most n (drop i word) ≡ None
  too_large e h = here ∙ cond-true (is_ascii_digit b) _ None e ∙ cond-false (leb (n * 10 + (b - 48)) most) _ None (lt-leb (n * 10 + (b - 48)) most h)

  pub reads_on : is_ascii_digit b ≡ true → n * 10 + (b - 48) ≤ most → number_from most n (drop i word) ≡ number_from most (n * 10 + (b - 48)) (drop (i + 1) word)
  reads_on e h = here ∙ cond-true (is_ascii_digit b) _ None e ∙ cond-true (leb (n * 10 + (b - 48)) most) _ None (le-leb (n * 10 + (b - 48)) most h)
