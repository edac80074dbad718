-- A list of known length is its elements, written out. Assumes nothing.
use Rattle.std.proofs.Common.{◌≡◌, ℕ, zero, suc, List, [], ◌∷◌, length, get_or, sym, refl, ap, ◌∙◌}

-- so many bytes from a place on
abbrev pub spelt : List ℕ → ℕ → ℕ → List ℕ
spelt bs i zero = []
spelt bs i (suc n) = get_or bs i 0 ∷ spelt bs (suc i) n

spelt_tail : (b : ℕ) (bs : List ℕ) (i n : ℕ) → spelt (b ∷ bs) (suc i) n ≡ spelt bs i n
spelt_tail b bs i zero = refl
spelt_tail b bs i (suc n) = ap (λ xs. get_or bs i 0 ∷ xs) (spelt_tail b bs (suc i) n)

spelt_all : (bs : List ℕ) → bs ≡ spelt bs 0 (length bs)
spelt_all [] = refl
spelt_all (b ∷ bs) = ap (λ xs. b ∷ xs) (spelt_all bs ∙ sym (spelt_tail b bs 0 (length bs)))

pub spelt_out : (bs : List ℕ) (n : ℕ) → length bs ≡ n → bs ≡ spelt bs 0 n
spelt_out bs n e = spelt_all bs ∙ ap (λ k. spelt bs 0 k) e
