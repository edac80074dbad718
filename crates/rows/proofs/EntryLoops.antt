-- Entries of one size, one after another in a row's bytes: written and read in a loop.
use Rattle.std.proofs.Common.{◌≡◌, ℕ, ◌+◌, ◌*◌, ◌<◌, ◌≤◌, true, cond, ltb, List, [], ◌∷◌, ◌++◌, map, length, get_or, take, sym, refl, ap, ◌∙◌, add_comm, mul-zero, mul-one, mul-suc, mul-add, arith, lt-ltb}
use lib.Seq.{paste}
use Rattle.std.specs.List.{range_with_len, flat_map}
use Rattle.std.proofs.lemmas.List.{take_more, length-take-le, length-append, flat_map_more}
use Rattle.std.proofs.lemmas.List.Edits.{paste-paste}
use Rattle.bounded.specs.Lists.{pushed}
use Rattle.std.proofs.lemmas.List.FromFn.{map-range_with_len_more, length-map-range_with_len}

pub times_more : (s i : ℕ) → s * (i + 1) ≡ s * i + s
times_more s i = mul-add s i 1 ∙ ap (λ n. s * i + n) (mul-one s)

module _ {X : Type 0} (f : X → List ℕ) (s : ℕ) (sized : (x : X) → length (f x) ≡ s) where
  pub length-joined : (xs : List X) → length (flat_map f xs) ≡ s * length xs
  length-joined [] = sym (mul-zero s)
  length-joined (x ∷ xs) =
      length-append (f x) (flat_map f xs) ∙ (λ i. sized x i + length-joined xs i) ∙ add_comm s (s * length xs) ∙ sym (mul-suc s (length xs))

  -- the first i entries are written, and the next one is put behind them
  pub put_more : (at : ℕ) (d out was : List ℕ) (xs : List X) (i : ℕ) (z : X) (bs : List ℕ) → i < length xs → at ≤ length d →
      bs ≡ f (get_or xs i z) → was ≡ paste d at (flat_map f (take i xs)) (s * i) → out ≡ paste was (at + s * i) bs (length bs) →
      out ≡ paste d at (flat_map f (take (i + 1) xs)) (s * (i + 1))
  put_more at d out was xs i z bs h fits e w o =
      let l : length (flat_map f (take i xs)) ≡ s * i = length-joined (take i xs) ∙ ap (λ n. s * n) (length-take-le i xs (omega arith)) in
      let j : flat_map f (take i xs) ++ f (get_or xs i z) ≡ flat_map f (take (i + 1) xs) =
      flat_map_more f [] (take i xs) (get_or xs i z) ∙ ap (flat_map f) (sym (take_more xs i z h)) in
      o ∙ ap (λ y. paste y (at + s * i) bs (length bs)) w ∙ paste-paste d at (flat_map f (take i xs)) bs (s * i) (length bs) (sym l) refl fits
      ∙ (λ k. paste d at (flat_map f (take i xs) ++ e k) (s * i + (ap length e ∙ sized (get_or xs i z)) k)) ∙ (λ k. paste d at (j k) (sym (times_more s i) k))

-- the entries below i are read, and the next one is pushed where there is place for n
pub read_more : {X : Type 0} (f : ℕ → X) (n i : ℕ) (ys zs : List X) (x : X) → i < n → x ≡ f i → zs ≡ pushed n x ys →
    ys ≡ map f (range_with_len 0 i) → zs ≡ map f (range_with_len 0 (i + 1))
read_more f n i ys zs x h is z e =
    let l : length ys ≡ i = ap length e ∙ length-map-range_with_len f 0 i in
    let b : ltb (length ys) n ≡ true = lt-ltb (length ys) n (omega arith) in
    z ∙ ap (λ c. cond c (ys ++ x ∷ []) ys) b ∙ (λ k. e k ++ is k ∷ []) ∙ sym (map-range_with_len_more f 0 i i (omega arith))
