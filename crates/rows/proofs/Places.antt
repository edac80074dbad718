-- What is read at a place, from what stands there.
use Rattle.std.proofs.Common.{◌≡◌, ℕ, zero, suc, ◌+◌, ◌-◌, ◌*◌, ◌/◌, ◌%◌, ◌^◌, ◌<◌, ◌≤◌, List, [], ◌∷◌, ◌++◌, length, get_or, take, drop, replicate, sym, refl, ap, ◌∙◌, add-zero, mod-eq_of_lt, add_comm, mul-zero, mul-suc, arith}
use native.Mathlib.Nat.{div-div-eq-div-mul, mod-add-div'}
use Rattle.std.specs.Int.{w32, from_le_bytes}
use Rattle.std.specs.List.{flat_map}
use Rattle.std.proofs.lemmas.List.{append_assoc, drop_at, drop-drop, get_or-drop, get_or_append_left, length-replicate}
use Rattle.model.specs.Bytes.{u16_bytes, u32_bytes, u16_at, u32_at}

pub number_of_u16_bytes : (x : ℕ) → x < 2 ^ 16 → x % 256 + x / 256 % 256 * 256 ≡ x
number_of_u16_bytes x h = omega arith

digits4 : (x a b c p q r : ℕ) → p + a * 256 ≡ x → q + b * 256 ≡ a → r + c * 256 ≡ b → p + q * 256 + r * 65536 + c * 16777216 ≡ x
digits4 x a b c p q r e f g = omega arith

pub number_of_u32_bytes : (x : ℕ) → x < 2 ^ 32 → x % 256 + x / 256 % 256 * 256 + x / 65536 % 256 * 65536 + x / 16777216 % 256 * 16777216 ≡ x
number_of_u32_bytes x h =
    let lt : x / 16777216 < 256 = omega arith in
    let small : x / 16777216 % 256 ≡ x / 16777216 = mod-eq_of_lt lt in
    ap (λ c. x % 256 + x / 256 % 256 * 256 + x / 65536 % 256 * 65536 + c * 16777216) small
    ∙ digits4 x (x / 256) (x / 65536) (x / 16777216) (x % 256) (x / 256 % 256) (x / 65536 % 256) (mod-add-div' x 256)
    (ap (λ q. x / 256 % 256 + q * 256) (sym (div-div-eq-div-mul x 256 256)) ∙ mod-add-div' (x / 256) 256)
    (ap (λ q. x / 65536 % 256 + q * 256) (sym (div-div-eq-div-mul x 65536 256)) ∙ mod-add-div' (x / 65536) 256)

-- a number of four bytes, read from the first four of more
pub u32_first : (bs : List ℕ) → from_le_bytes w32 (take 4 bs) ≡ u32_at bs 0
u32_first [] = refl
u32_first (a ∷ []) = omega arith
u32_first (a ∷ b ∷ []) = omega arith
u32_first (a ∷ b ∷ c ∷ []) = omega arith
u32_first (a ∷ b ∷ c ∷ d ∷ bs) = omega arith

-- a byte behind a place
at_drop : (bs : List ℕ) (at k : ℕ) → get_or bs (at + k) 0 ≡ get_or (drop at bs) k 0
at_drop bs at k = sym (get_or-drop at bs k 0)

module _ (bs : List ℕ) (at : ℕ) where
  here : get_or bs at 0 ≡ get_or (drop at bs) 0 0
  here = ap (λ n. get_or bs n 0) (sym (add-zero at)) ∙ at_drop bs at 0

  pub u16_at-from : (x : ℕ) (t : List ℕ) → x < 2 ^ 16 → drop at bs ≡ u16_bytes x ++ t → u16_at bs at ≡ x
  u16_at-from x t h e =
      (λ k. (here ∙ ap (λ l. get_or l 0 0) e) k + (at_drop bs at 1 ∙ ap (λ l. get_or l 1 0) e) k * 256) ∙ number_of_u16_bytes x h

  pub u32_at-from : (x : ℕ) (t : List ℕ) → x < 2 ^ 32 → drop at bs ≡ u32_bytes x ++ t → u32_at bs at ≡ x
  u32_at-from x t h e =
      (λ k. (here ∙ ap (λ l. get_or l 0 0) e) k + (at_drop bs at 1 ∙ ap (λ l. get_or l 1 0) e) k * 256
      + (at_drop bs at 2 ∙ ap (λ l. get_or l 2 0) e) k * 65536 + (at_drop bs at 3 ∙ ap (λ l. get_or l 3 0) e) k * 16777216)
      ∙ number_of_u32_bytes x h

-- what stands further on
pub further : (bs ts : List ℕ) (at k : ℕ) → drop at bs ≡ ts → drop (at + k) bs ≡ drop k ts
further bs ts at k e = sym (drop-drop k at bs) ∙ ap (drop k) e

-- the entry i of entries of one size
pub entry_from : {X : Type 0} (f : X → List ℕ) (s : ℕ) → ((x : X) → length (f x) ≡ s) → (xs : List X) (i : ℕ) (d : X) (t : List ℕ) → i < length xs →
    drop (s * i) (flat_map f xs ++ t) ≡ f (get_or xs i d) ++ (flat_map f (drop (suc i) xs) ++ t)
entry_from f s sized [] i d t h = absurd (omega arith)
entry_from f s sized (x ∷ xs) zero d t h = ap (λ n. drop n ((f x ++ flat_map f xs) ++ t)) (mul-zero s) ∙ append_assoc (f x) (flat_map f xs) t
entry_from f s sized (x ∷ xs) (suc i) d t h =
    ap (λ n. drop n ((f x ++ flat_map f xs) ++ t)) (mul-suc s i ∙ add_comm (s * i) s)
    ∙ sym (drop-drop (s * i) s ((f x ++ flat_map f xs) ++ t))
    ∙ ap (drop (s * i)) (ap (drop s) (append_assoc (f x) (flat_map f xs) t) ∙ drop_at (f x) (flat_map f xs ++ t) s (sized x))
    ∙ entry_from f s sized xs i d t (omega arith)

-- the upper two bytes of a number below 65,536
pub u16_at-high : (bs : List ℕ) (at x : ℕ) (t : List ℕ) → x < 2 ^ 16 → drop at bs ≡ (x / 65536 % 256) ∷ (x / 16777216 % 256) ∷ t → u16_at bs at ≡ 0
u16_at-high bs at x t h e =
    let a : x / 65536 % 256 ≡ 0 = omega arith in
    let b : x / 16777216 % 256 ≡ 0 = omega arith in
    (λ k. (here bs at ∙ ap (λ l. get_or l 0 0) e ∙ a) k + (at_drop bs at 1 ∙ ap (λ l. get_or l 1 0) e ∙ b) k * 256)

-- a byte at or behind a place
pub behind : (bs ts : List ℕ) (at i : ℕ) → at ≤ i → drop at bs ≡ ts → get_or bs i 0 ≡ get_or ts (i - at) 0
behind bs ts at i h e =
    let n : i ≡ at + (i - at) = omega arith in
    ap (λ k. get_or bs k 0) n ∙ at_drop bs at (i - at) ∙ ap (λ l. get_or l (i - at) 0) e

pub zeros_only : (n i : ℕ) → ◌≡◌ {A = ℕ} (get_or (replicate n 0) i 0) 0
zeros_only zero i = refl
zeros_only (suc n) zero = refl
zeros_only (suc n) (suc i) = zeros_only n i

pub zeros_first : (n i : ℕ) (t : List ℕ) → i < n → get_or (replicate n 0 ++ t) i 0 ≡ 0
zeros_first n i t h =
    let l : i < length (replicate n 0) = rw length-replicate h in
    get_or_append_left (replicate n 0) t 0 i l ∙ zeros_only n i
