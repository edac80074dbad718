-- Numbers read back from their bytes, and lists in which every place keeps a bound.
use Rattle.std.proofs.Common.{◌≡◌, ℕ, zero, suc, ◌+◌, ◌*◌, ◌/◌, ◌%◌, ◌<◌, ◌≤◌, List, [], ◌∷◌, ◌++◌, length, get_or, replicate, sym, refl, ap, ◌∙◌, subst, arith}
use native.Mathlib.Nat.{div-div-eq-div-mul}
use Rattle.model.specs.Bytes.{u16_at, u32_at, u16_bytes, u32_bytes}

pub u16_back : (n : ℕ) → n < 65536 → u16_at (u16_bytes n) 0 ≡ n
u16_back n h = omega arith

-- two bytes of a larger number
two_bytes : (n : ℕ) → n % 256 + n / 256 % 256 * 256 ≡ n % 65536
two_bytes n = let a : n / 256 / 256 ≡ n / 65536 = div-div-eq-div-mul n 256 256 in omega arith

pub u32_back : (n : ℕ) → n < 4294967296 → u32_at (u32_bytes n) 0 ≡ n
u32_back n h =
    let a : n / 65536 / 256 ≡ n / 16777216 = div-div-eq-div-mul n 65536 256 in
    let b : n / 65536 % 65536 ≡ n / 65536 = omega arith in
    let l : n % 256 + n / 256 % 256 * 256 ≡ n % 65536 = two_bytes n in
    let k : n / 65536 % 256 + n / 16777216 % 256 * 256 ≡ n / 65536 =
    ap (λ (x : ℕ). n / 65536 % 256 + x % 256 * 256) (sym a) ∙ two_bytes (n / 65536) ∙ b in
    omega arith

-- a list of n is its n places
abbrev pub first : ℕ → (ℕ → ℕ) → List ℕ
first zero f = []
first (suc n) f = f 0 ∷ first n (λ i. f (suc i))

pub all_places : (n : ℕ) (xs : List ℕ) → length xs ≡ n → first n (λ i. get_or xs i 0) ≡ xs
all_places n xs h = subst (λ (k : ℕ). first k (λ i. get_or xs i 0) ≡ xs) h (whole xs)
  where
    whole : (ys : List ℕ) → first (length ys) (λ i. get_or ys i 0) ≡ ys
    whole [] = refl
    whole (y ∷ ys) = ap (λ (l : List ℕ). y ∷ l) (whole ys)

module _ (P : ℕ → Type 0) (z : P 0) where
  -- every place, also past the end, where 0 stands
  abbrev pub Everywhere : List ℕ → Type 0
  Everywhere xs = (i : ℕ) → P (get_or xs i 0)

  -- of a list that is written out
  abbrev pub Each : List ℕ → Type 0
  Each [] = Unit {0}
  Each (x ∷ xs) = P x × Each xs

  one_more : (x : ℕ) (xs : List ℕ) → P x → Everywhere xs → Everywhere (x ∷ xs)
  one_more x xs p h zero = p
  one_more x xs p h (suc i) = h i

  pub each_place : (xs : List ℕ) → Each xs → Everywhere xs
  each_place [] h = λ i. z
  each_place (x ∷ xs) h = one_more x xs h.0 (each_place xs h.1)

  pub joined : (xs ys : List ℕ) → Everywhere xs → Everywhere ys → Everywhere (xs ++ ys)
  joined [] ys h k = k
  joined (x ∷ xs) ys h k = one_more x (xs ++ ys) (h 0) (joined xs ys (λ i. h (suc i)) k)

  pub zeros : (n : ℕ) → Everywhere (replicate n 0)
  zeros zero = λ i. z
  zeros (suc n) = one_more 0 (replicate n 0) z (zeros n)

-- the bytes of a number are bytes
abbrev pub IsByte : ℕ → Type 0
IsByte x = x < 256

pub low : (n : ℕ) → IsByte (n % 256)
low n = omega arith

pub u16_small : (n i : ℕ) → IsByte (get_or (u16_bytes n) i 0)
u16_small n = each_place IsByte (omega arith) (u16_bytes n) (low n, (low (n / 256), tt))

pub u32_small : (n i : ℕ) → IsByte (get_or (u32_bytes n) i 0)
u32_small n =
    each_place
    IsByte
    (omega arith)
    (u32_bytes n)
    (low n, (low (n / 256), (low (n / 65536), (low (n / 16777216), tt))))

-- a number read from bytes fits its width
pub u16_fits : (bs : List ℕ) (i : ℕ) → ((k : ℕ) → IsByte (get_or bs k 0)) → u16_at bs i ≤ 65535
u16_fits bs i h = omega (arith, h i, h (i + 1))

pub u32_fits : (bs : List ℕ) (i : ℕ) → ((k : ℕ) → IsByte (get_or bs k 0)) → u32_at bs i ≤ 4294967295
u32_fits bs i h = omega (arith, h i, h (i + 1), h (i + 2), h (i + 3))
