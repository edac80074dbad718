-- A body is the bytes of the numbers that were read from it.
use Rattle.std.proofs.Common.{◌≡◌, ℕ, ◌+◌, List, [], ◌∷◌, ◌++◌, length, get_or}
use Rattle.model.specs.Bytes.{u16_bytes, u32_bytes}
use Rattle.frames.specs.Spelt.{spelt_out}

-- the bytes of a number of two bytes, or of four, that was read at a place
abbrev pub Two : List ℕ → ℕ → ℕ → Type 0
Two bs i n = u16_bytes n ≡ get_or bs i 0 ∷ get_or bs (i + 1) 0 ∷ []

abbrev pub Four : List ℕ → ℕ → ℕ → Type 0
Four bs i n = u32_bytes n ≡ get_or bs i 0 ∷ get_or bs (i + 1) 0 ∷ get_or bs (i + 2) 0 ∷ get_or bs (i + 3) 0 ∷ []

pub done_spelt : (bs : List ℕ) (stop serial : ℕ) → length bs ≡ 6 → Two bs 0 stop → Four bs 2 serial → u16_bytes stop ++ u32_bytes serial ≡ bs
done_spelt bs stop serial size p s = let e = spelt_out bs 6 size in cc

pub restart_spelt : (bs : List ℕ) (left : ℕ) → length bs ≡ 7 → Four bs 1 left
    → get_or bs 0 0 ∷ (u32_bytes left ++ (get_or bs 5 0 ∷ get_or bs 6 0 ∷ [])) ≡ bs
restart_spelt bs left size l = let e = spelt_out bs 7 size in cc

pub hand_in_spelt : (bs : List ℕ) (sender stop serial time amount : ℕ) → length bs ≡ 14 → Two bs 0 sender → Two bs 2 stop → Four bs 4 serial → Four bs 8 time → Two bs 12 amount
    → u16_bytes sender ++ (u16_bytes stop ++ (u32_bytes serial ++ (u32_bytes time ++ u16_bytes amount))) ≡ bs
hand_in_spelt bs sender stop serial time amount size n p s t a = let e = spelt_out bs 14 size in cc
