-- The four bits of a name, and which bits of a filter are set. Assumes nothing.
use Rattle.std.specs.Prelude.{ℕ, ◌+◌, ◌*◌, ◌/◌, ◌%◌, ◌^◌, Bool, ◌&&◌, ◌||◌, List, [], ◌∷◌, ◌==◌, bit_or, slice_index}
use Rattle.model.specs.declared.record.Name.{Name}

-- the number of bits
abbrev pub bit_count : ℕ
bit_count = 16384

-- a name and a stop as one number of 32 bits
abbrev pub mixed : ℕ → Name → ℕ
mixed s n = (n.serial * 2654435761 + n.time * 40503 + n.sender * 32 + s) % 2 ^ 32

-- the number rotated left by 16, its lowest bit set
abbrev pub stride : ℕ → ℕ
stride a = bit_or (bit_or ((a * 2 ^ 16) % 2 ^ 32) (a / 2 ^ 16)) 1

-- the i-th bit of a name
abbrev pub bit_of : ℕ → Name → ℕ → ℕ
bit_of s n i = (mixed s n + i * stride (mixed s n)) % bit_count

abbrev pub four_bits : ℕ → Name → List ℕ
four_bits s n = bit_of s n 0 ∷ bit_of s n 1 ∷ bit_of s n 2 ∷ bit_of s n 3 ∷ []

-- bit k of a word
abbrev pub word_bit : ℕ → ℕ → Bool
word_bit w k = w / 2 ^ k % 2 == 1

-- bit p of words of 64 bits
unfoldable pub bit_in : List ℕ → ℕ → Bool
bit_in ws p = word_bit (slice_index ws (p / 64)) (p % 64)

-- the bit is set too
abbrev pub with_bit : (ℕ → Bool) → ℕ → ℕ → Bool
with_bit bits p = λ q. (p == q) || bits q

-- the four bits of a name are set
abbrev pub all_set : (ℕ → Bool) → ℕ → Name → Bool
all_set bits s n = bits (bit_of s n 0) && (bits (bit_of s n 1) && (bits (bit_of s n 2) && bits (bit_of s n 3)))

-- the four bits of a name are set too
abbrev pub with_four : (ℕ → Bool) → ℕ → Name → ℕ → Bool
with_four bits s n = with_bit (with_bit (with_bit (with_bit bits (bit_of s n 0)) (bit_of s n 1)) (bit_of s n 2)) (bit_of s n 3)
