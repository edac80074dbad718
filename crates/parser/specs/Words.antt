-- The words of a line. Bytes up to 32 stand between words, and 35, the number sign, ends them. Assumes nothing.
use Rattle.std.specs.Prelude.{ℕ, Bool, not, ◌&&◌, List, take, drop, ◌==◌, nat_le, nat_lt}
use Rattle.std.specs.List.{prefix_len}

abbrev pub blank : ℕ → Bool
blank b = nat_le b 32

abbrev pub solid : ℕ → Bool
solid b = nat_lt 32 b && not (b == 35)

-- from the first word on
abbrev pub from_word : List ℕ → List ℕ
from_word text = drop (prefix_len blank text) text

-- the first word, empty if there is none, and what stands after it
abbrev pub word_of : List ℕ → List ℕ
word_of text = take (prefix_len solid (from_word text)) (from_word text)

abbrev pub rest_of : List ℕ → List ℕ
rest_of text = drop (prefix_len solid (from_word text)) (from_word text)
