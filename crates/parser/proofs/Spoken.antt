-- What is printed of a call is read back: the words of a line, its numbers, and so the call.
use Rattle.std.proofs.Common.{◌≡◌, ℕ, suc, ◌+◌, ◌-◌, ◌*◌, ◌/◌, ◌%◌, ◌^◌, ◌<◌, ◌≤◌, Bool, true, false, ◌&&◌, leb, List, [], ◌∷◌, ◌++◌, length, take, drop, Some, None, Ok, Err, decimal, sym, refl, ap, ◌∙◌, arith}
use Rattle.std.proofs.lemmas.Fmt.{decimal_by_steps}
use Rattle.std.proofs.lemmas.Slice.Eq.{bytes_eq-Decides}
use Rattle.std.proofs.lemmas.List.{drop_at, take_at}
use Rattle.std.proofs.lemmas.Bool.{and_from, and_parts, cond-true, cond-false, le-leb}
use Rattle.std.proofs.lemmas.Bool.Decides.{nat_tests}
use Rattle.std.specs.Char.{is_ascii_digit}
use Rattle.std.specs.List.{prefix_len}
use Rattle.std.specs.Str.{bytes_eq}
use Rattle.parser.specs.declared.field.Field.{Field}
use Rattle.parser.specs.declared.field.Field.TheVariants.{Sender, Stop, Serial, Time, Amount, Node, Place, Left, Tear, Fill}
use Rattle.parser.specs.declared.words.Wanted.TheVariants as wanted
use Rattle.parser.specs.Fields.{field_name, most_of}
use Rattle.parser.specs.Numerals.{number_from, number_of}
use Rattle.parser.specs.Parsed.{named_from, numbered, value_from}
use Rattle.parser.specs.Words.{blank, from_word, rest_of, solid, word_of}

-- a word: at least one byte, and each solid
abbrev solids : List ℕ → Bool
solids [] = true
solids (b ∷ bs) = solid b && solids bs

abbrev pub is_word : List ℕ → Bool
is_word [] = false
is_word (b ∷ bs) = solid b && solids bs

solid_not_blank : (b : ℕ) → solid b ≡ true → blank b ≡ false
solid_not_blank b e = grind (arith, nat_tests)

leading_solids : (w rest : List ℕ) → solids w ≡ true → prefix_len solid rest ≡ 0 → prefix_len solid (w ++ rest) ≡ length w
leading_solids [] rest e z = z
leading_solids (b ∷ w) rest e z =
    let p = and_parts (solid b) (solids w) e in
    cond-true (solid b) (1 + prefix_len solid (w ++ rest)) 0 p.0 ∙ omega (arith, leading_solids w rest p.1 z)

-- from a word on
from_word_lem : (w rest : List ℕ) → is_word w ≡ true → from_word (w ++ rest) ≡ w ++ rest
from_word_lem [] rest e = let z : ◌≡◌ {A = ℕ} 0 1 = cc in absurd (omega arith)
from_word_lem (b ∷ w) rest e =
    let n = cond-false (blank b) (1 + prefix_len blank (w ++ rest)) 0 (solid_not_blank b (and_parts (solid b) (solids w) e).0) in
    ap (λ k. drop k (b ∷ (w ++ rest))) n

is_solids : (w : List ℕ) → is_word w ≡ true → solids w ≡ true
is_solids [] e = refl
is_solids (b ∷ w) e = e

-- after a space
spaced : (text : List ℕ) → from_word (32 ∷ text) ≡ from_word text
spaced text = let e : 1 + prefix_len blank text ≡ suc (prefix_len blank text) = omega arith in ap (λ k. drop k (32 ∷ text)) e

module _ (w rest : List ℕ) (word : is_word w ≡ true) (apart : prefix_len solid rest ≡ 0) where
  pub word_is : word_of (w ++ rest) ≡ w
  word_is =
      ap (λ t. take (prefix_len solid t) t) (from_word_lem w rest word) ∙ ap (λ k. take k (w ++ rest)) (leading_solids w rest (is_solids w word) apart) ∙ take_at w rest (length w) refl

  pub rest_is : rest_of (w ++ rest) ≡ rest
  rest_is =
      ap (λ t. drop (prefix_len solid t) t) (from_word_lem w rest word) ∙ ap (λ k. drop k (w ++ rest)) (leading_solids w rest (is_solids w word) apart) ∙ drop_at w rest (length w) refl

word_spaced : (text : List ℕ) → word_of (32 ∷ text) ≡ word_of text
word_spaced text = ap (λ t. take (prefix_len solid t) t) (spaced text)

rest_spaced : (text : List ℕ) → rest_of (32 ∷ text) ≡ rest_of text
rest_spaced text = ap (λ t. drop (prefix_len solid t) t) (spaced text)

-- a numeral is a word, and is read as its number
solid_digit : (d : ℕ) → d < 10 → solid (48 + d) ≡ true
solid_digit d h = grind (arith, nat_tests)

solids_push : (w : List ℕ) (b : ℕ) → solids w ≡ true → solid b ≡ true → solids (w ++ (b ∷ [])) ≡ true
solids_push [] b e s = and_from (solid b) true s refl
solids_push (c ∷ w) b e s = let p = and_parts (solid c) (solids w) e in and_from (solid c) (solids (w ++ (b ∷ []))) p.0 (solids_push w b p.1 s)

word_push : (w : List ℕ) (b : ℕ) → is_word w ≡ true → solid b ≡ true → is_word (w ++ (b ∷ [])) ≡ true
word_push [] b e s = let z : ◌≡◌ {A = ℕ} 0 1 = cc in absurd (omega arith)
word_push (c ∷ w) b e s = solids_push (c ∷ w) b e s

numeral_word : (n : ℕ) → n < 2 ^ 64 → is_word (decimal n) ≡ true
numeral_word =
    decimal_by_steps (λ n ds. is_word ds ≡ true)
    (λ n h. and_from (solid (48 + n)) true (solid_digit n h) refl)
    (λ n ds h e. word_push ds (48 + n % 10) e (solid_digit (n % 10) (omega arith)))

digit_here : (d : ℕ) → d < 10 → is_ascii_digit (48 + d) ≡ true
digit_here d h = grind (arith, nat_tests)

-- one digit more
number_push : (most n m d : ℕ) (w : List ℕ) → number_from most n w ≡ Some m → d < 10 → m * 10 + d ≤ most → number_from most n (w ++ ((48 + d) ∷ [])) ≡ Some (m * 10 + d)
number_push most n m d [] e h l =
    let k : n ≡ m = cc in
    let s : 48 + d - 48 ≡ d = omega arith in
    cond-true (is_ascii_digit (48 + d)) _ None (digit_here d h)
    ∙ cond-true (leb (n * 10 + (48 + d - 48)) most) (Some (n * 10 + (48 + d - 48))) None (le-leb (n * 10 + (48 + d - 48)) most (omega arith))
    ∙ ap (λ x. Some x) (omega arith)
number_push most n m d (b ∷ w) e h l =
    by_tests (is_ascii_digit b) refl (leb (n * 10 + (b - 48)) most) refl (λ f. number_push most (n * 10 + (b - 48)) m d w f h l)
  where
    by_tests : (x : Bool) → is_ascii_digit b ≡ x → (y : Bool) → leb (n * 10 + (b - 48)) most ≡ y
        → (number_from most (n * 10 + (b - 48)) w ≡ Some m → number_from most (n * 10 + (b - 48)) (w ++ ((48 + d) ∷ [])) ≡ Some (m * 10 + d))
        → number_from most n ((b ∷ w) ++ ((48 + d) ∷ [])) ≡ Some (m * 10 + d)
    by_tests true p true q more =
        let f : number_from most (n * 10 + (b - 48)) w ≡ Some m =
        sym (cond-true (leb (n * 10 + (b - 48)) most) _ None q) ∙ sym (cond-true (is_ascii_digit b) _ None p) ∙ e in
        cond-true (is_ascii_digit b) _ None p ∙ cond-true (leb (n * 10 + (b - 48)) most) _ None q ∙ more f
    by_tests true p false q more =
        let f : None ≡ Some m = sym (cond-false (leb (n * 10 + (b - 48)) most) _ None q) ∙ sym (cond-true (is_ascii_digit b) _ None p) ∙ e in
        let z : ◌≡◌ {A = ℕ} 0 1 = cc in absurd (omega arith)
    by_tests false p y q more =
        let f : None ≡ Some m = sym (cond-false (is_ascii_digit b) _ None p) ∙ e in
        let z : ◌≡◌ {A = ℕ} 0 1 = cc in absurd (omega arith)

number_reads : (most n : ℕ) → n < 2 ^ 64 → n ≤ most → number_from most 0 (decimal n) ≡ Some n
number_reads most n small =
    decimal_by_steps (λ n ds. n ≤ most → number_from most 0 ds ≡ Some n)
    (λ n h l. number_push most 0 0 n [] refl h (omega arith) ∙ ap (λ x. Some x) (omega arith))
    (λ n ds h e l. number_push most 0 (n / 10) (n % 10) ds (e (omega arith)) (omega arith) (omega arith) ∙ ap (λ x. Some x) (omega arith))
    n small

number_some : (most n : ℕ) (w : List ℕ) → is_word w ≡ true → number_from most 0 w ≡ Some n → number_of most w ≡ Some n
number_some most n [] e r = let z : ◌≡◌ {A = ℕ} 0 1 = cc in absurd (omega arith)
number_some most n (b ∷ w) e r = r

-- a field's largest number is below every machine word's
most_small : (f : Field) → most_of f < 2 ^ 64
most_small Sender = omega arith
most_small Stop = omega arith
most_small Serial = omega arith
most_small Time = omega arith
most_small Amount = omega arith
most_small Node = omega arith
most_small Place = omega arith
most_small Left = omega arith
most_small Tear = omega arith
most_small Fill = omega arith

name_word : (f : Field) → is_word (field_name f) ≡ true
name_word Sender = refl
name_word Stop = refl
name_word Serial = refl
name_word Time = refl
name_word Amount = refl
name_word Node = refl
name_word Place = refl
name_word Left = refl
name_word Tear = refl
name_word Fill = refl

-- a space and a numeral; what follows does not run into it
module _ (f : Field) (n : ℕ) (fits : n ≤ most_of f) (numeral rest : List ℕ) (is : numeral ≡ decimal n ++ rest) (apart : prefix_len solid rest ≡ 0) where
  pub value_reads : value_from f (32 ∷ numeral) ≡ Ok (n, rest)
  unfolding value_from
  value_reads =
      let small : n < 2 ^ 64 = omega (arith, most_small f) in
      let w = word_spaced numeral ∙ ap word_of is ∙ word_is (decimal n) rest (numeral_word n small) apart in
      let r = rest_spaced numeral ∙ ap rest_of is ∙ rest_is (decimal n) rest (numeral_word n small) apart in
      let k : number_of (most_of f) (word_of (32 ∷ numeral)) ≡ Some n =
      ap (number_of (most_of f)) w ∙ number_some (most_of f) n (decimal n) (numeral_word n small) (number_reads (most_of f) n small fits) in
      ap (numbered f (word_of (32 ∷ numeral)) (rest_of (32 ∷ numeral))) k ∙ ap (λ t. Ok (n, t)) r

  -- the same after the field's name
  pub named_reads : named_from f (32 ∷ (field_name f ++ (32 ∷ numeral))) ≡ Ok (n, rest)
  unfolding named_from
  named_reads =
      let text = field_name f ++ (32 ∷ numeral) in
      let w : word_of (32 ∷ text) ≡ field_name f = word_spaced text ∙ word_is (field_name f) (32 ∷ numeral) (name_word f) refl in
      let r : rest_of (32 ∷ text) ≡ 32 ∷ numeral = rest_spaced text ∙ rest_is (field_name f) (32 ∷ numeral) (name_word f) refl in
      let s : bytes_eq (word_of (32 ∷ text)) (field_name f) ≡ true = (bytes_eq-Decides (word_of (32 ∷ text)) (field_name f)).1 w in
      cond-true (bytes_eq (word_of (32 ∷ text)) (field_name f)) _ (Err (word_of (32 ∷ text), wanted.Name f)) s
      ∙ ap (value_from f) r ∙ value_reads
