-- What is taken from the front of a text: a number, or a name and a number.
use Rattle.std.proofs.Common.{◌≡◌, ℕ, true, false, Bor, List, Some, None, Err, Option, Result, ok_or, sym, refl, ap, ◌∙◌}
use Rattle.std.proofs.lemmas.Bool.{cond-true, cond-false}
use Rattle.std.specs.Str.{bytes_eq}
use Rattle.parser.specs.declared.field.Field.{Field}
use Rattle.parser.specs.declared.words.Wanted.TheVariants as wanted
use Rattle.parser.specs.Fields.{field_name, most_of}
use Rattle.parser.specs.Numerals.{number_of}
use Rattle.parser.specs.declared.words.Misread.{Misread}
use Rattle.parser.specs.Parsed.{Took, took, named_from, numbered, value_from}
use Rattle.parser.specs.Words.{word_of, rest_of}

took_number : (f : Field) (word : Bor (List ℕ)) (rest : List ℕ) (r : Option ℕ)
    → took (ok_or r (record { word = word; wanted = wanted.Number f })) rest ≡ numbered f word.now rest r
took_number f word rest None = refl
took_number f word rest (Some n) = refl

pub value_read : (f : Field) (text : List ℕ) (word : Bor (List ℕ)) (rest : List ℕ) (most : ℕ) (r : Option ℕ) (answer : Result ℕ Misread)
    → word.now ≡ word_of text → rest ≡ rest_of text → most ≡ most_of f → r ≡ number_of most word.now
    → answer ≡ ok_or r (record { word = word; wanted = wanted.Number f }) → took answer rest ≡ value_from f text
unfolding value_from
value_read f text word rest most r answer is_word is_rest is_most is_number is =
    let n : r ≡ number_of (most_of f) (word_of text) = is_number ∙ ap (λ m. number_of m word.now) is_most ∙ ap (number_of (most_of f)) is_word in
    ap (λ a. took a rest) is ∙ took_number f word rest r
    ∙ ap (λ w. numbered f w rest r) is_word ∙ ap (λ t. numbered f (word_of text) t r) is_rest ∙ ap (numbered f (word_of text) (rest_of text)) n

module _ (f : Field) (text word : List ℕ) (is_word_of : word ≡ word_of text) where
  -- a test whether the word is the field's name
  module _ (name : List ℕ) (is_name : name ≡ field_name f) where
    pub name_other : bytes_eq word name ≡ false → Err (word, wanted.Name f) ≡ named_from f text
    unfolding named_from
    name_other e =
        let h : bytes_eq (word_of text) (field_name f) ≡ false = ap (λ n. bytes_eq (word_of text) n) (sym is_name) ∙ ap (λ w. bytes_eq w name) (sym is_word_of) ∙ e in
        ap (λ w. Err (w, wanted.Name f)) is_word_of ∙ sym (cond-false (bytes_eq (word_of text) (field_name f)) _ (Err (word_of text, wanted.Name f)) h)

    pub name_same : bytes_eq word name ≡ true → (rest : List ℕ) (t : Took ℕ) → rest ≡ rest_of text → t ≡ value_from f rest → t ≡ named_from f text
    unfolding named_from
    name_same e rest t is_rest is_value =
        let h : bytes_eq (word_of text) (field_name f) ≡ true = ap (λ n. bytes_eq (word_of text) n) (sym is_name) ∙ ap (λ w. bytes_eq w name) (sym is_word_of) ∙ e in
        is_value ∙ ap (value_from f) is_rest ∙ sym (cond-true (bytes_eq (word_of text) (field_name f)) _ (Err (word_of text, wanted.Name f)) h)
