-- What is answered of a line, by what was found of it.
use Rattle.std.proofs.Common.{◌≡◌, ℕ, true, false, cond, eqb, List, length, Some, None, Ok, Err, Option, Result, sym, ap, ◌∙◌}
use Rattle.std.proofs.lemmas.Bool.{cond-true, cond-false}
use Rattle.model.specs.declared.call.Call.{Call}
use Rattle.frames.specs.declared.kind.Kind.{Kind}
use Rattle.lines.specs.Lines.{line_of}
use Rattle.parser.specs.declared.words.Wanted.{Wanted}
use Rattle.parser.specs.declared.words.Wanted.TheVariants as wanted
use Rattle.parser.specs.Lines.{Sayable}
use Rattle.parser.specs.Parsed.{Took, call_from, ended, kind_named, parsed, parsed_as}
use Rattle.parser.specs.Words.{word_of, rest_of}
use Rattle.parser.proofs.SaidBack.{said_back}

-- what is promised of an answer
pub record Said (line : List ℕ) (a : Result (Option Call) (List ℕ × Wanted)) : Type 0 where
  pub says : a ≡ parsed line
  pub back : (c : Call) → Sayable c → line ≡ line_of c → a ≡ Ok (Some c)

promised : (line : List ℕ) (a : Result (Option Call) (List ℕ × Wanted)) → a ≡ parsed line → Said line a
promised line a e = record { says = e; back = λ c h is. e ∙ ap parsed is ∙ said_back c h }

module _ (line word rest : List ℕ) (is_word_of : word ≡ word_of line) (is_rest : rest ≡ rest_of line) where
  found : parsed line ≡ cond (eqb (length word) 0) (Ok None) (parsed_as word rest (kind_named word))
  found =
      ap (λ w. cond (eqb (length w) 0) (Ok None) (parsed_as w (rest_of line) (kind_named w))) (sym is_word_of)
      ∙ ap (λ t. cond (eqb (length word) 0) (Ok None) (parsed_as word t (kind_named word))) (sym is_rest)

  pub no_words : eqb (length word) 0 ≡ true → Said line (Ok None)
  no_words e = promised line (Ok None) (sym (found ∙ cond-true (eqb (length word) 0) (Ok None) _ e))

  module _ (some : eqb (length word) 0 ≡ false) where
    pub unknown : None ≡ kind_named word → Said line (Err (word, wanted.Call))
    unknown e = promised line _ (sym (found ∙ cond-false (eqb (length word) 0) (Ok None) _ some ∙ ap (parsed_as word rest) (sym e)))

    module _ (k : Kind) (known : Some k ≡ kind_named word) (t : Took Call) (is : t ≡ call_from k rest) where
      by_kind : parsed line ≡ ended t
      by_kind = found ∙ cond-false (eqb (length word) 0) (Ok None) _ some ∙ ap (parsed_as word rest) (sym known) ∙ ap ended (sym is)

      pub broken : (e : List ℕ × Wanted) → t ≡ Err e → Said line (Err e)
      broken e b = promised line (Err e) (sym (by_kind ∙ ap ended b))

      module _ (c : Call) (after next : List ℕ) (read : t ≡ Ok (c, after)) (is_next : next ≡ word_of after) where
        pub more_words : eqb (length next) 0 ≡ false → Said line (Err (next, wanted.End))
        more_words e =
            promised line (Err (next, wanted.End)) (sym (by_kind ∙ ap ended read
            ∙ ap (λ w. cond (eqb (length w) 0) (Ok (Some c)) (Err (w, wanted.End))) (sym is_next)
            ∙ cond-false (eqb (length next) 0) (Ok (Some c)) (Err (next, wanted.End)) e))

        pub whole : eqb (length next) 0 ≡ true → Said line (Ok (Some c))
        whole e =
            promised line (Ok (Some c)) (sym (by_kind ∙ ap ended read
            ∙ ap (λ w. cond (eqb (length w) 0) (Ok (Some c)) (Err (w, wanted.End))) (sym is_next)
            ∙ cond-true (eqb (length next) 0) (Ok (Some c)) (Err (next, wanted.End)) e))
