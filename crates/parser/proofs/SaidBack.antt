-- The line that is printed of a call says that call.
use Rattle.std.proofs.Common.{◌≡◌, ℕ, true, cond, eqb, List, [], ◌∷◌, ◌++◌, length, Some, None, Ok, codes, decimal, sym, refl, ap, ◌∙◌}
use Rattle.std.proofs.lemmas.List.{append-nil}
use Rattle.std.specs.List.{prefix_len}
use Rattle.model.specs.declared.call.Call.{Call}
use Rattle.model.specs.declared.call.Call.TheVariants.{HandIn, Advance, Fire, Send, Lose, Repeat, Deliver, Pass, Restart, Show, MarkDone}
use Rattle.model.specs.declared.call.Junk.TheVariants as junk
use Rattle.lines.specs.Lines.{line_of}
use Rattle.parser.specs.declared.field.Field.TheVariants as field
use Rattle.parser.specs.Lines.{Sayable}
use Rattle.parser.specs.Parsed.{Took, and_then, ended, kind_named, parsed, parsed_as}
use Rattle.parser.specs.Words.{solid, word_of, rest_of}
use Rattle.parser.proofs.Spoken.{is_word, named_reads, rest_is, value_reads, word_is}

-- one step of a chain
go : {X Y : Type 0} (x : Took X) (n : X) (t : List ℕ) (next : X → List ℕ → Took Y) → x ≡ Ok (n, t) → and_then x next ≡ next n t
go x n t next e = ap (λ y. and_then y next) e

-- a line whose first word names a kind, by what follows it
module _ (w rest : List ℕ) (line : List ℕ) (is : line ≡ w ++ rest) (word : is_word w ≡ true) (apart : prefix_len solid rest ≡ 0) where
  said : parsed line ≡ cond (eqb (length w) 0) (Ok None) (parsed_as w rest (kind_named w))
  said =
      let a : word_of line ≡ w = ap word_of is ∙ word_is w rest word apart in
      let b : rest_of line ≡ rest = ap rest_of is ∙ rest_is w rest word apart in
      ap (λ x. cond (eqb (length x) 0) (Ok None) (parsed_as x (rest_of line) (kind_named x))) a
      ∙ ap (λ t. cond (eqb (length w) 0) (Ok None) (parsed_as w t (kind_named w))) b

-- a numeral at the end of a line
last : (n : ℕ) → decimal n ≡ decimal n ++ []
last n = sym (append-nil (decimal n))

pub said_back : (c : Call) → Sayable c → parsed (line_of c) ≡ Ok (Some c)
said_back (HandIn r) h =
    let sender = r.name.sender in
    let t4 = 32 ∷ (codes "amount" ++ (32 ∷ decimal r.amount)) in
    let t3 = 32 ∷ (codes "time" ++ (32 ∷ (decimal r.name.time ++ t4))) in
    let t2 = 32 ∷ (codes "serial" ++ (32 ∷ (decimal r.name.serial ++ t3))) in
    let t1 = 32 ∷ (codes "stop" ++ (32 ∷ (decimal r.stop ++ t2))) in
    said (codes "hand-in") (32 ∷ (codes "sender" ++ (32 ∷ (decimal sender ++ t1)))) (line_of (HandIn r)) refl refl refl
    ∙ ap ended (
    go _ _ _ _ (named_reads field.Sender sender h.sender (decimal sender ++ t1) t1 refl refl)
    ∙ go _ _ _ _ (named_reads field.Stop r.stop h.stop (decimal r.stop ++ t2) t2 refl refl)
    ∙ go _ _ _ _ (named_reads field.Serial r.name.serial h.serial (decimal r.name.serial ++ t3) t3 refl refl)
    ∙ go _ _ _ _ (named_reads field.Time r.name.time h.time (decimal r.name.time ++ t4) t4 refl refl)
    ∙ go _ _ _ _ (named_reads field.Amount r.amount h.amount (decimal r.amount) [] (last r.amount) refl))
said_back (Advance time) h =
    said (codes "advance") (32 ∷ decimal time) (line_of (Advance time)) refl refl refl
    ∙ ap ended (go _ _ _ _ (value_reads field.Time time h (decimal time) [] (last time) refl))
said_back (Fire node) h =
    said (codes "fire") (32 ∷ decimal node) (line_of (Fire node)) refl refl refl
    ∙ ap ended (go _ _ _ _ (value_reads field.Node node h (decimal node) [] (last node) refl))
said_back Send h = refl
said_back (Lose place) h =
    said (codes "lose") (32 ∷ decimal place) (line_of (Lose place)) refl refl refl
    ∙ ap ended (go _ _ _ _ (value_reads field.Place place h (decimal place) [] (last place) refl))
said_back (Repeat place) h =
    said (codes "repeat") (32 ∷ decimal place) (line_of (Repeat place)) refl refl refl
    ∙ ap ended (go _ _ _ _ (value_reads field.Place place h (decimal place) [] (last place) refl))
said_back (Deliver place) h =
    said (codes "deliver") (32 ∷ decimal place) (line_of (Deliver place)) refl refl refl
    ∙ ap ended (go _ _ _ _ (value_reads field.Place place h (decimal place) [] (last place) refl))
said_back Pass h = refl
said_back (Restart node left tear (junk.Fill fill)) h =
    let t3 = 32 ∷ (codes "fill" ++ (32 ∷ decimal fill)) in
    let t2 = 32 ∷ (codes "tear" ++ (32 ∷ (decimal tear ++ t3))) in
    let t1 = 32 ∷ (codes "left" ++ (32 ∷ (decimal left ++ t2))) in
    said (codes "restart") (32 ∷ (decimal node ++ t1)) (line_of (Restart node left tear (junk.Fill fill))) refl refl refl
    ∙ ap ended (
    go _ _ _ _ (value_reads field.Node node h.0 (decimal node ++ t1) t1 refl refl)
    ∙ go _ _ _ _ (named_reads field.Left left h.1 (decimal left ++ t2) t2 refl refl)
    ∙ go _ _ _ _ (named_reads field.Tear tear h.2 (decimal tear ++ t3) t3 refl refl)
    ∙ go _ _ _ _ (named_reads field.Fill fill h.3 (decimal fill) [] (last fill) refl))
said_back (Restart node left tear (junk.Page page)) h = absurd h
said_back Show h = refl
said_back (MarkDone stop serial) h =
    let t1 = 32 ∷ (codes "serial" ++ (32 ∷ decimal serial)) in
    said (codes "done") (32 ∷ (codes "stop" ++ (32 ∷ (decimal stop ++ t1)))) (line_of (MarkDone stop serial)) refl refl refl
    ∙ ap ended (
    go _ _ _ _ (named_reads field.Stop stop h.0 (decimal stop ++ t1) t1 refl refl)
    ∙ go _ _ _ _ (named_reads field.Serial serial h.1 (decimal serial) [] (last serial) refl))
