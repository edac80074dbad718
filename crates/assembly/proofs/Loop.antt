-- A script that is made line by line.
use Rattle.std.proofs.Common.{◌≡◌, ℕ, zero, suc, ◌+◌, ◌<◌, ◌≤◌, false, eqb, Bor, List, [], ◌∷◌, ◌++◌, length, take, drop, Some, None, Ok, Err, Option, Result, sym, refl, ap, ◌∙◌, Bool, not, ◌==◌, inl, inr, arith}
use Rattle.std.proofs.lemmas.List.{append_assoc, append-nil, drop-drop, length-drop}
use Rattle.std.proofs.lemmas.List.Elements.{All-from_get_or}
use Rattle.std.proofs.lemmas.Iterator.{YieldsList}
use Rattle.std.proofs.Math.Seq.{drop-length, take-length}
use Rattle.std.proofs.lemmas.List.Splits.{slice_split_first, slice_split_none}
use Rattle.std.proofs.lemmas.List.Sums.{fails_before_first, prefix_len-le-length}
use Rattle.std.proofs.lemmas.Bool.{cases_lt, cond-true, cond-false, eq-eqb, ne_eqb}
use Rattle.std.specs.Iterator.{AlwaysYields}
use Rattle.std.specs.List.{after_first, enumerate_from, position_or_len, slice_split}
use Rattle.model.specs.declared.call.Call.{Call}
use Rattle.parser.specs.declared.words.Wanted.{Wanted}
use Rattle.parser.specs.Parsed.{parsed}
use Rattle.assembly.specs.Assembled.{Assembled, after, assembled, assembled_from, bytes_of, line_in, lines_after, with_line}

after_nil : (a : Assembled) → after [] a ≡ a
after_nil (Ok script) = refl
after_nil (Err e) = refl

after_after : (xs ys : List ℕ) (a : Assembled) → after (xs ++ ys) a ≡ after xs (after ys a)
after_after xs ys (Ok script) = ap (λ s. Ok s) (append_assoc xs ys script)
after_after xs ys (Err e) = refl

-- the script of lines that are numbered from 0
abbrev made_of : List (ℕ × List ℕ) → Assembled
made_of [] = Ok []
made_of (p ∷ ps) = with_line (parsed p.1) (p.0 + 1) (made_of ps)

none_left : (m : ℕ) (rest : List ℕ) (n : ℕ) → length rest ≡ 0 → assembled_from m rest n ≡ Ok []
unfolding assembled_from
none_left zero rest n e = refl
none_left (suc m) rest n e = cond-true (eqb (length rest) 0) (Ok []) _ (eq-eqb (length rest) 0 e)

line_first : (m : ℕ) (rest : List ℕ) (n : ℕ) → 0 < length rest
    → assembled_from (suc m) rest n ≡ with_line (parsed (line_in rest)) n (assembled_from m (lines_after rest) (n + 1))
unfolding assembled_from
line_first m rest n h = cond-false (eqb (length rest) 0) (Ok []) _ (ne_eqb (length rest) 0 (λ e. omega arith))

abbrev is_end : ℕ → Bool
is_end b = b == 10

last_line : (rest : List ℕ) → position_or_len is_end rest ≡ length rest → (slice_split is_end rest ≡ rest ∷ []) × (line_in rest ≡ rest) × (lines_after rest ≡ [])
last_line rest e = (
  slice_split_none is_end rest (All-from_get_or (λ x. is_end x ≡ false) rest 0 (λ k h. fails_before_first is_end rest k 0 (omega (arith, e)))),
  ap (λ n. take n rest) e ∙ take-length rest,
  ap (λ n. drop 1 (drop n rest)) e ∙ ap (drop 1) (drop-length rest),
)

-- the parts of a text are its lines, with an empty one after a newline at the end
parts_from : (m : ℕ) (rest : List ℕ) (n : ℕ) → length rest ≤ m → made_of (enumerate_from n (slice_split is_end rest)) ≡ assembled_from m rest (n + 1)
parts_from m [] n l = sym (none_left m [] (n + 1) refl)
parts_from zero (b ∷ rest) n l = absurd (omega arith)
parts_from (suc m) (b ∷ rest) n l = elim (cases_lt (position_or_len is_end (b ∷ rest)) (length (b ∷ rest))) [
  | inl h ↦
      let cut = slice_split_first is_end (b ∷ rest) 0 h in
      let same : after_first is_end (b ∷ rest) ≡ lines_after (b ∷ rest) = sym (drop-drop 1 (position_or_len is_end (b ∷ rest)) (b ∷ rest)) in
      let fewer : length (lines_after (b ∷ rest)) ≤ m = omega (arith, l, h, ap length (sym same), length-drop (position_or_len is_end (b ∷ rest) + 1) (b ∷ rest)) in
      ap (λ ps. made_of (enumerate_from n ps)) (cut ∙ ap (λ t. line_in (b ∷ rest) ∷ slice_split is_end t) same)
      ∙ ap (with_line (parsed (line_in (b ∷ rest))) (n + 1)) (parts_from m (lines_after (b ∷ rest)) (n + 1) fewer)
      ∙ sym (line_first m (b ∷ rest) (n + 1) (omega arith))
  | inr h ↦
      let whole = last_line (b ∷ rest) (omega (arith, h, prefix_len-le-length (λ x. not (is_end x)) (b ∷ rest))) in
      ap (λ ps. made_of (enumerate_from n ps)) whole.0
      ∙ ap (λ t. with_line (parsed t) (n + 1) (Ok [])) (sym whole.1)
      ∙ ap (with_line (parsed (line_in (b ∷ rest))) (n + 1)) (sym (none_left m (lines_after (b ∷ rest)) (n + 1 + 1) (ap length whole.2)))
      ∙ sym (line_first m (b ∷ rest) (n + 1) (omega arith))
]

module _ {S : Type 0} (steps : S → Option (ℕ × Bor (List ℕ)) → S → Type 0) (text : List ℕ) where
  -- what was made and the lines that are still to come make the whole
  pub record SoFar (s : S) (script : List ℕ) : Type 0 where
    pub lines : List (ℕ × List ℕ)
    pub come : AlwaysYields steps (λ p. (p.0, p.1.now)) s lines
    pub whole : after script (made_of lines) ≡ assembled text

  pub start : (s : S) (script : List ℕ) → script ≡ [] → YieldsList steps (λ p. (p.0, p.1.now)) s (enumerate_from 0 (slice_split (λ b. b == 10) text)) → SoFar s script
  start s script none come = record {
    lines = enumerate_from 0 (slice_split is_end text);
    come = come.runs;
    whole = ap (λ s. after s (made_of (enumerate_from 0 (slice_split is_end text)))) none ∙ after_nil _ ∙ parts_from (length text) text 0 (omega arith);
  }

  pub ends : (s t : S) (script : List ℕ) → SoFar s script → steps s None t → assembled text ≡ Ok script
  ends s t script h e = go h.lines h.come h.whole
    where
      go : (ps : List (ℕ × List ℕ)) → AlwaysYields steps (λ p. (p.0, p.1.now)) s ps → after script (made_of ps) ≡ assembled text → assembled text ≡ Ok script
      go [] come whole = sym whole ∙ ap (λ s. Ok s) (append-nil script)
      go (p ∷ ps) come whole = absurd (come.0 t e)

  -- the lines after the next
  record Turn (t : S) (script : List ℕ) (i : ℕ) (r : Result (Option Call) (List ℕ × Wanted)) : Type 0 where
    later : List (ℕ × List ℕ)
    come : AlwaysYields steps (λ p. (p.0, p.1.now)) t later
    made : after script (with_line r (i + 1) (made_of later)) ≡ assembled text

  module _ (s t : S) (script : List ℕ) (h : SoFar s script) (i : ℕ) (line : Bor (List ℕ)) (step : steps s (Some (i, line)) t) where
    turn : (r : Result (Option Call) (List ℕ × Wanted)) → r ≡ parsed line.now → Turn t script i r
    turn r e = go h.lines h.come h.whole
      where
        go : (ps : List (ℕ × List ℕ)) → AlwaysYields steps (λ p. (p.0, p.1.now)) s ps → after script (made_of ps) ≡ assembled text → Turn t script i r
        go [] come whole = absurd (come (i, line) t step)
        go (p ∷ ps) come whole =
            let next = come.1 (i, line) t step in
            record {
              later = ps;
              come = next.1;
              made =
                  ap (λ x. after script (with_line x (i + 1) (made_of ps))) e
                  ∙ ap (λ q. after script (with_line (parsed q.1) (q.0 + 1) (made_of ps))) next.0 ∙ whole;
            }

    pub says_nothing : Ok None ≡ parsed line.now → SoFar t script
    says_nothing e = let n = turn (Ok None) e in record { lines = n.later; come = n.come; whole = n.made }

    pub says_call : (c : Call) (longer : List ℕ) → Ok (Some c) ≡ parsed line.now → longer ≡ script ++ bytes_of c → SoFar t longer
    says_call c longer e grown =
        let n = turn (Ok (Some c)) e in
        record {
          lines = n.later;
          come = n.come;
          whole = ap (λ s. after s (made_of n.later)) grown ∙ after_after script (bytes_of c) (made_of n.later) ∙ n.made;
        }

    pub says_wrong : (e : List ℕ × Wanted) → Err e ≡ parsed line.now → assembled text ≡ Err (i + 1, e.0, e.1)
    says_wrong e is = sym (turn (Err e) is).made
