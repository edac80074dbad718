-- A listing that is made line by line.
use Rattle.std.proofs.Common.{◌≡◌, ℕ, zero, suc, ◌+◌, ◌<◌, ◌≤◌, List, [], ◌++◌, length, Some, None, Ok, Err, sym, refl, ap, ◌∙◌, arith}
use Rattle.std.proofs.lemmas.List.{append_assoc, append-nil}
use Rattle.model.specs.Answers.{fault_number}
use Rattle.model.specs.declared.answer.Fault.{Fault}
use Rattle.model.specs.declared.call.Call.{Call}
use Rattle.frames.specs.Reading.{Standing, call_at, called, next_place, place_after, stands_at}
use Rattle.lines.specs.Listing.{entry_of, fault_of, listed, listed_from, told}

-- what was written and what is still to come make the whole
pub record SoFar (script : List ℕ) (place number : ℕ) (text : List ℕ) : Type 0 where
  pub more : ℕ
  pub enough : length script ≤ place + more
  pub whole : text ++ listed_from more script place (number + 1) ≡ listed script

pub start : (script : List ℕ) (place number : ℕ) (text : List ℕ) → place ≡ 0 → number ≡ 0 → text ≡ [] → SoFar script place number text
start script place number text e first none = record { more = length script; enough = omega arith; whole = cc }

listed_call : (more : ℕ) (s : List ℕ) (i n : ℕ) (call : Call) → call_at s i ≡ Some (Ok call)
    → listed_from (suc more) s i n ≡ entry_of n i call ++ listed_from more s (next_place s i) (n + 1)
unfolding listed_from
listed_call more s i n call e = ap (λ o. told o n i (listed_from more s (next_place s i) (n + 1))) e

listed_fault : (more : ℕ) (s : List ℕ) (i n : ℕ) (fault : Fault) → call_at s i ≡ Some (Err fault)
    → listed_from (suc more) s i n ≡ fault_of (fault_number fault) i
unfolding listed_from
listed_fault more s i n fault e = ap (λ o. told o n i (listed_from more s (next_place s i) (n + 1))) e

listed_end : (more : ℕ) (s : List ℕ) (i n : ℕ) → call_at s i ≡ None → listed_from more s i n ≡ []
unfolding listed_from
listed_end zero s i n e = refl
listed_end (suc more) s i n e = ap (λ o. told o n i (listed_from more s (next_place s i) (n + 1))) e

none_after : (xs s : List ℕ) (i n : ℕ) → xs ++ listed_from 0 s i n ≡ xs
unfolding listed_from
none_after xs s i n = append-nil xs

after_fault : (s : List ℕ) (i : ℕ) (o : Standing) (fault : Fault) → called o ≡ Some (Err fault) → place_after s i o ≡ length s
after_fault s i None fault e = let z : ◌≡◌ {A = ℕ} 0 1 = cc in absurd (omega arith)
after_fault s i (Some (Err f)) fault e = refl
after_fault s i (Some (Ok p)) fault e = let z : ◌≡◌ {A = ℕ} 0 1 = cc in absurd (omega arith)

module _ (s : List ℕ) (i n : ℕ) (text : List ℕ) where
  pub ends : SoFar s i n text → call_at s i ≡ None → text ≡ listed s
  ends h e =
      let a = listed_end h.more s i (n + 1) e in
      sym (append-nil text) ∙ ap (λ t. text ++ t) (sym a) ∙ h.whole

  -- one line more, after which the reader stands at j
  module _ (j : ℕ) (line after : List ℕ) (is : after ≡ text ++ line) (on : i < j) (within : j ≤ length s) where
    pub one_call : SoFar s i n text → (call : Call) → call_at s i ≡ Some (Ok call) → j ≡ next_place s i → line ≡ entry_of (n + 1) i call → SoFar s j (n + 1) after
    one_call h call e next shown = go h.more h.enough h.whole
      where
        go : (m : ℕ) → length s ≤ i + m → text ++ listed_from m s i (n + 1) ≡ listed s → SoFar s j (n + 1) after
        go zero enough whole = absurd (omega arith)
        go (suc m) enough whole = record {
          more = m;
          enough = omega arith;
          whole =
              let a = listed_call m s i (n + 1) call e in
              let b : line ++ listed_from m s j (n + 1 + 1) ≡ listed_from (suc m) s i (n + 1) = cc in
              ap (λ t. t ++ listed_from m s j (n + 1 + 1)) is ∙ append_assoc text line (listed_from m s j (n + 1 + 1)) ∙ ap (λ t. text ++ t) b ∙ whole;
        }

    pub one_fault : SoFar s i n text → (fault : Fault) → call_at s i ≡ Some (Err fault) → j ≡ next_place s i → line ≡ fault_of (fault_number fault) i → SoFar s j (n + 1) after
    one_fault h fault e next shown = go h.more h.enough h.whole
      where
        go : (m : ℕ) → length s ≤ i + m → text ++ listed_from m s i (n + 1) ≡ listed s → SoFar s j (n + 1) after
        go zero enough whole = absurd (omega arith)
        go (suc m) enough whole = record {
          more = 0;
          enough = omega (arith, after_fault s i (stands_at s i) fault e);
          whole =
              let a = listed_fault m s i (n + 1) fault e in
              none_after after s j (n + 1 + 1) ∙ is ∙ ap (λ t. text ++ t) (shown ∙ sym a) ∙ whole;
        }
