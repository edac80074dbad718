-- The calls of a script, gathered one by one. Assumes nothing.
use Rattle.std.proofs.Common.{◌≡◌, ℕ, zero, suc, ◌+◌, ◌<◌, ◌≤◌, List, [], ◌∷◌, ◌++◌, length, Some, None, Ok, Err, Option, sym, refl, ap, ◌∙◌, append_assoc, append-nil, arith}
use Rattle.model.specs.declared.answer.Fault.{Fault}
use Rattle.model.specs.declared.call.Call.{Call}
use Rattle.frames.specs.Reading.{call_at, next_place}
use Rattle.replay.specs.Script.{gathered, calls_from, calls_in, first_fault, fault_from, fault_in}

-- what was gathered and what is still to come make the whole
pub record SoFar (script : List ℕ) (place : ℕ) (calls : List Call) : Type 0 where
  pub more : ℕ
  pub enough : length script ≤ place + more
  pub whole : calls ++ calls_from more script place ≡ calls_in script
  pub fault : fault_from more script place ≡ fault_in script

pub start : (script : List ℕ) (place : ℕ) (calls : List Call) → place ≡ 0 → calls ≡ [] → SoFar script place calls
start script place calls e none = record { more = length script; enough = omega arith; whole = cc; fault = cc }

calls_at : (more : ℕ) (s : List ℕ) (i : ℕ) → calls_from (suc more) s i ≡ gathered (call_at s i) (calls_from more s (next_place s i))
unfolding calls_from
calls_at more s i = refl

fault_at : (more : ℕ) (s : List ℕ) (i : ℕ) → fault_from (suc more) s i ≡ first_fault (call_at s i) i (fault_from more s (next_place s i))
unfolding fault_from
fault_at more s i = refl

no_calls : (more : ℕ) (s : List ℕ) (i : ℕ) → call_at s i ≡ None → calls_from more s i ≡ []
unfolding calls_from
no_calls zero s i e = refl
no_calls (suc more) s i e = ap (λ o. gathered o (calls_from more s (next_place s i))) e

no_fault : (more : ℕ) (s : List ℕ) (i : ℕ) → call_at s i ≡ None → fault_from more s i ≡ None
unfolding fault_from
no_fault zero s i e = refl
no_fault (suc more) s i e = ap (λ o. first_fault o i (fault_from more s (next_place s i))) e

-- the whole of a script whose end or first fault was reached
pub record Whole (script : List ℕ) (calls : List Call) (fault : Option (Fault × ℕ)) : Type 0 where
  pub calls_are : calls ≡ calls_in script
  pub fault_is : fault ≡ fault_in script

module _ (s : List ℕ) (i : ℕ) (calls : List Call) (h : SoFar s i calls) where
  pub ends : call_at s i ≡ None → Whole s calls None
  ends e = record {
    calls_are = sym (append-nil calls) ∙ ap (λ (cs : List Call). calls ++ cs) (sym (no_calls h.more s i e)) ∙ h.whole;
    fault_is = sym (no_fault h.more s i e) ∙ h.fault;
  }

  pub one_call : (j : ℕ) (call : Call) → i < length s → call_at s i ≡ Some (Ok call) → j ≡ next_place s i → i < j → SoFar s j (calls ++ (call ∷ []))
  one_call j call inside e next on = go h.more h.enough h.whole h.fault
    where
      go : (m : ℕ) → length s ≤ i + m → calls ++ calls_from m s i ≡ calls_in s → fault_from m s i ≡ fault_in s → SoFar s j (calls ++ (call ∷ []))
      go zero enough whole fault = absurd (omega arith)
      go (suc m) enough whole fault = record {
        more = m;
        enough = omega arith;
        whole =
            append_assoc calls (call ∷ []) (calls_from m s j)
            ∙ ap (λ (k : ℕ). calls ++ (call ∷ calls_from m s k)) next
            ∙ ap (λ o. calls ++ gathered o (calls_from m s (next_place s i))) (sym e)
            ∙ ap (λ (cs : List Call). calls ++ cs) (sym (calls_at m s i)) ∙ whole;
        fault =
            ap (λ (k : ℕ). fault_from m s k) next ∙ ap (λ o. first_fault o i (fault_from m s (next_place s i))) (sym e) ∙ sym (fault_at m s i) ∙ fault;
      }

  pub one_fault : (fault : Fault) → i < length s → call_at s i ≡ Some (Err fault) → Whole s calls (Some (fault, i))
  one_fault fault inside e = go h.more h.enough h.whole h.fault
    where
      go : (m : ℕ) → length s ≤ i + m → calls ++ calls_from m s i ≡ calls_in s → fault_from m s i ≡ fault_in s → Whole s calls (Some (fault, i))
      go zero enough whole f = absurd (omega arith)
      go (suc m) enough whole f = record {
        calls_are =
            sym (append-nil calls)
            ∙ ap (λ o. calls ++ gathered o (calls_from m s (next_place s i))) (sym e)
            ∙ ap (λ (cs : List Call). calls ++ cs) (sym (calls_at m s i)) ∙ whole;
        fault_is = ap (λ o. first_fault o i (fault_from m s (next_place s i))) (sym e) ∙ sym (fault_at m s i) ∙ f;
      }
