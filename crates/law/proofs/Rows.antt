-- What a take and a fire do to a row, of any node. Assumes nothing.
use Rattle.std.proofs.Common.{◌≡◌, ℕ, ◌<◌, ◌≤◌, Bool, true, false, leb, ◌⊎◌, List, [], ◌∷◌, ◌++◌, map, Some, None, Option, sym, refl, ap, ◌∙◌, subst, inl, inr, arith}
use Rattle.std.proofs.lemmas.Bool.{leb-false}
use Rattle.model.specs.Computation.{Computation, Takes, StateBytes, Emits}
use Rattle.model.specs.Limits.{last_time, most_amount}
use Rattle.model.specs.Row.{Row}
use Rattle.model.specs.declared.record.Name.{Name}
use Rattle.model.specs.declared.record.Production.{Production}
use Rattle.model.specs.declared.record.Record.{Record}
use Rattle.law.specs.Lists.{Mem, Apart}
use Rattle.law.specs.Rows.{floor_of, take_of, taken_row, stepped, produced, next_after}
use Rattle.law.proofs.Lists.{mem_kept, kept_mem, mem_left, mem_last, mem_snoc}
use Rattle.law.proofs.Moves.{Lets}
use Rattle.law.proofs.World.{Remembers, Rising, serial_of}

-- what a step adds to a stop's productions: at most one, under the next serial and the mark that the step leaves
pub record Adds (next start after : ℕ) (new : List Production) (then : ℕ) : Type 0 where
  pub serial : (p : Production) → Mem p new → p.serial ≡ next
  pub below : (p : Production) → Mem p new → p.serial < then
  pub time : (p : Production) → Mem p new → p.time ≡ after
  pub reached : (p : Production) → Mem p new → start ≤ p.time
  pub amounts : (p : Production) → Mem p new → (0 < p.amount) × (p.amount ≤ most_amount)
  pub rise : Rising new
  pub apart : Apart (map serial_of new)
  pub grows : next ≤ then

pub adds
    : (e : Option (ℕ × ℕ)) (next start after : ℕ)
    → ((x : ℕ × ℕ) → e ≡ Some x → Emits start after x) → Adds next start after (produced e next) (next_after e next)
adds None next start after f = record {
  serial = λ p m. absurd m;
  below = λ p m. absurd m;
  time = λ p m. absurd m;
  reached = λ p m. absurd m;
  amounts = λ p m. absurd m;
  rise = tt;
  apart = tt;
  grows = omega arith;
}
adds (Some x) next start after f =
    let emits = f x refl in
    record {
      serial = λ p m. elim m [ inl e ↦ ap (λ (q : Production). q.serial) e | inr b ↦ absurd b ];
      below = λ p m. elim m [ inl e ↦ omega (arith, ap (λ (q : Production). q.serial) e) | inr b ↦ absurd b ];
      time = λ p m. elim m [ inl e ↦ ap (λ (q : Production). q.time) e ∙ emits.stamped | inr b ↦ absurd b ];
      reached = λ p m. elim m [ inl e ↦ omega (arith, ap (λ (q : Production). q.time) e, emits.reached) | inr b ↦ absurd b ];
      amounts = λ p m. elim m [
        | inl e ↦ (omega (arith, ap (λ (q : Production). q.amount) e, emits.some), omega (arith, ap (λ (q : Production). q.amount) e, emits.few))
        | inr b ↦ absurd b
      ];
      rise = (λ q m. absurd m, tt);
      apart = (λ m. m, tt);
      grows = omega arith;
    }

module _ (c : Computation (List ℕ)) (w : ℕ) where
  -- what is known by name stays so over a step that does not lower the mark
  pub remembers_step
      : (step : List ℕ × Option (ℕ × ℕ)) (row : Row) (names : List Name)
      → c.mark row.state ≤ c.mark step.0 → Remembers c w row names → Remembers c w (stepped c w step row) names
  remembers_step step row names rises known n m =
      elim (known n m) [ inl late ↦ inl (omega arith) | inr k ↦ at (leb (floor_of c w step.0) n.time) refl k ]
    where
      at
          : (b : Bool)
          → leb (floor_of c w step.0) n.time ≡ b → Mem n row.names
          → (n.time < floor_of c w step.0) ⊎ Mem n (stepped c w step row).names
      at true e k = inr (mem_kept n (λ x. leb (floor_of c w step.0) x.time) row.names k e)
      at false e k = inl (leb-false (floor_of c w step.0) n.time e)

  -- and a take adds the name taken
  pub remembers_take
      : (r : Record) (row : Row) (names : List Name)
      → c.mark row.state ≤ c.mark (take_of c w r row).0 → Remembers c w row names
      → Remembers c w (taken_row c w r row) (names ++ (r.name ∷ []))
  remembers_take r row names rises known n m =
      elim (mem_snoc n r.name names m) [
        | inl k ↦ old (remembers_step (take_of c w r row) row names rises known n k)
        | inr e ↦ inr (subst (λ x. Mem x (taken_row c w r row).names) (sym e) (mem_last r.name (stepped c w (take_of c w r row) row).names))
      ]
    where
      old
          : (n.time < floor_of c w (take_of c w r row).0) ⊎ Mem n (stepped c w (take_of c w r row) row).names
          → (n.time < floor_of c w (take_of c w r row).0) ⊎ Mem n (taken_row c w r row).names
      old (inl late) = inl late
      old (inr k) = inr (mem_left n (stepped c w (take_of c w r row) row).names (r.name ∷ []) k)

  -- a record that is let in was not taken before
  pub not_known
      : (r : Record) (row : Row) (names : List Name)
      → Remembers c w row names → Lets c w r row → Mem r.name names → ⊥
  not_known r row names known lets m =
      elim (known r.name m) [ inl late ↦ omega (arith, lets.floor) | inr k ↦ lets.fresh k ]

  -- the names of the row after a take are old ones or the name taken
  pub taken_names : (r : Record) (row : Row) (n : Name) → Mem n (taken_row c w r row).names → Mem n row.names ⊎ (n ≡ r.name)
  taken_names r row n m =
      elim (mem_snoc n r.name (stepped c w (take_of c w r row) row).names m) [
        | inl k ↦ inl (kept_mem n (λ x. leb (floor_of c w (take_of c w r row).0) x.time) row.names k)
        | inr e ↦ inr e
      ]

  pub TakesOf
      : (r : Record) (row : Row)
      → StateBytes row.state → w ≤ last_time → Lets c w r row → Takes c StateBytes row.state w r.name.time r.amount
  TakesOf r row bytes last lets = record {
    sound = bytes;
    watermark = last;
    time = lets.time;
    some = lets.some;
    few = lets.few;
    past_mark = omega (arith, lets.floor);
    past_watermark = omega (arith, lets.floor);
    fine = lets.fine;
  }
