-- What taking, firing and clearing make of a stop's row. Assumes nothing.
use Rattle.std.specs.Prelude.{ℕ, ◌+◌, max, Bool, false, cond, List, [], ◌∷◌, ◌++◌, length, Some, None, Option, ◌==◌, nat_le}
use Rattle.model.specs.Admission.{judged}
use Rattle.model.specs.Answers.{is_done}
use Rattle.model.specs.Computation.{Computation}
use Rattle.model.specs.Limits.{most_names}
use Rattle.model.specs.Names.{named, kept}
use Rattle.model.specs.Row.{Row, room_for_one}
use Rattle.model.specs.declared.answer.Answer.{Answer}
use Rattle.model.specs.declared.answer.Answer.TheVariants.{Done, Full}
use Rattle.model.specs.declared.record.Name.{Name}
use Rattle.model.specs.declared.record.Record.{Record}
use Rattle.model.specs.declared.record.Production.{Production}

-- a name stands among the names
abbrev pub seen : Name → List Name → Bool
seen n names = named names n

-- below the floor of a stop, which is the larger of mark and watermark, a record is late
abbrev pub floor_of : Computation (List ℕ) → ℕ → List ℕ → ℕ
floor_of c w state = max (c.mark state) w

abbrev pub room_for : Option (ℕ × ℕ) → Row → Answer
room_for None row = Done
room_for (Some e) row = room_for_one row

-- what is emitted becomes the youngest pending production, under the next serial
abbrev pub next_after : Option (ℕ × ℕ) → ℕ → ℕ
next_after None n = n
next_after (Some e) n = n + 1

abbrev pub produced : Option (ℕ × ℕ) → ℕ → List Production
produced None n = []
produced (Some e) n = record { serial = n; time = e.0; amount = e.1 } ∷ []

-- the row after its computation has taken or fired: state and emission are written, names below the new floor dropped
abbrev pub stepped : Computation (List ℕ) → ℕ → List ℕ × Option (ℕ × ℕ) → Row → Row
stepped c w step row = record {
  next = next_after step.1 row.next;
  state = step.0;
  pending = row.pending ++ produced step.1 row.next;
  names = kept (floor_of c w step.0) row.names;
}

abbrev pub with_name : Name → Row → Row
with_name n row = record { next = row.next; state = row.state; pending = row.pending; names = row.names ++ (n ∷ []) }

-- what a take makes of a row's state, and what it emits
abbrev pub take_of : Computation (List ℕ) → ℕ → Record → Row → List ℕ × Option (ℕ × ℕ)
take_of c w r row = c.take row.state w r.name.time r.amount

abbrev pub taken_row : Computation (List ℕ) → ℕ → Record → Row → Row
taken_row c w r row = with_name r.name (stepped c w (take_of c w r row) row)

abbrev pub fired_row : Computation (List ℕ) → ℕ → Row → Row
fired_row c w row = stepped c w (c.fire row.state) row

-- a serial is that of the oldest pending production
abbrev pub is_oldest : ℕ → List Production → Bool
is_oldest n [] = false
is_oldest n (p ∷ ps) = p.serial == n

-- is a record let in, at a watermark? `Done` means that it is
abbrev pub admitted : Computation (List ℕ) → Bool → ℕ → Record → Row → Answer
admitted c on w r row = judged c row.state on w (seen r.name row.names) r

-- has the row room for the name, and for what the take emits? old names count that the take does not drop
abbrev pub room_to_take : Computation (List ℕ) → ℕ → Record → Row → Answer
room_to_take c w r row =
    cond (nat_le most_names (length (kept (floor_of c w (take_of c w r row).0) row.names))) Full (room_for (take_of c w r row).1 row)

-- what is said of a record before it is taken: every answer of a hand in but a cut
abbrev pub considered : Computation (List ℕ) → Bool → ℕ → Record → Row → Answer
considered c on w r row = cond (is_done (admitted c on w r row)) (room_to_take c w r row) (admitted c on w r row)
