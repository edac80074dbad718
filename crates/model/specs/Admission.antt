-- The order in which a record is judged before it is taken. Assumes nothing.
use Rattle.std.specs.Prelude.{ℕ, max, Bool, cond, nat_lt}
use Rattle.model.specs.Limits.{in_range}
use Rattle.model.specs.Computation.{Computation}
use Rattle.model.specs.declared.record.Record.{Record}
use Rattle.model.specs.declared.answer.Answer.{Answer}
use Rattle.model.specs.declared.answer.Answer.TheVariants.{Done, OutOfRange, Off, Late, Seen, Early, Over}
use Rattle.model.specs.declared.answer.Verdict.{Verdict}
use Rattle.model.specs.declared.answer.Verdict.TheVariants.{TooEarly, TooMuch, Fine}

abbrev pub by_verdict : Verdict → Answer
by_verdict TooEarly = Early
by_verdict TooMuch = Over
by_verdict Fine = Done

-- out of range, off, late, seen, early, over; `Done` means that it is admitted
abbrev pub admission : Bool → Bool → Bool → Bool → Verdict → Answer
admission ranged on late seen verdict =
    cond ranged (cond on (cond late Late (cond seen Seen (by_verdict verdict))) Off) OutOfRange

-- the answer to a record at a state of a computation and a watermark: it is late below the floor, which is the larger of
-- the mark and the watermark
abbrev pub judged : {S : Type 0} → Computation S → S → Bool → ℕ → Bool → Record → Answer
judged c s on w seen r =
    admission
    (in_range r)
    on
    (nat_lt r.name.time (max (c.mark s) w))
    seen
    (c.verdict s w r.name.time r.amount)
