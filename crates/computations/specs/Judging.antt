-- What becomes of a record, and of a due, at a state of any computation. Assumes nothing.
use Rattle.std.specs.Prelude.{◌≡◌, ℕ, ◌<◌, ◌≤◌, min, Bool, Some, Option, Result, MatchOption, MatchResult}
use Rattle.model.specs.Limits.{last_time}
use Rattle.model.specs.Admission.{judged}
use Rattle.model.specs.Computation.{Computation}
use Rattle.model.specs.declared.record.Record.{Record}
use Rattle.model.specs.declared.answer.Answer.{Answer}
use Rattle.model.specs.declared.answer.Answer.TheVariants.{Done}

module _ {S : Type 0} (c : Computation S) (Sound : S → Type 0) where
  -- a record that is admitted is taken, and the state after it is sound
  pub record Taken (s : S) (on : Bool) (w : ℕ) (seen : Bool) (r : Record) (n : S × Option (ℕ × ℕ)) : Type 0 where
    pub admitted : judged c s on w seen r ≡ Done
    pub after : n ≡ c.take s w r.name.time r.amount
    pub sound : Sound n.0

  -- any other is refused, with the answer that the order of admission gives
  pub record Refused (s : S) (on : Bool) (w : ℕ) (seen : Bool) (r : Record) (a : Answer) : Type 0 where
    pub answer : a ≡ judged c s on w seen r
    pub refused : a ≡ Done → ⊥

  -- a due that the watermark has reached is fired, and the state after it is sound
  pub record Fired (s : S) (w : ℕ) (n : S × Option (ℕ × ℕ)) : Type 0 where
    pub due : (d : ℕ) × (c.due s ≡ Some d) × (d ≤ w) × (d ≤ last_time)
    pub after : n ≡ c.fire s
    pub sound : Sound n.0

  -- no due is reached
  abbrev pub Quiet : S → ℕ → Type 0
  Quiet s w = (d : ℕ) → c.due s ≡ Some d → min w last_time < d

  -- what is answered to a record, and what is done when a watermark is looked at
  abbrev pub Considered : S → Bool → ℕ → Bool → Record → Result (S × Option (ℕ × ℕ)) Answer → Type 0
  Considered s on w seen r n = MatchResult n (Taken s on w seen r) (Refused s on w seen r)

  abbrev pub Attended : S → ℕ → Option (S × Option (ℕ × ℕ)) → Type 0
  Attended s w n = MatchOption n (Quiet s w) (Fired s w)
