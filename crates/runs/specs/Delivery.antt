-- One delivery that is lost, sent again and doubled, moment by moment: the outcomes, and where the twelve requests are.
-- Assumes nothing.
use Rattle.std.specs.Prelude.{◌≡◌, ℕ, List, [], ◌∷◌, ◌++◌}
use Rattle.model.specs.declared.answer.Answer.TheVariants.{Done, Seen, NotOldest}
use Rattle.model.specs.declared.answer.Outcome.{Outcome}
use Rattle.model.specs.declared.answer.Outcome.TheVariants.{Plain}
use Rattle.model.specs.declared.call.Call.{Call}
use Rattle.model.specs.declared.call.Call.TheVariants.{HandIn, Advance, Fire, Send, Lose, Repeat, Deliver, Restart}
use Rattle.model.specs.declared.call.Junk.TheVariants.{Fill}
use Rattle.law.specs.Law.{taken_amount, measured, waiting_amount}
use Rattle.law.specs.Pair.{Pair, happens}
use Rattle.law.specs.Run.{Event}
use Rattle.runs.specs.Counting.{counting, open_in, landed_in}
use Rattle.runs.specs.Play.{play, asked}

-- written out like the worked run, so that outcomes and places are read beside the calls
abbrev pub delivery_calls : List Call
delivery_calls =
    Restart 0 100 0 (Fill 0) ∷
    Restart 1 100 0 (Fill 0) ∷
    HandIn (asked 3 1 30 12) ∷
    Advance 60 ∷
    Fire 0 ∷
    Send ∷
    Lose 0 ∷
    Send ∷
    Repeat 0 ∷
    Deliver 0 ∷
    Deliver 0 ∷
    Deliver 0 ∷
    Deliver 0 ∷
    []

-- where the requests are: taken, open, waiting, landed
pub record Place : Type 0 where
  pub taken : ℕ
  pub in_open : ℕ
  pub waiting : ℕ
  pub landed : ℕ

abbrev pub place_at : List Event → Pair → Place
place_at es p = record {
  taken = taken_amount counting es;
  in_open = measured open_in p.collector;
  waiting = waiting_amount counting es p;
  landed = measured landed_in p.spotter;
}

-- at each moment, the start first
unfoldable pub places : List Event → Pair → List Place
places [] p = place_at [] p ∷ []
places (e ∷ es) p = places es e.before ++ (place_at (e ∷ es) p ∷ [])

abbrev pub at : ℕ → ℕ → ℕ → ℕ → Place
at taken in_open waiting landed = record { taken = taken; in_open = in_open; waiting = waiting; landed = landed }

abbrev pub delivery_outcomes : List Outcome
delivery_outcomes =
    Plain Done ∷
    Plain Done ∷
    Plain Done ∷
    Plain Done ∷
    Plain Done ∷
    Plain Done ∷
    Plain Done ∷
    Plain Done ∷
    Plain Done ∷
    Plain Done ∷
    Plain Seen ∷
    Plain Done ∷
    Plain NotOldest ∷
    []

-- nowhere until they are handed in; then in the open minute; waiting from the fire on, lost on the way or not; landed
-- from the first arrival on, doubled or not
abbrev pub delivery_places : List Place
delivery_places =
    at 0 0 0 0 ∷
    at 0 0 0 0 ∷
    at 0 0 0 0 ∷
    at 12 12 0 0 ∷
    at 12 12 0 0 ∷
    at 12 0 12 0 ∷
    at 12 0 12 0 ∷
    at 12 0 12 0 ∷
    at 12 0 12 0 ∷
    at 12 0 12 0 ∷
    at 12 0 0 12 ∷
    at 12 0 0 12 ∷
    at 12 0 0 12 ∷
    at 12 0 0 12 ∷
    []

-- in the run of these calls the requests are in these places
abbrev pub Places : List Call → List Place → Type 0
Places calls ps = places (play (happens counting) calls).0 (play (happens counting) calls).1 ≡ ps
