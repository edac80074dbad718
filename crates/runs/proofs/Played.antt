-- What is played is a run; and the runs that break the law by wrong rules. Assumes nothing.
use Rattle.std.proofs.Common.{◌≡◌, ℕ, ◌≤◌, List, [], ◌∷◌, length, refl, ap, inl, inr, arith}
use Rattle.model.specs.declared.call.Call.{Call}
use Rattle.model.specs.declared.call.Call.TheVariants.{HandIn, Advance, Fire, Send, Repeat, Deliver, Pass, Restart}
use Rattle.model.specs.declared.call.Junk.TheVariants.{Fill}
use Rattle.counter.specs.Counter.{earliest_from}
use Rattle.law.specs.Law.{Law}
use Rattle.law.specs.Pair.{Pair, happens}
use Rattle.law.specs.Run.{Event, Rules, RunBy, New, outcomes_of}
use Rattle.model.specs.FirstBest.{first_best}
use Rattle.law.specs.Stops.{low_below, pending_below, sum_below}
use Rattle.runs.specs.Counting.{counting}
use Rattle.runs.specs.Delivery.{delivery_calls, delivery_outcomes, delivery_places, places, Places}
use Rattle.runs.specs.Play.{play, Plays, play_on, new_pair, event, uncut, asked}
use Rattle.runs.specs.Worked.{worked_calls, worked_outcomes}
use Rattle.runs.specs.Wrong.{Breaks, hasty, forgetful, dueless}

new_pair_lem : New new_pair
new_pair_lem = record {
  collector = record { off = refl; rows = λ s. refl; watermark = refl };
  spotter = record { off = refl; rows = λ s. refl; watermark = refl };
  link = refl;
}

play_on_run
    : (rules : Rules) (es : List Event) (p : Pair) (calls : List Call)
    → RunBy rules es p → RunBy rules (play_on rules es p calls).0 (play_on rules es p calls).1
unfolding play_on
play_on_run rules es p [] r = r
play_on_run rules es p (c ∷ cs) r =
    play_on_run rules (event c p (rules uncut c p) ∷ es) (rules uncut c p).1 cs (r, refl, refl)

pub play_run : (rules : Rules) (calls : List Call) → RunBy rules (play rules calls).0 (play rules calls).1
play_run rules calls = play_on_run rules [] new_pair calls new_pair_lem

worked_outcomes_lem : outcomes_of (play (happens counting) worked_calls).0 ≡ worked_outcomes
unfolding play_on first_best low_below pending_below earliest_from
worked_outcomes_lem = refl

pub worked : Plays (happens counting) worked_calls worked_outcomes
worked = record { run = play_run (happens counting) worked_calls; outcomes_are = worked_outcomes_lem }

delivery_outcomes_lem : outcomes_of (play (happens counting) delivery_calls).0 ≡ delivery_outcomes
unfolding play_on first_best low_below pending_below earliest_from
delivery_outcomes_lem = refl

pub delivery : Plays (happens counting) delivery_calls delivery_outcomes
delivery = record { run = play_run (happens counting) delivery_calls; outcomes_are = delivery_outcomes_lem }

pub delivery_places_lem : Places delivery_calls delivery_places
unfolding play_on first_best low_below pending_below earliest_from places sum_below
delivery_places_lem = refl

-- power for all that follows
on : List Call → List Call
on calls = Restart 0 100 0 (Fill 0) ∷ Restart 1 100 0 (Fill 0) ∷ calls

-- two minutes fire; the first production is doubled on the way, and its second acknowledgement clears the other
hasty_calls : List Call
unfolding on
hasty_calls =
    on (HandIn (asked 3 1 30 12) ∷ HandIn (asked 3 2 90 5) ∷ Advance 120 ∷ Fire 0 ∷ Fire 0 ∷ Send ∷ Repeat 0 ∷ Deliver 0 ∷ Deliver 0 ∷ Deliver 0 ∷ Deliver 0 ∷ [])

hasty_broken : Law counting (play (hasty counting) hasty_calls).0 (play (hasty counting) hasty_calls).1 → ⊥
unfolding play_on first_best low_below pending_below earliest_from hasty_calls
hasty_broken law = let short : ◌≡◌ {A = ℕ} 1 2 = ap length (law.in_order 3 (omega arith)) in omega arith

pub hasty_breaks : Breaks counting (hasty counting)
hasty_breaks = record {
  events = (play (hasty counting) hasty_calls).0;
  end = (play (hasty counting) hasty_calls).1;
  run = play_run (hasty counting) hasty_calls;
  broken = hasty_broken;
}

-- a record at the floor, another at that second, and the first once more
forgetful_calls : List Call
unfolding on
forgetful_calls = on (Advance 60 ∷ HandIn (asked 3 1 60 12) ∷ HandIn (asked 3 2 60 5) ∷ HandIn (asked 3 1 60 12) ∷ [])

forgetful_broken : Law counting (play (forgetful counting) forgetful_calls).0 (play (forgetful counting) forgetful_calls).1 → ⊥
unfolding play_on first_best low_below pending_below earliest_from forgetful_calls
forgetful_broken law = (law.names_once 3 (omega arith)).0 (inr (inl refl))

pub forgetful_breaks : Breaks counting (forgetful counting)
forgetful_breaks = record {
  events = (play (forgetful counting) forgetful_calls).0;
  end = (play (forgetful counting) forgetful_calls).1;
  run = play_run (forgetful counting) forgetful_calls;
  broken = forgetful_broken;
}

-- a minute is open while the watermark passes its end and goes on to the spotter; then it fires
dueless_calls : List Call
unfolding on
dueless_calls = on (HandIn (asked 3 1 30 12) ∷ Advance 100 ∷ Pass ∷ Fire 0 ∷ [])

dueless_broken : Law counting (play (dueless counting) dueless_calls).0 (play (dueless counting) dueless_calls).1 → ⊥
unfolding play_on first_best low_below pending_below earliest_from dueless_calls
dueless_broken law =
    let late : 100 ≤ 60 = law.none_late 3 (record { serial = 0; time = 60; amount = 12 }) (omega arith) (inl refl) in omega arith

pub dueless_breaks : Breaks counting (dueless counting)
dueless_breaks = record {
  events = (play (dueless counting) dueless_calls).0;
  end = (play (dueless counting) dueless_calls).1;
  run = play_run (dueless counting) dueless_calls;
  broken = dueless_broken;
}
