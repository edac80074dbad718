-- The worked run of thirteen calls: a record handed in twice, a minute fired, its production sent, doubled on the way,
-- delivered twice and acknowledged twice. Assumes nothing.
use Rattle.std.specs.Prelude.{List, [], ◌∷◌}
use Rattle.model.specs.declared.answer.Answer.TheVariants.{Done, Seen, NotOldest}
use Rattle.model.specs.declared.answer.Outcome.{Outcome}
use Rattle.model.specs.declared.answer.Outcome.TheVariants.{Plain, Shown}
use Rattle.model.specs.declared.call.Call.{Call}
use Rattle.model.specs.declared.call.Call.TheVariants.{HandIn, Advance, Fire, Send, Repeat, Deliver, Restart, Show}
use Rattle.model.specs.declared.call.Junk.TheVariants.{Fill}
use Rattle.runs.specs.Play.{asked}

abbrev pub worked_calls : List Call
worked_calls =
    Restart 0 100 0 (Fill 0) ∷
    Restart 1 100 0 (Fill 0) ∷
    HandIn (asked 3 1 30 12) ∷
    HandIn (asked 3 1 30 12) ∷
    Advance 60 ∷
    Fire 0 ∷
    Send ∷
    Repeat 0 ∷
    Deliver 0 ∷
    Deliver 0 ∷
    Deliver 0 ∷
    Deliver 0 ∷
    Show ∷
    []

abbrev pub worked_outcomes : List Outcome
worked_outcomes =
    Plain Done ∷
    Plain Done ∷
    Plain Done ∷
    Plain Seen ∷
    Plain Done ∷
    Plain Done ∷
    Plain Done ∷
    Plain Done ∷
    Plain Done ∷
    Plain Seen ∷
    Plain Done ∷
    Plain NotOldest ∷
    Shown 3 (record { serial = 0; time = 60; amount = 12 }) ∷
    []
