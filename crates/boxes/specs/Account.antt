-- What the account of a script says, of the counter over a journal store and the detector over a shadow store.
-- Assumes nothing.
use Rattle.std.specs.Prelude.{◌≡◌, ℕ, List, [], ◌++◌}
use Rattle.model.specs.declared.answer.Outcome.{Outcome}
use Rattle.law.specs.Law.{Counted, Throughout, Told}
use Rattle.law.specs.Pair.{Pair}
use Rattle.law.specs.Run.{Event}
use Rattle.runs.specs.Counting.{counting, open_in, landed_in}
use Rattle.replay.specs.Account.{last_calls, account_of}
use Rattle.replay.specs.Script.{calls_in}

-- there is a run from a new pair by the calls of the script and the two last restarts, with these outcomes and this end:
-- the law holds at its every moment, every request is counted once, and the text is the account of it
pub record Accounts (script text : List ℕ) : Type 0 where
  pub outcomes : List Outcome
  pub events : List Event
  pub end : Pair
  pub told : Told counting [] (calls_in script ++ last_calls) outcomes events end
  pub counted : Throughout (Counted counting open_in landed_in) events end
  pub text_is : text ≡ account_of open_in landed_in script outcomes end
