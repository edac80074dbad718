-- A list of calls is played from a new pair, by given rules. Assumes nothing.
use Rattle.std.specs.Prelude.{◌≡◌, ℕ, false, List, [], ◌∷◌}
use Rattle.model.specs.Row.{first_row}
use Rattle.model.specs.declared.answer.Outcome.{Outcome}
use Rattle.model.specs.declared.call.Call.{Call}
use Rattle.model.specs.declared.record.Record.{Record}
use Rattle.law.specs.Node.{Free, Node}
use Rattle.law.specs.Pair.{Pair}
use Rattle.law.specs.Run.{Event, Rules, RunBy, outcomes_of}

-- a node and a pair that nothing has happened to
abbrev pub new_node : Node
new_node = record { row = λ s. first_row; w = 0; power = record { on = false; left = 0; tear = 0; owed = 0 }; queue = [] }

abbrev pub new_pair : Pair
new_pair = record { collector = new_node; spotter = new_node; link = [] }

-- no call of these runs is cut, so that nothing comes to be owed
abbrev pub uncut : Free
uncut = record { owed = 0; point = λ q. record { node = 0; row = 0; page = 0 }; wake = record { node = 0; row = 0; page = 0 } }

abbrev pub event : Call → Pair → Outcome × Pair → Event
event call p r = record { call = call; free = uncut; outcome = r.0; before = p; after = r.1 }

-- the events, the newest first, and the pair at the end
unfoldable pub play_on : Rules → List Event → Pair → List Call → List Event × Pair
play_on rules es p [] = (es, p)
play_on rules es p (c ∷ cs) = let r = rules uncut c p in play_on rules (event c p r ∷ es) r.1 cs

abbrev pub play : Rules → List Call → List Event × Pair
play rules calls = play_on rules [] new_pair calls

-- a record of sender 7
abbrev pub asked : ℕ → ℕ → ℕ → ℕ → Record
asked s serial t a = record { name = record { sender = 7; serial = serial; time = t }; stop = s; amount = a }

-- the calls are a run of the pair, with these outcomes
pub record Plays (rules : Rules) (calls : List Call) (outcomes : List Outcome) : Type 0 where
  pub run : RunBy rules (play rules calls).0 (play rules calls).1
  pub outcomes_are : outcomes_of (play rules calls).0 ≡ outcomes
