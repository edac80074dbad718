-- The lines of an account. Assumes nothing.
use Rattle.std.specs.Prelude.{ℕ, ◌+◌, cond, ◌&&◌, List, [], ◌∷◌, ◌++◌, codes, decimal, ◌==◌}
use Rattle.model.specs.Answers.{answer_number}
use Rattle.model.specs.declared.answer.Outcome.{Outcome}
use Rattle.model.specs.declared.answer.Outcome.TheVariants.{Plain, Shown}

abbrev pub plain_line : ℕ → ℕ → List ℕ
plain_line n answer = decimal n ++ (codes " " ++ (decimal answer ++ codes "\n"))

-- an event's number and its answer, and of a production that was shown its stop, serial, time and amount
abbrev pub event_line : ℕ → Outcome → List ℕ
event_line n (Plain a) = plain_line n (answer_number a)
event_line n (Shown s p) =
    decimal n ++ (codes " 0 " ++ (decimal s ++ (codes " " ++ (decimal p.serial ++ (codes " " ++ (decimal p.time
    ++ (codes " " ++ (decimal p.amount ++ codes "\n"))))))))

-- a line for each event, from a number on
abbrev pub events_from : ℕ → List Outcome → List ℕ
events_from n [] = []
events_from n (o ∷ os) = event_line n o ++ events_from (n + 1) os

-- what is open at a stop, what is pending there, what has landed; no line if it is all 0
abbrev pub stop_line : ℕ → ℕ → ℕ → ℕ → List ℕ
stop_line s held pending landed =
    cond (held == 0 && (pending == 0 && landed == 0)) []
    (codes "stop " ++ (decimal s ++ (codes " " ++ (decimal held ++ (codes " " ++ (decimal pending ++ (codes " " ++ (decimal landed ++ codes "\n"))))))))
