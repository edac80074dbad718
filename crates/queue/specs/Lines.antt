-- The stops that stand in a queue, its head first. Assumes nothing.
use Rattle.std.specs.Prelude.{ℕ, cond, not, List, [], ◌∷◌, ◌++◌, length, Some, None, filter, Option, ◌==◌, nat_lt}
use Rattle.law.specs.Node.{stands}
use Rattle.model.specs.Limits.{stops}
use Rattle.bounded.specs.Lists.{listed}
use Rattle.queue.specs.declared.Queue.{Queue}

abbrev pub lined : Queue → List ℕ
lined q = listed q.stops

abbrev pub head_of : List ℕ → Option ℕ
head_of [] = None
head_of (s ∷ queue) = Some s

-- one stop more, at the back, unless it stands there or the line is as long as it can be
abbrev pub joined_by : ℕ → List ℕ → List ℕ
joined_by s queue = cond (stands s queue) queue (cond (nat_lt (length queue) stops) (queue ++ (s ∷ [])) queue)

-- all but one stop
abbrev pub left_by : ℕ → List ℕ → List ℕ
left_by s queue = filter (λ q. not (q == s)) queue
