-- A node, and its calls: each is a function of the node and of what its store leaves free, and gives the answer with
-- the node after it. The refusals stand in the order in which they are given. Assumes nothing.
use Rattle.std.specs.Prelude.{◌≡◌, ℕ, ◌≤◌, Bool, false, cond, not, ◌&&◌, ◌||◌, List, [], ◌∷◌, ◌++◌, length, Some, None, filter, Option, ◌==◌, nat_le, nat_lt}
use Rattle.model.specs.Computation.{Computation, Lawful, StateBytes, zero_state}
use Rattle.model.specs.Limits.{last_time, stops, page_bytes}
use Rattle.model.specs.Power.{Power, commit_answer, renewed, spent, restart_answer, restarted}
use Rattle.model.specs.Row.{Row}
use Rattle.model.specs.declared.answer.Answer.{Answer}
use Rattle.model.specs.declared.answer.Answer.TheVariants.{OutOfRange, Off, Nothing, NotOldest}
use Rattle.model.specs.declared.answer.CutPoint.{CutPoint}
use Rattle.model.specs.declared.record.Production.{Production}
use Rattle.model.specs.declared.record.Record.{Record}
use Rattle.model.specs.Answers.{is_done, is_cut}
use Rattle.model.specs.Row.{cleared_row, room_for_one}
use Rattle.law.specs.Rows.{considered, taken_row, fired_row, is_oldest}
use Rattle.law.specs.Stops.{earliest, pending_stops}

-- what a node is made of: its computation, and what a commit costs its store and at which write the row turns new
pub record Kit : Type 0 where
  pub computation : Computation (List ℕ)
  pub cost : ℕ
  pub turn : ℕ

pub record Node : Type 0 where
  -- the row of each stop
  pub row : ℕ → Row
  -- the watermark
  pub w : ℕ
  pub power : Power
  -- the stops with something pending, in the order in which they are sent; kept while the node is on
  pub queue : List ℕ

-- what a store leaves free: the writes that its next restart owes, and the place of a cut
pub record Free : Type 0 where
  pub owed : ℕ
  -- where a commit of each row is cut, and where a restart is
  pub point : ℕ → CutPoint
  pub wake : CutPoint

-- a stop joins the queue at its back, keeps its place, or leaves when it has nothing pending
abbrev pub stands : ℕ → List ℕ → Bool
stands s [] = false
stands s (q ∷ qs) = q == s || stands s qs

abbrev pub requeued : ℕ → List Production → List ℕ → List ℕ
requeued s [] queue = filter (λ q. not (q == s)) queue
requeued s (p ∷ ps) queue = cond (stands s queue) queue (queue ++ (s ∷ []))

-- rows of which one is new
abbrev pub with_row : ℕ → Row → (ℕ → Row) → ℕ → Row
with_row s new rows q = cond (q == s) new (rows q)

-- the commit of a stop's row: the row is new by the store's rule; a node that was cut is off, and its restart makes the
-- queue again
abbrev pub commit_row : Kit → Free → ℕ → Row → Node → Answer × Node
commit_row kit free s new n = (
  commit_answer kit.cost (free.point s) n.power,
  record {
    row = cond (renewed kit.turn n.power) (with_row s new n.row) n.row;
    w = n.w;
    power = spent kit.cost free.owed n.power;
    queue = requeued s new.pending n.queue;
  },
)

-- the commit of the watermark
abbrev pub commit_watermark : Kit → Free → ℕ → Node → Answer × Node
commit_watermark kit free t n = (
  commit_answer kit.cost (free.point stops) n.power,
  record {
    row = n.row;
    w = cond (renewed kit.turn n.power) t n.w;
    power = spent kit.cost free.owed n.power;
    queue = n.queue;
  },
)

-- a record is handed in
abbrev pub hand_in_as : Kit → Free → Record → Answer → Node → Answer × Node
hand_in_as kit free r answer n =
    cond (is_done answer)
    (commit_row kit free r.stop (taken_row kit.computation n.w r (n.row r.stop)) n)
    (answer, n)

abbrev pub hand_in : Kit → Free → Record → Node → Answer × Node
hand_in kit free r n =
    hand_in_as kit free r (considered kit.computation n.power.on n.w r (n.row r.stop)) n

-- the watermark advances
abbrev pub raise : Kit → Free → ℕ → Node → Answer × Node
raise kit free t n = cond (nat_le t n.w) (Nothing, n) (commit_watermark kit free t n)

abbrev pub advance : Kit → Free → ℕ → Node → Answer × Node
advance kit free t n =
    cond (nat_le t last_time) (cond n.power.on (raise kit free t n) (Off, n)) (OutOfRange, n)

-- the earliest due fires
abbrev pub fire_as : Kit → Free → ℕ → Answer → Node → Answer × Node
fire_as kit free s answer n =
    cond (is_done answer) (commit_row kit free s (fired_row kit.computation n.w (n.row s)) n) (answer, n)

abbrev pub fire_due : Kit → Free → Option (ℕ × ℕ) → Node → Answer × Node
fire_due kit free None n = (Nothing, n)
fire_due kit free (Some sd) n =
    cond (nat_le sd.1 n.w) (fire_as kit free sd.0 (room_for_one (n.row sd.0)) n) (Nothing, n)

abbrev pub fire : Kit → Free → Node → Answer × Node
fire kit free n = cond n.power.on (fire_due kit free (earliest kit.computation n.row) n) (Off, n)

-- a stop's oldest pending production is cleared, if that is the one meant
abbrev pub clear_oldest : Kit → Free → ℕ → ℕ → Node → Answer × Node
clear_oldest kit free s serial n =
    cond (is_oldest serial (n.row s).pending) (commit_row kit free s (cleared_row (n.row s)) n) (NotOldest, n)

abbrev pub clear : Kit → Free → ℕ → ℕ → Node → Answer × Node
clear kit free s serial n =
    cond (nat_lt s stops) (cond n.power.on (clear_oldest kit free s serial n) (Off, n)) (OutOfRange, n)

-- power returns: the rows stay, and the queue is made again from them, stops rising
abbrev pub restart : Free → ℕ → ℕ → List ℕ → Node → Answer × Node
restart free left tear junk n =
    cond (nat_le tear 2 && length junk == page_bytes) (
      restart_answer left free.wake n.power,
      record {
        row = n.row;
        w = n.w;
        power = restarted left tear free.owed n.power;
        queue = pending_stops n.row;
      },
    )
    (OutOfRange, n)

-- a call of this answer wrote its row or watermark: it was done, or was cut and yet the row is new by the store's rule
abbrev pub wrote : Kit → Power → Answer → Bool
wrote kit p answer = is_done answer || (is_cut answer && renewed kit.turn p)

-- what the law asks of a node's parts: a computation that keeps its laws on 32 bytes, and a turning point within a commit
pub record Keeps (kit : Kit) : Type 0 where
  pub lawful : Lawful kit.computation StateBytes
  pub zeros : kit.computation.load zero_state ≡ zero_state
  pub turn_starts : 1 ≤ kit.turn
  pub turn_ends : kit.turn ≤ kit.cost
