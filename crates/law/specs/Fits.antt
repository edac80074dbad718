-- What fits the format of a row, so that its bytes can say it: at most four pending productions, at most forty names, and
-- no number too large. Assumes nothing.
use Rattle.std.specs.Prelude.{ℕ, ◌≤◌, List, length}
use Rattle.model.specs.Computation.{Computation, StateBytes}
use Rattle.model.specs.Limits.{last_time, last_serial, most_amount, most_pending, most_names}
use Rattle.model.specs.Row.{Row}
use Rattle.model.specs.declared.record.Name.{Name}
use Rattle.model.specs.declared.record.Production.{Production}
use Rattle.model.specs.declared.record.Record.{Record}
use Rattle.law.specs.Lists.{Mem}
use Rattle.law.specs.Node.{Kit, Node, Free, hand_in, raise, advance, fire, clear, restart}
use Rattle.law.specs.Run.{NewNode}

pub record NameFits (n : Name) : Type 0 where
  pub sender : n.sender ≤ 65535
  pub serial : n.serial ≤ 4294967295
  pub time : n.time ≤ last_time

pub record ProductionFits (p : Production) : Type 0 where
  pub serial : p.serial ≤ last_serial
  pub time : p.time ≤ last_time
  pub amount : p.amount ≤ most_amount

pub record RowFits (c : Computation (List ℕ)) (row : Row) : Type 0 where
  pub next : row.next ≤ last_serial
  pub state : StateBytes row.state
  pub mark : c.mark row.state ≤ last_time
  pub few_pending : length row.pending ≤ most_pending
  pub few_names : length row.names ≤ most_names
  pub pending : (p : Production) → Mem p row.pending → ProductionFits p
  pub names : (n : Name) → Mem n row.names → NameFits n

pub record NodeFits (kit : Kit) (n : Node) : Type 0 where
  pub watermark : n.w ≤ last_time
  pub rows : (s : ℕ) → RowFits kit.computation (n.row s)

-- a new node fits, and a node that fits goes on to fit whatever call it answers
pub record Fitting (kit : Kit) : Type 0 where
  pub new : (n : Node) → NewNode n → NodeFits kit n
  pub hands_in : (free : Free) (n : Node) (r : Record) → NodeFits kit n → NameFits r.name → NodeFits kit (hand_in kit free r n).1
  pub raises : (free : Free) (n : Node) (t : ℕ) → NodeFits kit n → t ≤ last_time → NodeFits kit (raise kit free t n).1
  pub advances : (free : Free) (n : Node) (t : ℕ) → NodeFits kit n → NodeFits kit (advance kit free t n).1
  pub fires : (free : Free) (n : Node) → NodeFits kit n → NodeFits kit (fire kit free n).1
  pub clears : (free : Free) (n : Node) (s serial : ℕ) → NodeFits kit n → NodeFits kit (clear kit free s serial n).1
  pub restarts
      : (free : Free) (n : Node) (left tear : ℕ) (junk : List ℕ)
      → NodeFits kit n
      → NodeFits kit (restart free left tear junk n).1

abbrev pub EveryRowFits : (Kit → Type 0) → Type 0
EveryRowFits Asked = (kit : Kit) → Asked kit → Fitting kit
