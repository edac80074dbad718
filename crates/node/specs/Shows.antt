-- Which node of the law a node in memory shows. Assumes nothing.
use Rattle.std.specs.Prelude.{◌≡◌, ℕ, ◌<◌, true, List, Option}
use Rattle.model.specs.Computation.{Computation}
use Rattle.model.specs.Limits.{stops}
use Rattle.model.specs.OnBytes.{on_bytes}
use Rattle.model.specs.declared.record.Production.{Production}
use Rattle.stores.specs.declared.store.Store.{Ghosts as Stores}
use Rattle.names.specs.Held.{Meaning}
use Rattle.names.specs.declared.set.NameSet.{Ghosts as Sets}
use Rattle.computations.specs.declared.computation.Computation.{Ghosts as Computations}
use Rattle.agenda.specs.Meaning.{due_at, shown_at}
use Rattle.law.specs.Law.{Queued}
use Rattle.law.specs.Node.{Node as LawNode, Kit, Free}
use Rattle.model.specs.Row.{oldest}
use Rattle.ledger.specs.Kept.{Kept}
use Rattle.queue.specs.Lines.{lined}
use Rattle.upkeep.specs.Names.{Holds}
use Rattle.node.specs.declared.node.Node.{Node}

-- what a node keeps beside its rows
pub record Beside : Type 0 where
  pub names : Meaning
  pub due : ℕ → Option ℕ
  pub shown : ℕ → Option Production
  pub queue : List ℕ
  pub w : ℕ

-- it follows the rows: the name set, the timers, the panel, the send queue, the watermark
pub record Follows (c : Computation (List ℕ)) (b : Beside) (n : LawNode) : Type 0 where
  pub names : Holds b.names (λ s. (n.row s).names)
  pub due : (s : ℕ) → s < stops → b.due s ≡ c.due (n.row s).state
  pub shown : (s : ℕ) → s < stops → b.shown s ≡ oldest (n.row s).pending
  pub queue_is : b.queue ≡ n.queue
  pub queued : Queued n
  pub watermark : b.w ≡ n.w

module _ {S N C T : Type 0} (store : Stores S) (set : Sets N) (computation : Computations C T) where
  -- the law's parts of such a node
  abbrev pub kit_of : Kit
  kit_of = record { computation = on_bytes computation.operations; cost = store.cost; turn = store.turn }

  -- what the store leaves free in a call, which turns one value into another; a restart has power for so many writes
  abbrev pub free_of : ℕ → Node S N C → Node S N C → Free
  free_of left v v' = record {
    owed = (store.model v'.store).power.owed;
    point = store.commit_cut v.store;
    wake = store.restart_cut v.store left;
  }

  abbrev pub beside_of : Node S N C → Beside
  beside_of v = record {
    names = set.meaning v.names;
    due = due_at v.timers;
    shown = shown_at v.panel;
    queue = lined v.queue;
    w = v.watermark;
  }

  -- the store keeps the rows, the watermark and the power; while the node is on, the rest follows
  pub record Shows (v : Node S N C) (n : LawNode) : Type 0 where
    pub kept : Kept (store.model v.store) n
    pub follows : n.power.on ≡ true → Follows (on_bytes computation.operations) (beside_of v) n
