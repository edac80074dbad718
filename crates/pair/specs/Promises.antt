-- What the calls of a pair promise. Assumes nothing.
use Rattle.std.specs.Prelude.{◌≡◌, ℕ, cond, List, Some, None, Ok, Option, Result, ◌==◌}
use Rattle.std.specs.List.{slice_get}
use Rattle.model.specs.declared.answer.Outcome.{Outcome}
use Rattle.model.specs.declared.call.Call.{Call}
use Rattle.model.specs.declared.call.Call.TheVariants.{HandIn, Advance, Fire, Send, Lose, Repeat, Deliver, Pass, Restart, Show, MarkDone}
use Rattle.model.specs.declared.record.Message.{Message}
use Rattle.model.specs.declared.record.Message.TheVariants.{Produced, Acknowledged}
use Rattle.stores.specs.declared.store.Store.{Ghosts as Stores}
use Rattle.names.specs.declared.set.NameSet.{Ghosts as Sets}
use Rattle.computations.specs.declared.computation.Computation.{Ghosts as Computations}
use Rattle.law.specs.Node.{Free}
use Rattle.law.specs.Node.{restart}
use Rattle.law.specs.Pair.{Pair as LawPair, at_collector, at_spotter, at_node, happens}
use Rattle.link.specs.Carried.{carried}
use Rattle.node.specs.declared.node.Damaged.{Damaged}
use Rattle.pair.specs.Shows.{kits_of, collector_free, spotter_free, Shows}
use Rattle.pair.specs.declared.pair.Pair.{Pair}

-- the node that a message goes to
abbrev pub receiver : Option Message → ℕ
receiver None = 0
receiver (Some (Produced s p)) = 1
receiver (Some (Acknowledged s n)) = 0

-- the node whose store a call may write to, given what the link carries
abbrev pub writer : Call → List Message → ℕ
writer (HandIn r) link = 0
writer (Advance t) link = 0
writer (Fire node) link = node
writer Send link = 0
writer (Lose place) link = 0
writer (Repeat place) link = 0
writer (Deliver place) link = receiver (slice_get link place)
writer Pass link = 1
writer (Restart node left tear junk) link = node
writer Show link = 1
writer (MarkDone s n) link = 1

-- the writes that power lasts for, in a restart
abbrev pub lasting : Call → ℕ
lasting (HandIn r) = 0
lasting (Advance t) = 0
lasting (Fire node) = 0
lasting Send = 0
lasting (Lose place) = 0
lasting (Repeat place) = 0
lasting (Deliver place) = 0
lasting Pass = 0
lasting (Restart node left tear junk) = left
lasting Show = 0
lasting (MarkDone s n) = 0

-- the outcome and the pair after a call are those of the law
pub record Told (Shown : LawPair → Type 0) (r : Result Outcome Damaged) (after : Outcome × LawPair) : Type 0 where
  pub outcome : r ≡ Ok after.0
  pub shows : Shown after.1

module _ {S N C X T O D Y : Type 0} (store : Stores S) (set : Sets N) (computation : Computations C X) (store' : Stores T) (set' : Sets O) (computation' : Computations D Y) (v v' : Pair S N C T O D) where
  -- what the store that a call may write to leaves free
  abbrev pub free_of : Call → Free
  free_of call =
      cond (writer call (carried v.link) == 0)
      (collector_free store set computation store' set' computation' (lasting call) v v')
      (spotter_free store set computation store' set' computation' (lasting call) v v')

  -- for every pair that is shown before a call, the outcome is the law's, and the law's pair is shown after it
  abbrev pub Steps : Call → Result Outcome Damaged → Type 0
  Steps call r =
      (p : LawPair) → Shows store set computation store' set' computation' v p →
      Told (Shows store set computation store' set' computation' v') r (happens (kits_of store set computation store' set' computation') (free_of call) call p)

  -- the same of a restart, whose junk page is these bytes
  abbrev pub Wakes : ℕ → ℕ → ℕ → List ℕ → Result Outcome Damaged → Type 0
  Wakes node left tear junk r =
      (p : LawPair) → Shows store set computation store' set' computation' v p →
      Told (Shows store set computation store' set' computation' v') r
      (at_node node
      (at_collector (restart (cond (node == 0) (collector_free store set computation store' set' computation' left v v') (spotter_free store set computation store' set' computation' left v v')) left tear junk p.collector) p)
      (at_spotter (restart (cond (node == 0) (collector_free store set computation store' set' computation' left v v') (spotter_free store set computation store' set' computation' left v v')) left tear junk p.spotter) p)
      p)
