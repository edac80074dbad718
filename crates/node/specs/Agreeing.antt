-- How much of a node of the law is pinned by a value that shows it. Assumes nothing.
use Rattle.std.specs.Prelude.{◌≡◌, ℕ, ◌<◌, true}
use Rattle.model.specs.Limits.{stops}
use Rattle.stores.specs.declared.store.Store.{Ghosts as Stores}
use Rattle.names.specs.declared.set.NameSet.{Ghosts as Sets}
use Rattle.computations.specs.declared.computation.Computation.{Ghosts as Computations}
use Rattle.law.specs.Node.{Node as LawNode}
use Rattle.node.specs.Shows.{Shows}
use Rattle.node.specs.declared.node.Node.{Node}

-- the queue is kept only while a node is on
pub record Agree (n k : LawNode) : Type 0 where
  pub rows : (s : ℕ) → s < stops → n.row s ≡ k.row s
  pub watermark : n.w ≡ k.w
  pub power : n.power ≡ k.power
  pub queue : n.power.on ≡ true → n.queue ≡ k.queue

abbrev pub ShowsOne : {S N C T : Type 0} → Stores S → Sets N → Computations C T → Type 0
ShowsOne {S} {N} {C} store set computation =
    (v : Node S N C) (n k : LawNode) → Shows store set computation v n → Shows store set computation v k → Agree n k
