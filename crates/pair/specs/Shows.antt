-- Which pair of the law a pair in memory shows. Assumes nothing.
use Rattle.std.specs.Prelude.{◌≡◌, ℕ}
use Rattle.stores.specs.declared.store.Store.{Ghosts as Stores}
use Rattle.names.specs.declared.set.NameSet.{Ghosts as Sets}
use Rattle.computations.specs.declared.computation.Computation.{Ghosts as Computations}
use Rattle.law.specs.Node.{Free}
use Rattle.law.specs.Pair.{Kits, Pair as LawPair}
use Rattle.link.specs.Carried.{carried}
use Rattle.node.specs.Shows.{kit_of, free_of, Shows as NodeShows}
use Rattle.pair.specs.declared.pair.Pair.{Pair}

module _ {S N C X T O D Y : Type 0} (store : Stores S) (set : Sets N) (computation : Computations C X) (store' : Stores T) (set' : Sets O) (computation' : Computations D Y) where
  -- the law's parts of such a pair
  abbrev pub kits_of : Kits
  kits_of = record { collector = kit_of store set computation; spotter = kit_of store' set' computation' }

  -- what the collector's store leaves free in a call, and what the spotter's does; a restart has power for so many writes
  abbrev pub collector_free : ℕ → Pair S N C T O D → Pair S N C T O D → Free
  collector_free left v v' = free_of store set computation left v.collector v'.collector

  abbrev pub spotter_free : ℕ → Pair S N C T O D → Pair S N C T O D → Free
  spotter_free left v v' = free_of store' set' computation' left v.spotter v'.spotter

  -- each node shows its node, and the link carries the law's messages
  pub record Shows (v : Pair S N C T O D) (p : LawPair) : Type 0 where
    pub collector : NodeShows store set computation v.collector p.collector
    pub spotter : NodeShows store' set' computation' v.spotter p.spotter
    pub link : carried v.link ≡ p.link
