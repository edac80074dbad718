-- What making a pair promises. Assumes nothing.
use Rattle.std.specs.Prelude.{◌≡◌, false, []}
use Rattle.model.specs.declared.answer.Answer.{Answer}
use Rattle.model.specs.declared.answer.Answer.TheVariants.{OutOfRange}
use Rattle.stores.specs.declared.store.Store.{Ghosts as Stores}
use Rattle.names.specs.declared.set.NameSet.{Ghosts as Sets}
use Rattle.computations.specs.declared.computation.Computation.{Ghosts as Computations}
use Rattle.law.specs.Pair.{Pair as LawPair}
use Rattle.law.specs.Run.{New}
use Rattle.ledger.specs.Kept.{Kept, Blank}
use Rattle.pair.specs.Shows.{Shows}
use Rattle.pair.specs.declared.pair.Pair.{Pair}

-- the first card is node 0's, and the second node 1's
abbrev pub AtHome : {S T : Type 0} → Stores S → Stores T → S → T → Type 0
AtHome store store' s t = (store.home s ≡ 0) × (store'.home t ≡ 1)

-- a pair that two stores keep, both off, the link empty
pub record Rests {S T : Type 0} (store : Stores S) (store' : Stores T) (s : S) (t : T) (p : LawPair) : Type 0 where
  pub collector : Kept (store.model s) p.collector
  pub spotter : Kept (store'.model t) p.spotter
  pub collector_off : p.collector.power.on ≡ false
  pub spotter_off : p.spotter.power.on ≡ false
  pub link : p.link ≡ []

-- the pair shows what its stores keep; over blank stores, as formatting leaves them, a new pair
pub record Makes
    {S N C X T O D Y : Type 0} (store : Stores S) (set : Sets N) (computation : Computations C X) (store' : Stores T) (set' : Sets O) (computation' : Computations D Y)
    (s : S) (t : T) (v : Pair S N C T O D) : Type 0 where
  pub home : AtHome store store' s t
  pub blank
      : Blank (store.model s) → Blank (store'.model t)
      → (p : LawPair) × New p × Shows store set computation store' set' computation' v p
  pub kept
      : (p : LawPair) → Rests store store' s t p
      → Shows store set computation store' set' computation' v p

pub record Refuses {S T : Type 0} (store : Stores S) (store' : Stores T) (s : S) (t : T) (a : Answer) : Type 0 where
  pub answer : a ≡ OutOfRange
  pub away : AtHome store store' s t → ⊥
