-- What a list of calls on a pair promises: each call is the law's, and the law holds at every moment. Assumes nothing.
use Rattle.std.specs.Prelude.{◌≡◌, ℕ, List, [], ◌∷◌, Ok}
use Rattle.model.specs.Computation.{Conserves, Totals, StateBytes}
use Rattle.model.specs.declared.answer.Outcome.{Outcome}
use Rattle.model.specs.declared.call.Call.{Call}
use Rattle.stores.specs.declared.store.Store.{Ghosts as Stores}
use Rattle.names.specs.declared.set.NameSet.{Ghosts as Sets}
use Rattle.computations.specs.declared.computation.Computation.{Ghosts as Computations}
use Rattle.law.specs.Law.{Counted, Throughout, Told}
use Rattle.law.specs.Pair.{Kits, Pair as LawPair}
use Rattle.law.specs.Run.{Event, Run}
use Rattle.pair.specs.Promises.{Steps}
use Rattle.pair.specs.Shows.{kits_of, Shows}
use Rattle.pair.specs.declared.pair.Pair.{Pair}
use Rattle.pair.specs.declared.pair.Stopped.{Stopped}
use Rattle.pair.specs.declared.pair.Stopped.TheVariants.{NoMemory, Damaged}

-- the count holds at every moment, for computations whose measures are related to what they take as the law asks
abbrev pub CountsOnce : Kits → List Event → LawPair → Type 0
CountsOnce kits es p =
    (held landed : List ℕ → ℕ) →
    Conserves kits.collector.computation StateBytes held → Totals kits.spotter.computation StateBytes landed →
    Throughout (Counted kits held landed) es p

module _ {S N C X T O D Y : Type 0} (store : Stores S) (set : Sets N) (computation : Computations C X) (store' : Stores T) (set' : Sets O) (computation' : Computations D Y) where
  -- these calls, one after another, have these outcomes and lead from one pair to another
  abbrev pub Ran : Pair S N C T O D → List Call → List Outcome → Pair S N C T O D → Type 0
  Ran v [] outcomes v' = (outcomes ≡ []) × (v' ≡ v)
  Ran v (call ∷ calls) outcomes v' =
      (u : Pair S N C T O D) × (o : Outcome) × (os : List Outcome) × (outcomes ≡ o ∷ os) ×
      Steps store set computation store' set' computation' v u call (Ok o) × Ran u calls os v'

  -- a run that went on by these calls with these outcomes: the law and the count hold at its every moment, and its end
  -- is shown
  pub record Extends (v' : Pair S N C T O D) (es : List Event) (calls : List Call) (outcomes : List Outcome) : Type 0 where
    pub events : List Event
    pub end : LawPair
    pub told : Told (kits_of store set computation store' set' computation') es calls outcomes events end
    pub counted : CountsOnce (kits_of store set computation store' set' computation') events end
    pub shows : Shows store set computation store' set' computation' v' end

  -- every run from a new pair that ends in what is shown before goes on so
  abbrev pub Carries : Pair S N C T O D → Pair S N C T O D → List Call → List Outcome → Type 0
  Carries v v' calls outcomes =
      (es : List Event) (p : LawPair) →
      Run (kits_of store set computation store' set' computation') es p → Shows store set computation store' set' computation' v p →
      Extends v' es calls outcomes

  -- want of memory leaves all as it was; damaged rows are read at no pair that is shown
  abbrev pub Stops : Pair S N C T O D → Pair S N C T O D → Stopped → Type 0
  Stops v v' NoMemory = v' ≡ v
  Stops v v' Damaged = (p : LawPair) → Shows store set computation store' set' computation' v p → ⊥
