-- Where the requests for a stop are, by a pair of the law. Assumes nothing.
use Rattle.std.specs.Prelude.{◌≡◌, ℕ, cond, ◌&&◌, List, map, Some, None, Ok, Option, Result, nat_lt}
use Rattle.model.specs.Limits.{stops}
use Rattle.stores.specs.declared.store.Store.{Ghosts as Stores}
use Rattle.names.specs.declared.set.NameSet.{Ghosts as Sets}
use Rattle.computations.specs.declared.computation.Computation.{Ghosts as Computations}
use Rattle.law.specs.Lists.{total}
use Rattle.law.specs.Pair.{Pair as LawPair}
use Rattle.node.specs.declared.node.Damaged.{Damaged}
use Rattle.pair.specs.Shows.{Shows}
use Rattle.pair.specs.declared.pair.Pair.{Pair}
use Rattle.pair.specs.declared.pair.Tally.{Tally}

-- a measure of a computation's states, on their bytes
abbrev pub measured : {C X : Type 0} → Computations C X → (X → ℕ) → List ℕ → ℕ
measured computation measure bs = measure (computation.operations.load bs)

-- by measures of the two states: what the collector's holds, and what the spotter's has in total
abbrev pub tally_of : (List ℕ → ℕ) → (List ℕ → ℕ) → LawPair → ℕ → Tally
tally_of held landed p s = record {
  held = held (p.collector.row s).state;
  pending = total (map (λ x. x.amount) (p.collector.row s).pending);
  landed = landed (p.spotter.row s).state;
}

-- a stop that there is, with both nodes on
abbrev pub told_of : (List ℕ → ℕ) → (List ℕ → ℕ) → LawPair → ℕ → Option Tally
told_of held landed p s =
    cond (nat_lt s stops && (p.collector.power.on && p.spotter.power.on)) (Some (tally_of held landed p s)) None

-- the answer is the one that every pair that is shown gives, and what was shown is shown
pub record Tells
    {S N C X T O D Y : Type 0} (store : Stores S) (set : Sets N) (computation : Computations C X) (store' : Stores T) (set' : Sets O) (computation' : Computations D Y)
    (holds : X → ℕ) (totals : Y → ℕ) (v v' : Pair S N C T O D) (s : ℕ) (r : Result (Option Tally) Damaged) : Type 0 where
  pub answer
      : (p : LawPair) → Shows store set computation store' set' computation' v p
      → r ≡ Ok (told_of (measured computation holds) (measured computation' totals) p s)
  pub shows
      : (p : LawPair) → Shows store set computation store' set' computation' v p → Shows store set computation store' set' computation' v' p
