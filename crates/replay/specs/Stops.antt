-- The lines of the stops, by a pair of the law. Assumes nothing.
use Rattle.std.specs.Prelude.{◌≡◌, ℕ, zero, suc, List, [], ◌++◌, IfOk, IfErr, Some, None, string_bytes, Option, Result, String}
use Rattle.std.specs.declared.alloc.Global.{Global}
use Rattle.model.specs.Limits.{stops}
use Rattle.stores.specs.declared.store.Store.{Ghosts as Stores}
use Rattle.names.specs.declared.set.NameSet.{Ghosts as Sets}
use Rattle.computations.specs.declared.computation.Computation.{Ghosts as Computations}
use Rattle.law.specs.Pair.{Pair as LawPair}
use Rattle.pair.specs.Shows.{Shows}
use Rattle.pair.specs.declared.pair.Pair.{Pair}
use Rattle.pair.specs.declared.pair.Stopped.{Stopped}
use Rattle.pair.specs.declared.pair.Stopped.TheVariants.{Damaged}
use Rattle.pair.specs.declared.pair.Tally.{Tally}
use Rattle.account.specs.Account.{stop_line}

-- the line of a tally, if there is one
abbrev pub tally_line : ℕ → Option Tally → List ℕ
tally_line s None = []
tally_line s (Some t) = stop_line s t.held t.pending t.landed

unfoldable pub stops_below : (ℕ → Option Tally) → ℕ → List ℕ
stops_below tally zero = []
stops_below tally (suc n) = stops_below tally n ++ tally_line n (tally n)

-- a line for each stop that has something to tell, stops rising
abbrev pub stop_lines : (ℕ → Option Tally) → List ℕ
stop_lines tally = stops_below tally stops

-- a text about every pair that is shown, which goes on to be shown; where there is none, no damage was read at such a pair
pub record Says
    {S N C X T O D Y : Type 0} (store : Stores S) (set : Sets N) (computation : Computations C X) (store' : Stores T) (set' : Sets O) (computation' : Computations D Y)
    (v v' : Pair S N C T O D) (about : LawPair → List ℕ) (r : Result (String Global) Stopped) : Type 0 where
  pub text : IfOk r (λ t. (p : LawPair) → Shows store set computation store' set' computation' v p → string_bytes t ≡ about p)
  pub shows : (p : LawPair) → Shows store set computation store' set' computation' v p → Shows store set computation store' set' computation' v' p
  pub undamaged : IfErr r (λ e. e ≡ Damaged → (p : LawPair) → Shows store set computation store' set' computation' v p → ⊥)
