-- The account of a script: what its events answered, the fault that ended them, and where the requests are after both
-- nodes were restarted. Assumes nothing.
use Rattle.std.specs.Prelude.{◌≡◌, ℕ, List, [], ◌∷◌, ◌++◌, length, take, Some, None, Option}
use Rattle.model.specs.Answers.{fault_number}
use Rattle.model.specs.declared.answer.Fault.{Fault}
use Rattle.model.specs.declared.answer.Outcome.{Outcome}
use Rattle.model.specs.declared.call.Call.{Call}
use Rattle.model.specs.declared.call.Call.TheVariants.{Restart}
use Rattle.model.specs.declared.call.Junk.TheVariants.{Fill}
use Rattle.stores.specs.declared.store.Store.{Ghosts as Stores}
use Rattle.names.specs.declared.set.NameSet.{Ghosts as Sets}
use Rattle.computations.specs.declared.computation.Computation.{Ghosts as Computations}
use Rattle.law.specs.Pair.{Pair as LawPair}
use Rattle.law.specs.Run.{Event, Run}
use Rattle.lines.specs.Listing.{fault_of}
use Rattle.pair.specs.Runs.{Extends}
use Rattle.pair.specs.Shows.{kits_of, Shows}
use Rattle.pair.specs.Tallies.{told_of}
use Rattle.pair.specs.declared.pair.Pair.{Pair}
use Rattle.account.specs.Account.{events_from}
use Rattle.replay.specs.Script.{calls_in, fault_in}
use Rattle.replay.specs.Stops.{stop_lines}

-- at last both nodes are restarted, with power for a hundred writes
abbrev pub power_on : ℕ → Call
power_on node = Restart node 100 0 (Fill 0)

abbrev pub last_calls : List Call
last_calls = power_on 0 ∷ power_on 1 ∷ []

abbrev pub fault_text : Option (Fault × ℕ) → List ℕ
fault_text None = []
fault_text (Some f) = fault_of (fault_number f.0) f.1

-- the account, by the outcomes of all calls and the pair at the end, and by measures of the two states
abbrev pub account_of : (List ℕ → ℕ) → (List ℕ → ℕ) → List ℕ → List Outcome → LawPair → List ℕ
account_of held landed script outcomes end =
    events_from 1 (take (length (calls_in script)) outcomes) ++ (fault_text (fault_in script) ++ stop_lines (told_of held landed end))

module _ {S N C X T O D Y : Type 0} (store : Stores S) (set : Sets N) (computation : Computations C X) (store' : Stores T) (set' : Sets O) (computation' : Computations D Y) where
  -- a run went on by the calls of a script and the last restarts, with the law at every moment, and this is its account
  pub record Replayed (held landed : List ℕ → ℕ) (v' : Pair S N C T O D) (es : List Event) (script text : List ℕ) : Type 0 where
    pub outcomes : List Outcome
    pub extends : Extends store set computation store' set' computation' v' es (calls_in script ++ last_calls) outcomes
    pub text_is : text ≡ account_of held landed script outcomes extends.end

  -- so does every run from a new pair that ends in what is shown before
  abbrev pub Replays : (List ℕ → ℕ) → (List ℕ → ℕ) → Pair S N C T O D → Pair S N C T O D → List ℕ → List ℕ → Type 0
  Replays held landed v v' script text =
      (es : List Event) (p : LawPair) →
      Run (kits_of store set computation store' set' computation') es p → Shows store set computation store' set' computation' v p →
      Replayed held landed v' es script text
