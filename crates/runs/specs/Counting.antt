-- The pair that the law is meant for: the counter at the collector and the detector at the spotter, over any two stores.
-- Assumes nothing.
use Rattle.std.specs.Prelude.{ℕ, ◌≤◌, List}
use Rattle.model.specs.OnBytes.{on_bytes}
use Rattle.counter.specs.Counter.{counter, held}
use Rattle.detector.specs.Detector.{detector}
use Rattle.law.specs.Law.{Law, Counted, Throughout}
use Rattle.law.specs.Node.{Kit}
use Rattle.law.specs.Pair.{Kits, Pair}
use Rattle.law.specs.Run.{Event, Run}

-- a node that counts minutes, and one that looks for crowds, over stores of this cost and turning point
abbrev pub counter_kit : ℕ → ℕ → Kit
counter_kit cost turn = record { computation = on_bytes counter; cost = cost; turn = turn }

abbrev pub detector_kit : ℕ → ℕ → Kit
detector_kit cost turn = record { computation = on_bytes detector; cost = cost; turn = turn }

-- over a journal and a shadow store
abbrev pub counting : Kits
counting = record { collector = counter_kit 4 2; spotter = detector_kit 2 2 }

-- what the counter's bytes hold open, and what the detector's bytes have in total
abbrev pub open_in : List ℕ → ℕ
open_in bs = held (counter.load bs)

abbrev pub landed_in : List ℕ → ℕ
landed_in bs = (detector.load bs).total

-- the whole law, with nothing left to assume, by these measures of the two states
abbrev pub CounterLaw : (List ℕ → ℕ) → (List ℕ → ℕ) → Type 0
CounterLaw in_open landed =
    (cost turn cost' turn' : ℕ) → 1 ≤ turn → turn ≤ cost → 1 ≤ turn' → turn' ≤ cost' →
    let kits : Kits = record { collector = counter_kit cost turn; spotter = detector_kit cost' turn' } in
    (es : List Event) (p : Pair) → Run kits es p → Throughout (Law kits) es p × Throughout (Counted kits in_open landed) es p
