-- The counter and the detector, on the bytes of their states, keep what the law asks. Assumes nothing.
use Rattle.std.proofs.Common.{ℕ, ◌≤◌, refl}
use Rattle.model.proofs.OnBytes.{lawful_on_bytes, conserves_on_bytes, totals_on_bytes}
use Rattle.counter.specs.Counter.{counter, CounterSound, held}
use Rattle.counter.specs.Laws.{counter_lawful, counter_conserves}
use Rattle.detector.specs.Detector.{detector, DetectorSound}
use Rattle.detector.specs.Laws.{detector_lawful, detector_totals}
use Rattle.law.specs.Node.{Keeps}
use Rattle.law.specs.Pair.{Kits}
use Rattle.law.proofs.Counts.{every_count}
use Rattle.law.proofs.Runs.{every_run}
use Rattle.runs.specs.Counting.{counter_kit, detector_kit, open_in, landed_in, CounterLaw}

pub counter_keeps : (cost turn : ℕ) → 1 ≤ turn → turn ≤ cost → Keeps (counter_kit cost turn)
counter_keeps cost turn starts ends =
    record { lawful = lawful_on_bytes counter CounterSound counter_lawful; zeros = refl; turn_starts = starts; turn_ends = ends }

pub detector_keeps : (cost turn : ℕ) → 1 ≤ turn → turn ≤ cost → Keeps (detector_kit cost turn)
detector_keeps cost turn starts ends =
    record { lawful = lawful_on_bytes detector DetectorSound detector_lawful; zeros = refl; turn_starts = starts; turn_ends = ends }

pub counter_law : CounterLaw open_in landed_in
counter_law cost turn cost' turn' a b a' b' es p r =
    let kits : Kits = record { collector = counter_kit cost turn; spotter = detector_kit cost' turn' } in
    let ck = counter_keeps cost turn a b in
    let sk = detector_keeps cost' turn' a' b' in (
      every_run kits ck sk es p r,
      every_count kits ck sk open_in landed_in
          (conserves_on_bytes counter CounterSound counter_lawful held counter_conserves)
          (totals_on_bytes detector DetectorSound detector_lawful (λ s. s.total) detector_totals) es p r,
    )
