-- The law: what holds at every moment of every run from a new pair. Assumes nothing.
use Rattle.std.specs.Prelude.{◌≡◌, ℕ, ◌+◌, ◌<◌, ◌≤◌, true, List, [], ◌∷◌, ◌++◌, map, length, ◌≢◌}
use Rattle.model.specs.Computation.{Computation, StateBytes}
use Rattle.model.specs.Limits.{stops, most_messages, in_range}
use Rattle.model.specs.declared.answer.Outcome.{Outcome}
use Rattle.model.specs.declared.call.Call.{Call}
use Rattle.model.specs.declared.record.Message.TheVariants.{Produced}
use Rattle.model.specs.declared.record.Production.{Production}
use Rattle.law.specs.Lists.{Mem, Apart, total}
use Rattle.law.specs.Node.{Kit, Node}
use Rattle.law.specs.Pair.{Kits, Pair, low_watermark, as_record}
use Rattle.law.specs.Rows.{floor_of}
use Rattle.law.specs.Run.{Event, Happened, Run, Goes, moments, all_taken, taken, made, landed, waiting}
use Rattle.law.specs.Stops.{sum_stops}

-- the queue holds exactly the stops with something pending, each once
pub record Queued (n : Node) : Type 0 where
  pub once : Apart n.queue
  pub pending : (s : ℕ) → Mem s n.queue → (s < stops) × ((n.row s).pending ≢ [])
  pub all : (s : ℕ) → s < stops → ((n.row s).pending ≢ []) → Mem s n.queue

pub record Law (kits : Kits) (es : List Event) (p : Pair) : Type 0 where
  -- no record name was taken twice for one stop by the collector
  pub names_once : (s : ℕ) → s < stops → Apart (map (λ r. r.name) (taken kits s es))
  -- for each stop, what the spotter took, then what is waiting, is in order all that the collector made
  pub in_order : (s : ℕ) → s < stops → landed kits s es ++ waiting kits s es p ≡ made kits s es
  -- and no serial comes twice among them
  pub serials_once : (s : ℕ) → s < stops → Apart (map (λ x. x.serial) (made kits s es))
  -- the low watermark is not below what it was at any earlier moment
  pub never_falls : (q : Pair) → Mem q (moments es p) → low_watermark kits q ≤ low_watermark kits p
  -- no waiting production is late at the spotter
  pub none_late
      : (s : ℕ) (x : Production)
      → s < stops → Mem x (waiting kits s es p)
      → floor_of kits.spotter.computation p.spotter.w (p.spotter.row s).state ≤ x.time
  -- every production on the link is in range at the spotter
  pub deliverable : (s : ℕ) (x : Production) → Mem (Produced s x) p.link → in_range (as_record s x) ≡ true
  -- the link holds no more messages than it may
  pub link_fits : length p.link ≤ most_messages
  -- while the collector is on, its queue holds exactly the stops with something pending, each once
  pub queued : p.collector.power.on ≡ true → Queued p.collector

-- at every moment of a run
abbrev pub Throughout : (List Event → Pair → Type 0) → List Event → Pair → Type 0
Throughout Holds [] p = Holds [] p
Throughout Holds (e ∷ es) p = Throughout Holds es e.before × Holds (e ∷ es) p

-- the law of every run, for any two nodes of which so much is asked
abbrev pub EveryRun : (Kit → Type 0) → Type 0
EveryRun Asked =
    (kits : Kits) → Asked kits.collector → Asked kits.spotter →
    (es : List Event) (p : Pair) → Run kits es p → Throughout (Law kits) es p

-- the amounts of all records taken by the collector
abbrev pub taken_amount : Kits → List Event → ℕ
taken_amount kits es = total (map (λ r. r.amount) (all_taken kits es))

-- what a measure makes of all states of a node
abbrev pub measured : (List ℕ → ℕ) → Node → ℕ
measured f n = sum_stops (λ s. f (n.row s).state)

-- the amounts of all waiting productions
abbrev pub waiting_amount : Kits → List Event → Pair → ℕ
waiting_amount kits es p = sum_stops (λ s. total (map (λ x. x.amount) (waiting kits s es p)))

-- what the collector took is what its states hold open, what is waiting, and what has landed in the spotter's totals
abbrev pub Counted : Kits → (List ℕ → ℕ) → (List ℕ → ℕ) → List Event → Pair → Type 0
Counted kits held landed es p =
    taken_amount kits es ≡ (measured held p.collector + waiting_amount kits es p) + measured landed p.spotter

-- a law of weight: of a computation, where it is sound, and of a measure of its states
abbrev pub Weight : Type 1
Weight = Computation (List ℕ) → (List ℕ → Type 0) → (List ℕ → ℕ) → Type 0

-- the count of every run, for computations whose measures are so related to what they take
abbrev pub EveryCount : (Kit → Type 0) → Weight → Weight → Type 0
EveryCount Asked Holding Totalling =
    (kits : Kits) → Asked kits.collector → Asked kits.spotter →
    (held landed : List ℕ → ℕ) →
    Holding kits.collector.computation StateBytes held →
    Totalling kits.spotter.computation StateBytes landed →
    (es : List Event) (p : Pair) → Run kits es p → Throughout (Counted kits held landed) es p

-- a run from a new pair goes on by more calls, with the law at its every moment
pub record Told
    (kits : Kits) (es : List Event) (calls : List Call) (outcomes : List Outcome) (fs : List Event) (q : Pair) : Type 0 where
  pub goes : Goes kits es calls outcomes fs q
  pub lawful : Throughout (Law kits) fs q

-- a run is told up to where it is, and then on by one call more
abbrev pub EveryTelling : (Kit → Type 0) → Type 0
EveryTelling Asked =
    (kits : Kits) → Asked kits.collector → Asked kits.spotter → (es : List Event) →
    ((p : Pair) → Run kits es p → Told kits es [] [] es p) ×
    ((calls : List Call) (outcomes : List Outcome) (fs : List Event) (q : Pair) → Told kits es calls outcomes fs q →
    (e : Event) → Happened kits e → e.before ≡ q →
    Told kits es (calls ++ (e.call ∷ [])) (outcomes ++ (e.outcome ∷ [])) (e ∷ fs) e.after)
