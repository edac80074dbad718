-- Runs of calls on a pair, and what has happened in them: records taken, productions made, productions landed.
-- A run is told from its last call back. Assumes nothing.
use Rattle.std.specs.Prelude.{◌≡◌, ℕ, Bool, false, cond, not, ◌&&◌, ◌||◌, List, [], ◌∷◌, ◌++◌, length, drop, Some, None, filter, Option, ◌==◌, nat_eq}
use Rattle.std.specs.List.{slice_get}
use Rattle.model.specs.Answers.{outcome_answer}
use Rattle.model.specs.Row.{first_row}
use Rattle.model.specs.declared.answer.Outcome.{Outcome}
use Rattle.model.specs.declared.call.Call.{Call}
use Rattle.model.specs.declared.call.Call.TheVariants.{HandIn, Advance, Fire, Send, Lose, Repeat, Deliver, Pass, Restart, Show, MarkDone}
use Rattle.model.specs.declared.record.Message.{Message}
use Rattle.model.specs.declared.record.Message.TheVariants.{Produced, Acknowledged}
use Rattle.model.specs.declared.record.Production.{Production}
use Rattle.model.specs.declared.record.Record.{Record}
use Rattle.law.specs.Node.{Node, Free, wrote}
use Rattle.law.specs.Pair.{Kits, Pair, happens}

-- a call has happened: what the store left free, the outcome, and the pairs before and after
pub record Event : Type 0 where
  pub call : Call
  pub free : Free
  pub outcome : Outcome
  pub before : Pair
  pub after : Pair

-- what a call makes of a pair
abbrev pub Rules : Type 0
Rules = Free → Call → Pair → Outcome × Pair

abbrev pub HappenedBy : Rules → Event → Type 0
HappenedBy rules e = rules e.free e.call e.before ≡ (e.outcome, e.after)

abbrev pub Happened : Kits → Event → Type 0
Happened kits e = HappenedBy (happens kits) e

-- a node that nothing has happened to; what power left it with is as it may be
pub record NewNode (n : Node) : Type 0 where
  pub off : n.power.on ≡ false
  pub rows : (s : ℕ) → n.row s ≡ first_row
  pub watermark : n.w ≡ 0

pub record New (p : Pair) : Type 0 where
  pub collector : NewNode p.collector
  pub spotter : NewNode p.spotter
  pub link : p.link ≡ []

-- these events, the newest first, lead from a new pair to this one
abbrev pub RunBy : Rules → List Event → Pair → Type 0
RunBy rules [] p = New p
RunBy rules (e ∷ es) p = RunBy rules es e.before × HappenedBy rules e × (e.after ≡ p)

abbrev pub Run : Kits → List Event → Pair → Type 0
Run kits es p = RunBy (happens kits) es p

-- the pairs at the moments of a run, the newest first: its start, and the end of each call
abbrev pub moments : List Event → Pair → List Pair
moments [] p = p ∷ []
moments (e ∷ es) p = p ∷ moments es e.before

-- the calls and the outcomes of a run, in order
abbrev pub calls_of : List Event → List Call
calls_of [] = []
calls_of (e ∷ es) = calls_of es ++ (e.call ∷ [])

abbrev pub outcomes_of : List Event → List Outcome
outcomes_of [] = []
outcomes_of (e ∷ es) = outcomes_of es ++ (e.outcome ∷ [])

-- a run goes on: these calls, in order, have these outcomes and lead to this pair
pub record Goes
    (kits : Kits) (es : List Event) (calls : List Call) (outcomes : List Outcome) (fs : List Event) (q : Pair) : Type 0 where
  pub run : Run kits fs q
  pub since : (later : List Event) × (fs ≡ later ++ es)
  pub calls_are : calls_of fs ≡ calls_of es ++ calls
  pub outcomes_are : outcomes_of fs ≡ outcomes_of es ++ outcomes

-- what a call does that counts: a record is handed in at the collector, a due fires there,
-- a production of a stop is handed in at the spotter
pub data Deed : Type 0 where
  hands : Record → Deed
  fires : Deed
  lands : ℕ → Production → Deed
  other : Deed

abbrev pub arrival : Option Message → Deed
arrival None = other
arrival (Some (Produced s p)) = lands s p
arrival (Some (Acknowledged s n)) = other

abbrev pub deed_of : Call → Pair → Deed
deed_of (HandIn r) p = hands r
deed_of (Advance t) p = other
deed_of (Fire node) p = cond (node == 0) fires other
deed_of Send p = other
deed_of (Lose place) p = other
deed_of (Repeat place) p = other
deed_of (Deliver place) p = arrival (slice_get p.link place)
deed_of Pass p = other
deed_of (Restart node left tear junk) p = other
deed_of Show p = other
deed_of (MarkDone s n) p = other

-- the answer is done, or a cut with the row new by the store's rule
abbrev pub collector_wrote : Kits → Event → Bool
collector_wrote kits e = wrote kits.collector e.before.collector.power (outcome_answer e.outcome)

abbrev pub spotter_wrote : Kits → Event → Bool
spotter_wrote kits e = wrote kits.spotter e.before.spotter.power (outcome_answer e.outcome)

-- the record that a call has the collector take
abbrev pub taken_as : Bool → Deed → List Record
taken_as did (hands r) = cond did (r ∷ []) []
taken_as did fires = []
taken_as did (lands s p) = []
taken_as did other = []

abbrev pub taken_by : Kits → Event → List Record
taken_by kits e = taken_as (collector_wrote kits e) (deed_of e.call e.before)

-- the productions that stand behind those that were pending before a call
abbrev pub added : ℕ → Pair → Pair → List Production
added s p q = drop (length (p.collector.row s).pending) (q.collector.row s).pending

-- the production that a call has a stop of the collector make
abbrev pub made_as : Bool → List Production → Deed → List Production
made_as did new (hands r) = cond did new []
made_as did new fires = cond did new []
made_as did new (lands s p) = []
made_as did new other = []

abbrev pub made_by : Kits → ℕ → Event → List Production
made_by kits s e = made_as (collector_wrote kits e) (added s e.before e.after) (deed_of e.call e.before)

-- the production of a stop that a call has the spotter take
abbrev pub landed_as : Bool → ℕ → Deed → List Production
landed_as did s (hands r) = []
landed_as did s fires = []
landed_as did s (lands q p) = cond (did && q == s) (p ∷ []) []
landed_as did s other = []

abbrev pub landed_by : Kits → ℕ → Event → List Production
landed_by kits s e = landed_as (spotter_wrote kits e) s (deed_of e.call e.before)

-- the same over a run, in the order of the calls
abbrev pub all_taken : Kits → List Event → List Record
all_taken kits [] = []
all_taken kits (e ∷ es) = all_taken kits es ++ taken_by kits e

-- the records taken for a stop
abbrev pub taken : Kits → ℕ → List Event → List Record
taken kits s es = filter (λ r. nat_eq r.stop s) (all_taken kits es)

abbrev pub made : Kits → ℕ → List Event → List Production
made kits s [] = []
made kits s (e ∷ es) = made kits s es ++ made_by kits s e

abbrev pub landed : Kits → ℕ → List Event → List Production
landed kits s [] = []
landed kits s (e ∷ es) = landed kits s es ++ landed_by kits s e

-- the serial is among those of some productions
abbrev pub has_serial : ℕ → List Production → Bool
has_serial n [] = false
has_serial n (p ∷ ps) = p.serial == n || has_serial n ps

-- a stop's productions that are pending at the collector and not taken by the spotter, oldest first
abbrev pub waiting : Kits → ℕ → List Event → Pair → List Production
waiting kits s es p =
    filter (λ x. not (has_serial x.serial (landed kits s es))) (p.collector.row s).pending
