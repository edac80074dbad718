-- A pair of nodes and the link between them, and the eleven calls: each is a function of the pair and of what a store
-- leaves free, and gives the outcome with the pair after it. Assumes nothing.
use Rattle.std.specs.Prelude.{ℕ, cond, ◌||◌, List, [], ◌∷◌, ◌++◌, length, Some, None, Option, ◌==◌, nat_le, nat_lt}
use Rattle.std.specs.List.{remove, slice_get}
use Rattle.model.specs.Junk.{junk_bytes}
use Rattle.model.specs.Limits.{most_messages}
use Rattle.model.specs.declared.answer.Answer.{Answer}
use Rattle.model.specs.declared.answer.Answer.TheVariants.{Done, OutOfRange, Off, Nothing, LinkFull, NoMessage}
use Rattle.model.specs.declared.answer.Outcome.{Outcome}
use Rattle.model.specs.declared.answer.Outcome.TheVariants.{Plain, Shown}
use Rattle.model.specs.declared.call.Call.{Call}
use Rattle.model.specs.declared.call.Call.TheVariants.{HandIn, Advance, Fire, Send, Lose, Repeat, Deliver, Pass, Restart, Show, MarkDone}
use Rattle.model.specs.declared.record.Message.{Message}
use Rattle.model.specs.declared.record.Message.TheVariants.{Produced, Acknowledged}
use Rattle.model.specs.declared.record.Production.{Production}
use Rattle.model.specs.declared.record.Record.{Record}
use Rattle.law.specs.Node.{Kit, Node, Free, hand_in, advance, raise, fire, clear, restart}
use Rattle.model.specs.Answers.{is_done, is_seen}
use Rattle.model.specs.Row.{oldest}
use Rattle.law.specs.Stops.{greatest, lowest, pending_stops}

pub record Kits : Type 0 where
  pub collector : Kit
  pub spotter : Kit

pub record Pair : Type 0 where
  pub collector : Node
  pub spotter : Node
  -- the messages on their way, oldest first
  pub link : List Message

-- one node has answered, and the other one and the link stay
abbrev pub at_collector : Answer × Node → Pair → Outcome × Pair
at_collector r p = (Plain r.0, record { collector = r.1; spotter = p.spotter; link = p.link })

abbrev pub at_spotter : Answer × Node → Pair → Outcome × Pair
at_spotter r p = (Plain r.0, record { collector = p.collector; spotter = r.1; link = p.link })

abbrev pub with_link : List Message → Pair → Pair
with_link link p = record { collector = p.collector; spotter = p.spotter; link = link }

-- node 0 is the collector, node 1 the spotter, and there is no other
abbrev pub at_node : ℕ → Outcome × Pair → Outcome × Pair → Pair → Outcome × Pair
at_node node first second p = cond (nat_le node 1) (cond (node == 0) first second) (Plain OutOfRange, p)

-- the head of the queue goes to its back, and its oldest production is copied to the link's end
abbrev pub turned : List ℕ → List ℕ
turned [] = []
turned (s ∷ queue) = queue ++ (s ∷ [])

abbrev pub turned_node : Node → Node
turned_node n = record { row = n.row; w = n.w; power = n.power; queue = turned n.queue }

abbrev pub send_from : ℕ → Option Production → Pair → Outcome × Pair
send_from s None p = (Plain Nothing, p)
send_from s (Some production) p = (
  Plain Done,
  record {
    collector = turned_node p.collector;
    spotter = p.spotter;
    link = p.link ++ (Produced s production ∷ []);
  },
)

abbrev pub send_head : List ℕ → Pair → Outcome × Pair
send_head [] p = (Plain Nothing, p)
send_head (s ∷ queue) p = send_from s (oldest (p.collector.row s).pending) p

abbrev pub send_pending : List ℕ → Pair → Outcome × Pair
send_pending [] p = (Plain Nothing, p)
send_pending (s ∷ ss) p =
    cond (nat_le most_messages (length p.link)) (Plain LinkFull, p) (send_head p.collector.queue p)

abbrev pub send : Pair → Outcome × Pair
send p = cond p.collector.power.on (send_pending (pending_stops p.collector.row) p) (Plain Off, p)

-- a message is lost on the way, or comes twice
abbrev pub lose : ℕ → Pair → Outcome × Pair
lose place p =
    cond (nat_lt place (length p.link)) (Plain Done, with_link (remove p.link place) p) (Plain NoMessage, p)

abbrev pub repeat_of : Option Message → Pair → Outcome × Pair
repeat_of None p = (Plain NoMessage, p)
repeat_of (Some m) p =
    cond (nat_le most_messages (length p.link)) (Plain LinkFull, p) (Plain Done, with_link (p.link ++ (m ∷ [])) p)

abbrev pub repeat : ℕ → Pair → Outcome × Pair
repeat place p = repeat_of (slice_get p.link place) p

-- a production arrives at the spotter as a record whose sender is the stop
abbrev pub as_record : ℕ → Production → Record
as_record s p = record { name = record { sender = s; serial = p.serial; time = p.time }; stop = s; amount = p.amount }

-- word of a production goes back once it is taken, or was taken before
abbrev pub reply : ℕ → ℕ → Answer → List Message
reply s serial answer = cond (is_done answer || is_seen answer) (Acknowledged s serial ∷ []) []

abbrev pub arrives : ℕ → ℕ → List Message → Answer × Node → Pair → Outcome × Pair
arrives s serial rest r p =
    (Plain r.0, record { collector = p.collector; spotter = r.1; link = rest ++ reply s serial r.0 })

abbrev pub receive : Kits → Free → List Message → Message → Pair → Outcome × Pair
receive kits free rest (Produced s production) p =
    cond p.spotter.power.on
    (arrives s production.serial rest (hand_in kits.spotter free (as_record s production) p.spotter) p)
    (Plain Off, p)
receive kits free rest (Acknowledged s serial) p =
    cond p.collector.power.on
    (at_collector (clear kits.collector free s serial p.collector) (with_link rest p))
    (Plain Off, p)

abbrev pub deliver_of : Kits → Free → ℕ → Option Message → Pair → Outcome × Pair
deliver_of kits free place None p = (Plain NoMessage, p)
deliver_of kits free place (Some m) p = receive kits free (remove p.link place) m p

abbrev pub deliver : Kits → Free → ℕ → Pair → Outcome × Pair
deliver kits free place p = deliver_of kits free place (slice_get p.link place) p

-- the least of the collector's watermark, all its pending times and all its dues, nodes on or off
abbrev pub low_watermark : Kits → Pair → ℕ
low_watermark kits p = lowest kits.collector.computation p.collector.row p.collector.w

abbrev pub pass : Kits → Free → Pair → Outcome × Pair
pass kits free p =
    cond p.collector.power.on
    (cond p.spotter.power.on (at_spotter (raise kits.spotter free (low_watermark kits p) p.spotter) p) (Plain Off, p))
    (Plain Off, p)

abbrev pub shown : Option (ℕ × Production) → Outcome
shown None = Plain Nothing
shown (Some sp) = Shown sp.0 sp.1

abbrev pub show : Pair → Outcome × Pair
show p = (cond p.spotter.power.on (shown (greatest p.spotter.row)) (Plain Off), p)

-- the eleven calls
abbrev pub happens : Kits → Free → Call → Pair → Outcome × Pair
happens kits free (HandIn r) p = at_collector (hand_in kits.collector free r p.collector) p
happens kits free (Advance t) p = at_collector (advance kits.collector free t p.collector) p
happens kits free (Fire node) p =
    at_node node
    (at_collector (fire kits.collector free p.collector) p) (at_spotter (fire kits.spotter free p.spotter) p) p
happens kits free Send p = send p
happens kits free (Lose place) p = lose place p
happens kits free (Repeat place) p = repeat place p
happens kits free (Deliver place) p = deliver kits free place p
happens kits free Pass p = pass kits free p
happens kits free (Restart node left tear junk) p =
    at_node node (at_collector (restart free left tear (junk_bytes junk) p.collector) p)
    (at_spotter (restart free left tear (junk_bytes junk) p.spotter) p) p
happens kits free Show p = show p
happens kits free (MarkDone s serial) p = at_spotter (clear kits.spotter free s serial p.spotter) p
