-- Each of the eleven calls keeps the queues right. Assumes nothing.
use Rattle.std.proofs.Common.{ℕ, cond, eqb, ltb, leb, List, [], ◌∷◌, ◌++◌, length, Some, None, Option}
use Rattle.std.proofs.lemmas.Bool.{cond_both}
use Rattle.std.specs.List.{remove, slice_get}
use Rattle.model.specs.Junk.{junk_bytes}
use Rattle.model.specs.Limits.{most_messages}
use Rattle.model.specs.declared.answer.Answer.TheVariants.{Done, OutOfRange, Off, LinkFull, NoMessage}
use Rattle.model.specs.declared.answer.Outcome.{Outcome}
use Rattle.model.specs.declared.answer.Outcome.TheVariants.{Plain}
use Rattle.model.specs.declared.call.Call.{Call}
use Rattle.model.specs.declared.call.Call.TheVariants.{HandIn, Advance, Fire, Send, Lose, Repeat, Deliver, Pass, Restart, Show, MarkDone}
use Rattle.model.specs.declared.record.Message.{Message}
use Rattle.model.specs.declared.record.Message.TheVariants.{Produced, Acknowledged}
use Rattle.model.specs.declared.record.Production.{Production}
use Rattle.law.specs.Node.{Free, Keeps, hand_in, raise, fire, clear, restart}
use Rattle.law.specs.Pair.{Kits, Pair, happens, at_collector, at_spotter, at_node, with_link, send_pending, send_head, send_from, repeat_of, arrives, as_record, deliver_of, low_watermark}
use Rattle.model.specs.Row.{oldest}
use Rattle.law.specs.Stops.{pending_stops}
use Rattle.law.proofs.Queues.{Held, turned_held, hand_in_held, raise_held, advance_held, fire_held, clear_held, restart_held}

-- both nodes' queues are right while they are on
pub record Holds (p : Pair) : Type 0 where
  pub collector : Held p.collector
  pub spotter : Held p.spotter

module _ (kits : Kits) (ck : Keeps kits.collector) (sk : Keeps kits.spotter) (free : Free) (p : Pair) (h : Holds p) where
  abbrev After : Outcome × Pair → Type 0
  After r = Holds r.1

  same : (link : List Message) → Holds (with_link link p)
  same link = record { collector = h.collector; spotter = h.spotter }

  send_from_holds : (s : ℕ) (o : Option Production) → After (send_from s o p)
  send_from_holds s None = h
  send_from_holds s (Some x) = record { collector = turned_held p.collector h.collector; spotter = h.spotter }

  send_head_holds : (queue : List ℕ) → After (send_head queue p)
  send_head_holds [] = h
  send_head_holds (s ∷ queue) = send_from_holds s (oldest (p.collector.row s).pending)

  send_pending_holds : (ss : List ℕ) → After (send_pending ss p)
  send_pending_holds [] = h
  send_pending_holds (s ∷ ss) =
      cond_both (leb most_messages (length p.link)) (Plain LinkFull, p) (send_head p.collector.queue p) After
      (λ _. h)
      (λ _. send_head_holds p.collector.queue)

  repeat_holds : (o : Option Message) → After (repeat_of o p)
  repeat_holds None = h
  repeat_holds (Some m) =
      cond_both (leb most_messages (length p.link)) (Plain LinkFull, p) (Plain Done, with_link (p.link ++ (m ∷ [])) p) After
      (λ _. h)
      (λ _. same (p.link ++ (m ∷ [])))

  deliver_holds : (place : ℕ) (o : Option Message) → After (deliver_of kits free place o p)
  deliver_holds place None = h
  deliver_holds place (Some (Produced s x)) =
      cond_both
      p.spotter.power.on
      (arrives s x.serial (remove p.link place) (hand_in kits.spotter free (as_record s x) p.spotter) p)
      (Plain Off, p) After
      (λ _. record { collector = h.collector; spotter = hand_in_held kits.spotter sk free p.spotter h.spotter (as_record s x) })
      (λ _. h)
  deliver_holds place (Some (Acknowledged s n)) =
      cond_both
      p.collector.power.on
      (at_collector (clear kits.collector free s n p.collector) (with_link (remove p.link place) p)) (Plain Off, p) After
      (λ _. record { collector = clear_held kits.collector ck free p.collector h.collector s n; spotter = h.spotter })
      (λ _. h)

  pass_holds : After (happens kits free Pass p)
  pass_holds =
      let raised = at_spotter (raise kits.spotter free (low_watermark kits p) p.spotter) p in
      cond_both p.collector.power.on (cond p.spotter.power.on raised (Plain Off, p)) (Plain Off, p) After
      (λ _. cond_both p.spotter.power.on raised (Plain Off, p) After
      (λ on. record { collector = h.collector; spotter = raise_held kits.spotter sk free p.spotter h.spotter (low_watermark kits p) on })
      (λ _. h))
      (λ _. h)

  node_holds : (node : ℕ) (first second : Outcome × Pair) → After first → After second → After (at_node node first second p)
  node_holds node first second a b =
      cond_both (leb node 1) (cond (eqb node 0) first second) (Plain OutOfRange, p) After
      (λ _. cond_both (eqb node 0) first second After (λ _. a) (λ _. b))
      (λ _. h)

  pub call_holds : (call : Call) → After (happens kits free call p)
  call_holds (HandIn r) =
      record { collector = hand_in_held kits.collector ck free p.collector h.collector r; spotter = h.spotter }
  call_holds (Advance t) =
      record { collector = advance_held kits.collector ck free p.collector h.collector t; spotter = h.spotter }
  call_holds (Fire node) =
      node_holds node
      (at_collector (fire kits.collector free p.collector) p) (at_spotter (fire kits.spotter free p.spotter) p)
      (record { collector = fire_held kits.collector ck free p.collector h.collector; spotter = h.spotter })
      (record { collector = h.collector; spotter = fire_held kits.spotter sk free p.spotter h.spotter })
  call_holds Send =
      cond_both p.collector.power.on (send_pending (pending_stops p.collector.row) p) (Plain Off, p) After
      (λ _. send_pending_holds (pending_stops p.collector.row))
      (λ _. h)
  call_holds (Lose place) =
      cond_both (ltb place (length p.link)) (Plain Done, with_link (remove p.link place) p) (Plain NoMessage, p) After
      (λ _. same (remove p.link place))
      (λ _. h)
  call_holds (Repeat place) = repeat_holds (slice_get p.link place)
  call_holds (Deliver place) = deliver_holds place (slice_get p.link place)
  call_holds Pass = pass_holds
  call_holds (Restart node left tear junk) =
      node_holds node
      (at_collector (restart free left tear (junk_bytes junk) p.collector) p)
      (at_spotter (restart free left tear (junk_bytes junk) p.spotter) p)
      (record { collector = restart_held kits.collector ck free p.collector h.collector left tear (junk_bytes junk); spotter = h.spotter })
      (record { collector = h.collector; spotter = restart_held kits.spotter sk free p.spotter h.spotter left tear (junk_bytes junk) })
  call_holds Show = h
  call_holds (MarkDone s n) =
      record { collector = h.collector; spotter = clear_held kits.spotter sk free p.spotter h.spotter s n }
