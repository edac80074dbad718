-- The link never holds more messages than it may. Assumes nothing.
use Rattle.std.proofs.Common.{◌≡◌, ℕ, ◌+◌, ◌<◌, ◌≤◌, false, cond, ◌||◌, eqb, ltb, leb, List, [], ◌∷◌, ◌++◌, length, Some, None, Option, refl, inl, inr, arith, length-append}
use Rattle.std.proofs.lemmas.List.Edits.{length-remove}
use Rattle.std.proofs.lemmas.Option.{slice_get_past}
use Rattle.std.proofs.lemmas.Bool.{cond_both, ltb-true, leb-false, cases_lt}
use Rattle.std.specs.List.{remove, slice_get}
use Rattle.model.specs.Junk.{junk_bytes}
use Rattle.model.specs.Limits.{most_messages}
use Rattle.model.specs.declared.answer.Answer.{Answer}
use Rattle.model.specs.declared.answer.Answer.TheVariants.{Done, OutOfRange, Off, LinkFull, NoMessage}
use Rattle.model.specs.declared.answer.Outcome.{Outcome}
use Rattle.model.specs.declared.answer.Outcome.TheVariants.{Plain}
use Rattle.model.specs.declared.call.Call.{Call}
use Rattle.model.specs.declared.call.Call.TheVariants.{HandIn, Advance, Fire, Send, Lose, Repeat, Deliver, Pass, Restart, Show, MarkDone}
use Rattle.model.specs.declared.record.Message.{Message}
use Rattle.model.specs.declared.record.Message.TheVariants.{Produced, Acknowledged}
use Rattle.model.specs.declared.record.Production.{Production}
use Rattle.law.specs.Node.{Free, hand_in, raise, fire, clear, restart}
use Rattle.law.specs.Pair.{Kits, Pair, happens, at_collector, at_spotter, at_node, with_link, send_pending, send_head, send_from, repeat_of, arrives, as_record, reply, deliver_of, low_watermark}
use Rattle.model.specs.Answers.{is_done, is_seen}
use Rattle.model.specs.Row.{oldest}
use Rattle.law.specs.Stops.{pending_stops}
use Rattle.law.proofs.Next.{none_some}

-- what stands at a place is there
place_there : {X : Type 0} (x : X) (xs : List X) (i : ℕ) → slice_get xs i ≡ Some x → i < length xs
place_there x xs i e = elim (cases_lt i (length xs)) [
  | inl lt ↦ lt
  | inr le ↦ absurd (none_some x (let n = slice_get_past xs i le in cc))
]

reply_short : (s n : ℕ) (a : Answer) → length (reply s n a) ≤ 1
reply_short s n a =
    cond_both
    (is_done a || is_seen a) (Acknowledged s n ∷ []) [] (λ (ms : List Message). length ms ≤ 1) (λ _. omega arith) (λ _. omega arith)

module _ (kits : Kits) (free : Free) (p : Pair) (h : length p.link ≤ most_messages) where
  abbrev After : Outcome × Pair → Type 0
  After r = length r.1.link ≤ most_messages

  joined : (m : Message) → leb most_messages (length p.link) ≡ false → length (p.link ++ (m ∷ [])) ≤ most_messages
  joined m room =
      let long = length-append p.link (m ∷ []) in
      let some = leb-false most_messages (length p.link) room in
      omega arith

  shorter : (place : ℕ) → place < length p.link → length (remove p.link place) + 1 ≤ most_messages
  shorter place there = let one = length-remove p.link place there in omega arith

  send_from_fits : (s : ℕ) (o : Option Production) → leb most_messages (length p.link) ≡ false → After (send_from s o p)
  send_from_fits s None room = h
  send_from_fits s (Some x) room = joined (Produced s x) room

  send_head_fits : (queue : List ℕ) → leb most_messages (length p.link) ≡ false → After (send_head queue p)
  send_head_fits [] room = h
  send_head_fits (s ∷ queue) room = send_from_fits s (oldest (p.collector.row s).pending) room

  send_pending_fits : (ss : List ℕ) → After (send_pending ss p)
  send_pending_fits [] = h
  send_pending_fits (s ∷ ss) =
      cond_both (leb most_messages (length p.link)) (Plain LinkFull, p) (send_head p.collector.queue p) After
      (λ _. h)
      (λ room. send_head_fits p.collector.queue room)

  repeat_fits : (o : Option Message) → After (repeat_of o p)
  repeat_fits None = h
  repeat_fits (Some m) =
      cond_both (leb most_messages (length p.link)) (Plain LinkFull, p) (Plain Done, with_link (p.link ++ (m ∷ [])) p) After
      (λ _. h)
      (λ room. joined m room)

  deliver_fits : (place : ℕ) (o : Option Message) → slice_get p.link place ≡ o → After (deliver_of kits free place o p)
  deliver_fits place None e = h
  deliver_fits place (Some (Produced s x)) e =
      let r = hand_in kits.spotter free (as_record s x) p.spotter in
      let one = shorter place (place_there (Produced s x) p.link place e) in
      let long = length-append (remove p.link place) (reply s x.serial r.0) in
      let short = reply_short s x.serial r.0 in
      cond_both
      p.spotter.power.on (arrives s x.serial (remove p.link place) r p) (Plain Off, p) After (λ _. omega arith)
      (λ _. h)
  deliver_fits place (Some (Acknowledged s n)) e =
      let one = shorter place (place_there (Acknowledged s n) p.link place e) in
      cond_both
      p.collector.power.on
      (at_collector (clear kits.collector free s n p.collector) (with_link (remove p.link place) p)) (Plain Off, p) After
      (λ _. omega arith) (λ _. h)

  node_fits : (node : ℕ) (first second : Outcome × Pair) → After first → After second → After (at_node node first second p)
  node_fits node first second a b =
      cond_both (leb node 1) (cond (eqb node 0) first second) (Plain OutOfRange, p) After
      (λ _. cond_both (eqb node 0) first second After (λ _. a) (λ _. b))
      (λ _. h)

  pub call_fits : (call : Call) → After (happens kits free call p)
  call_fits (HandIn r) = h
  call_fits (Advance t) = h
  call_fits (Fire node) =
      node_fits node
      (at_collector (fire kits.collector free p.collector) p) (at_spotter (fire kits.spotter free p.spotter) p) h h
  call_fits Send =
      cond_both p.collector.power.on (send_pending (pending_stops p.collector.row) p) (Plain Off, p) After
      (λ _. send_pending_fits (pending_stops p.collector.row))
      (λ _. h)
  call_fits (Lose place) =
      cond_both (ltb place (length p.link)) (Plain Done, with_link (remove p.link place) p) (Plain NoMessage, p) After
      (λ there. let one = shorter place (ltb-true place (length p.link) there) in omega arith)
      (λ _. h)
  call_fits (Repeat place) = repeat_fits (slice_get p.link place)
  call_fits (Deliver place) = deliver_fits place (slice_get p.link place) refl
  call_fits Pass =
      let raised = at_spotter (raise kits.spotter free (low_watermark kits p) p.spotter) p in
      cond_both p.collector.power.on (cond p.spotter.power.on raised (Plain Off, p)) (Plain Off, p) After
      (λ _. cond_both p.spotter.power.on raised (Plain Off, p) After (λ _. h) (λ _. h))
      (λ _. h)
  call_fits (Restart node left tear junk) =
      node_fits node
      (at_collector (restart free left tear (junk_bytes junk) p.collector) p)
      (at_spotter (restart free left tear (junk_bytes junk) p.spotter) p) h h
  call_fits Show = h
  call_fits (MarkDone s n) = h
