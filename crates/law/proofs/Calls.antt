-- Each of the eleven calls is one move, or none. Assumes nothing.
use Rattle.std.proofs.Common.{◌≡◌, ℕ, Bool, true, false, cond, ◌&&◌, eqb, ltb, leb, ◌⊎◌, List, [], ◌∷◌, ◌++◌, length, Some, None, Option, sym, refl, ap, subst, inl, inr}
use Rattle.std.proofs.lemmas.Bool.{cond_both}
use Rattle.std.specs.List.{remove, slice_get}
use Rattle.model.specs.Junk.{junk_bytes}
use Rattle.model.specs.Limits.{most_messages, page_bytes}
use Rattle.model.specs.Power.{restart_answer, restarted}
use Rattle.model.specs.declared.answer.Answer.TheVariants.{Done, OutOfRange, Off, LinkFull, NoMessage}
use Rattle.model.specs.declared.answer.Outcome.{Outcome}
use Rattle.model.specs.declared.answer.Outcome.TheVariants.{Plain}
use Rattle.model.specs.declared.call.Call.{Call}
use Rattle.model.specs.declared.call.Call.TheVariants.{HandIn, Advance, Fire, Send, Lose, Repeat, Deliver, Pass, Restart, Show, MarkDone}
use Rattle.model.specs.declared.record.Message.{Message}
use Rattle.model.specs.declared.record.Message.TheVariants.{Produced, Acknowledged}
use Rattle.model.specs.declared.record.Production.{Production}
use Rattle.law.specs.Lists.{Mem}
use Rattle.law.specs.Node.{Free, Keeps, hand_in, raise, fire, clear, restart}
use Rattle.law.specs.Pair.{Kits, Pair, happens, at_collector, at_spotter, at_node, with_link, send_pending, send_head, send_from, repeat_of, arrives, as_record, deliver_of, low_watermark}
use Rattle.law.specs.Run.{Event, Deed, fires, other, arrival, deed_of}
use Rattle.model.specs.Row.{oldest}
use Rattle.law.specs.Stops.{pending_stops}
use Rattle.law.proofs.Collector.{hand_in_moves, fire_moves, advance_moves, acknowledge_moves}
use Rattle.law.proofs.Lists.{mem_split}
use Rattle.law.proofs.Moves.{News, Move, still}
use Rattle.law.proofs.Next.{lane_of, world_of, grown, next_world, same_grown, mem_removed, nth_mem, none_some}
use Rattle.law.proofs.Spotter.{land_moves, spot_fire_moves, mark_done_moves, pass_moves}
use Rattle.law.proofs.World.{World}

-- what is oldest stands first
oldest_first : (x : Production) (ps : List Production) → oldest ps ≡ Some x → (rest : List Production) × (ps ≡ x ∷ rest)
oldest_first x [] e = absurd (none_some x e)
oldest_first x (y ∷ ps) e = let same : y ≡ x = cc in (ps, ap (λ z. z ∷ ps) same)

module _ (kits : Kits) (ck : Keeps kits.collector) (sk : Keeps kits.spotter) (es : List Event) (p : Pair) where
  abbrev pub Moves : World → Type 0
  Moves W = Move kits.collector.computation kits.spotter.computation (world_of kits es p) W

  abbrev After : Deed → Outcome × Pair → Type 0
  After deed r = Moves (next_world kits es p deed r)

  -- only the link has changed
  relinked
      : (link : List Message)
      → ((m : Message) → Mem m link → Mem m p.link ⊎ News (lane_of kits es p) m)
      → Moves (grown kits es p p.collector.row p.spotter.row [] (λ s. []) (λ s. []) p.collector.w p.spotter.w link)
  relinked link linked =
      still (same_grown kits es p p.collector.row p.spotter.row [] (λ s. []) (λ s. []) p.collector.w p.spotter.w link (λ s. refl) (λ s. refl) refl (λ s. refl) (λ s. refl)) refl refl
      (λ m k. elim (linked m k) [ inl old ↦ inl old | inr new ↦ inr (news m new) ])
    where
      news
          : (m : Message)
          → News (lane_of kits es p) m
          → News (grown kits es p p.collector.row p.spotter.row [] (λ s. []) (λ s. []) p.collector.w p.spotter.w link).lane m
      news (Produced s x) n = n
      news (Acknowledged s n) x = x

  none : Moves (grown kits es p p.collector.row p.spotter.row [] (λ s. []) (λ s. []) p.collector.w p.spotter.w p.link)
  none = relinked p.link (λ m k. inl k)

  -- a message that was there, or is news, joins the link
  joined
      : (x : Message)
      → (Mem x p.link ⊎ News (lane_of kits es p) x) → (m : Message) → Mem m (p.link ++ (x ∷ []))
      → Mem m p.link ⊎ News (lane_of kits es p) m
  joined x f m k =
      elim (mem_split m p.link (x ∷ []) k) [
        | inl old ↦ inl old
        | inr (inl e) ↦ subst (λ y. Mem y p.link ⊎ News (lane_of kits es p) y) (sym e) f
        | inr (inr b) ↦ absurd b
      ]

  send_from_moves : (s : ℕ) (o : Option Production) → oldest (p.collector.row s).pending ≡ o → After other (send_from s o p)
  send_from_moves s None e = none
  send_from_moves s (Some x) e =
      relinked (p.link ++ (Produced s x ∷ [])) (joined (Produced s x) (inr (oldest_first x (p.collector.row s).pending e)))

  send_head_moves : (queue : List ℕ) → After other (send_head queue p)
  send_head_moves [] = none
  send_head_moves (s ∷ queue) = send_from_moves s (oldest (p.collector.row s).pending) refl

  send_pending_moves : (ss : List ℕ) → After other (send_pending ss p)
  send_pending_moves [] = none
  send_pending_moves (s ∷ ss) =
      cond_both (leb most_messages (length p.link)) (Plain LinkFull, p) (send_head p.collector.queue p) (After other)
      (λ _. none)
      (λ _. send_head_moves p.collector.queue)

  send_moves : After other (happens kits (record { owed = 0; point = λ q. record { node = 0; row = 0; page = 0 }; wake = record { node = 0; row = 0; page = 0 } }) Send p)
  send_moves =
      cond_both p.collector.power.on (send_pending (pending_stops p.collector.row) p) (Plain Off, p) (After other)
      (λ _. send_pending_moves (pending_stops p.collector.row))
      (λ _. none)

  lose_moves
      : (place : ℕ)
      → After other (cond (ltb place (length p.link)) (Plain Done, with_link (remove p.link place) p) (Plain NoMessage, p))
  lose_moves place =
      cond_both
      (ltb place (length p.link)) (Plain Done, with_link (remove p.link place) p) (Plain NoMessage, p) (After other)
      (λ _. relinked (remove p.link place) (λ m k. inl (mem_removed m p.link place k)))
      (λ _. none)

  repeat_moves : (place : ℕ) (o : Option Message) → slice_get p.link place ≡ o → After other (repeat_of o p)
  repeat_moves place None e = none
  repeat_moves place (Some m) e =
      cond_both
      (leb most_messages (length p.link)) (Plain LinkFull, p) (Plain Done, with_link (p.link ++ (m ∷ [])) p) (After other)
      (λ _. none)
      (λ _. relinked (p.link ++ (m ∷ [])) (joined m (inl (nth_mem m p.link place e))))

  deliver_moves
      : (free : Free) (place : ℕ) (o : Option Message)
      → slice_get p.link place ≡ o → After (arrival o) (deliver_of kits free place o p)
  deliver_moves free place None e = none
  deliver_moves free place (Some (Produced s x)) e =
      let rest = remove p.link place in
      cond_both
      p.spotter.power.on (arrives s x.serial rest (hand_in kits.spotter free (as_record s x) p.spotter) p)
      (Plain Off, p) (After (Deed.lands s x))
      (λ _. land_moves kits sk es p free s x rest (nth_mem (Produced s x) p.link place e) (λ m k. mem_removed m p.link place k))
      (λ _. none)
  deliver_moves free place (Some (Acknowledged s n)) e =
      let rest = remove p.link place in
      cond_both
      p.collector.power.on (at_collector (clear kits.collector free s n p.collector) (with_link rest p)) (Plain Off, p)
      (After other)
      (λ _. acknowledge_moves kits ck es p free s n rest (nth_mem (Acknowledged s n) p.link place e) (λ m k. mem_removed m p.link place k))
      (λ _. none)

  pass_call_moves : (free : Free) → After other (happens kits free Pass p)
  pass_call_moves free =
      let raised = at_spotter (raise kits.spotter free (low_watermark kits p) p.spotter) p in
      cond_both p.collector.power.on (cond p.spotter.power.on raised (Plain Off, p)) (Plain Off, p) (After other)
      (λ _. cond_both p.spotter.power.on raised (Plain Off, p) (After other) (λ _. pass_moves kits sk es p free) (λ _. none))
      (λ _. none)

  -- a restart leaves the rows
  restart_moves
      : (free : Free) (left tear : ℕ) (junk : List ℕ) (r : Outcome × Pair)
      → (r ≡ at_collector (restart free left tear junk p.collector) p) ⊎ (r ≡ at_spotter (restart free left tear junk p.spotter) p)
      → After other r
  restart_moves free left tear junk r (inl e) =
      subst (After other) (sym e)
      (cond_both (leb tear 2 && eqb (length junk) page_bytes)
      (restart_answer left free.wake p.collector.power, record { row = p.collector.row; w = p.collector.w; power = restarted left tear free.owed p.collector.power; queue = pending_stops p.collector.row })
      (OutOfRange, p.collector) (λ y. After other (at_collector y p)) (λ _. none) (λ _. none))
  restart_moves free left tear junk r (inr e) =
      subst (After other) (sym e)
      (cond_both (leb tear 2 && eqb (length junk) page_bytes)
      (restart_answer left free.wake p.spotter.power, record { row = p.spotter.row; w = p.spotter.w; power = restarted left tear free.owed p.spotter.power; queue = pending_stops p.spotter.row })
      (OutOfRange, p.spotter) (λ y. After other (at_spotter y p)) (λ _. none) (λ _. none))

  node_moves
      : (node : ℕ) (first second : Outcome × Pair) (deed : Bool → Deed)
      → After (deed true) first → After (deed false) second → After (deed true) (Plain OutOfRange, p)
      → After (deed false) (Plain OutOfRange, p) → After (deed (eqb node 0)) (at_node node first second p)
  node_moves node first second deed a b x y = at (eqb node 0)
    where
      at : (t : Bool) → After (deed t) (cond (leb node 1) (cond t first second) (Plain OutOfRange, p))
      at true = cond_both (leb node 1) first (Plain OutOfRange, p) (After (deed true)) (λ _. a) (λ _. x)
      at false = cond_both (leb node 1) second (Plain OutOfRange, p) (After (deed false)) (λ _. b) (λ _. y)

  pub call_moves : (free : Free) (call : Call) → After (deed_of call p) (happens kits free call p)
  call_moves free (HandIn r) = hand_in_moves kits ck es p free r
  call_moves free (Advance t) = advance_moves kits ck es p free t
  call_moves free (Fire node) =
      node_moves node
      (at_collector (fire kits.collector free p.collector) p) (at_spotter (fire kits.spotter free p.spotter) p)
      (λ t. cond t fires other)
      (fire_moves kits ck es p free) (spot_fire_moves kits sk es p free) none none
  call_moves free Send = send_moves
  call_moves free (Lose place) = lose_moves place
  call_moves free (Repeat place) = repeat_moves place (slice_get p.link place) refl
  call_moves free (Deliver place) = deliver_moves free place (slice_get p.link place) refl
  call_moves free Pass = pass_call_moves free
  call_moves free (Restart node left tear junk) =
      let first = at_collector (restart free left tear (junk_bytes junk) p.collector) p in
      let second = at_spotter (restart free left tear (junk_bytes junk) p.spotter) p in
      node_moves node first second (λ t. other)
      (restart_moves free left tear (junk_bytes junk) first (inl refl)) (restart_moves free left tear (junk_bytes junk) second (inr refl)) none none
  call_moves free Show = none
  call_moves free (MarkDone s n) = mark_done_moves kits sk es p free s n
