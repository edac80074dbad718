-- The count over every run: what the collector took is open, waiting or landed. Assumes nothing.
use Rattle.std.proofs.Common.{◌≡◌, ℕ, ◌+◌, ◌<◌, ◌≤◌, Bool, true, false, cond, eqb, List, [], ◌∷◌, ◌++◌, map, Some, None, Option, sym, refl, ap, ◌∙◌, subst, inl, inr, arith}
use Rattle.std.proofs.lemmas.Bool.{cases_eq, both_ways}
use Rattle.std.specs.List.{slice_get}
use Rattle.model.specs.Answers.{outcome_answer}
use Rattle.model.specs.Computation.{Computation, Lawful, Conserves, Totals, StateBytes, emitted}
use Rattle.model.specs.Limits.{last_time, stops}
use Rattle.model.specs.declared.answer.Answer.{Answer}
use Rattle.model.specs.declared.answer.Outcome.{Outcome}
use Rattle.model.specs.declared.call.Call.{Call}
use Rattle.model.specs.declared.call.Call.TheVariants.{HandIn, Advance, Fire, Send, Lose, Repeat, Deliver, Pass, Restart, Show, MarkDone}
use Rattle.model.specs.declared.record.Message.{Message}
use Rattle.model.specs.declared.record.Message.TheVariants.{Produced, Acknowledged}
use Rattle.model.specs.declared.record.Production.{Production}
use Rattle.model.specs.declared.record.Record.{Record}
use Rattle.law.specs.Law.{Throughout, Counted, EveryCount}
use Rattle.law.specs.Lists.{Mem, total}
use Rattle.law.specs.Node.{Keeps, Free, wrote, hand_in, commit_row}
use Rattle.law.specs.Pair.{Kits, Pair, happens, as_record}
use Rattle.model.specs.Answers.{is_done}
use Rattle.law.specs.Rows.{take_of, taken_row, produced, considered}
use Rattle.law.specs.Run.{Event, Run, fires, other, deed_of, taken_as, all_taken, taken, made, landed, waiting, collector_wrote, arrival}
use Rattle.law.proofs.Calls.{call_moves}
use Rattle.law.proofs.Judged.{considered_plain, considered_stop, refused_wrote}
use Rattle.law.proofs.Lists.{map-++, total-++, mem_split}
use Rattle.law.proofs.Moves.{Step, takes, clears, spot_fires, spot_clears, Same, Move, still, stop, advances, passes}
use Rattle.law.proofs.Next.{lane_of, world_of, next_world}
use Rattle.law.proofs.Rows.{TakesOf}
use Rattle.law.proofs.Runs.{run_sound, waits_is}
use Rattle.law.proofs.Steps.{fires_at, spot_fires_at}
use Rattle.law.proofs.Sums.{amounts, sum_same, sum_plus, sum_by_stop}
use Rattle.law.proofs.World.{Lane, World, Good, Sound}

abbrev weight : List Production → ℕ
weight ps = total (map (λ x. x.amount) ps)

weight-++ : (xs ys : List Production) → weight (xs ++ ys) ≡ weight xs + weight ys
weight-++ xs ys =
    ap (λ ns. total ns) (map-++ (λ (x : Production). x.amount) xs ys) ∙
    total-++ (map (λ x. x.amount) xs) (map (λ x. x.amount) ys)

amounts_snoc : (rs : List Record) (r : Record) → amounts (rs ++ (r ∷ [])) ≡ amounts rs + r.amount
amounts_snoc rs r =
    let e =
    ap (λ ns. total ns) (map-++ (λ (x : Record). x.amount) rs (r ∷ [])) ∙
    total-++ (map (λ x. x.amount) rs) (r.amount ∷ []) in
    omega arith

weight-produced : (e : Option (ℕ × ℕ)) (n : ℕ) → weight (produced e n) ≡ emitted e
weight-produced None n = refl
weight-produced (Some x) n = omega arith

module _
    (c d : Computation (List ℕ)) (cl : Lawful c StateBytes) (dl : Lawful d StateBytes) (held weighed : List ℕ → ℕ)
    (cs : Conserves c StateBytes held) (ts : Totals d StateBytes weighed) where
  -- what was taken at a stop is open or was made, and what landed there is in the spotter's total
  pub record Balanced (L : Lane) : Type 0 where
    pub taken : amounts L.took ≡ held L.crow.state + weight L.made
    pub landed : weighed L.srow.state ≡ weight L.landed

  step_balanced
      : (s cw sw : ℕ)
      → sw ≤ cw → cw ≤ last_time → (link : List Message) (L L' : Lane) → Good c d s cw sw L → Step c d s cw sw link L L'
      → Balanced L → Balanced L'
  step_balanced s cw sw order last link L L' g (takes r lets) b =
      let tk = TakesOf c cw r L.crow g.cbytes last lets in
      let kept = cs.take_conserves L.crow.state cw r.name.time r.amount tk in
      let new = weight-++ L.made (produced (take_of c cw r L.crow).1 L.crow.next) in
      let out = weight-produced (take_of c cw r L.crow).1 L.crow.next in
      let more = amounts_snoc L.took r in
      let was = b.taken in
      record { taken = omega arith; landed = b.landed }
  step_balanced s cw sw order last link L L' g (Step.fires t due reached) b =
      let kept = cs.fire_conserves L.crow.state cw t (fires_at c d cl dl s cw sw order last L g t due reached) in
      let new = weight-++ L.made (produced (c.fire L.crow.state).1 L.crow.next) in
      let out = weight-produced (c.fire L.crow.state).1 L.crow.next in
      let was = b.taken in
      record { taken = omega arith; landed = b.landed }
  step_balanced s cw sw order last link L L' g (Step.lands p m lets) b =
      let tk = TakesOf d sw (as_record s p) L.srow g.sbytes (omega arith) lets in
      let adds = ts.take_adds L.srow.state sw p.time p.amount tk in
      let new = weight-++ L.landed (p ∷ []) in
      let was = b.landed in
      record { taken = b.taken; landed = omega arith }
  step_balanced s cw sw order last link L L' g (clears p rest head m) b = record { taken = b.taken; landed = b.landed }
  step_balanced s cw sw order last link L L' g (spot_fires t due reached) b =
      let keeps = ts.fire_keeps L.srow.state sw t (spot_fires_at c d cl dl s cw sw order last L g t due reached) in
      record { taken = b.taken; landed = keeps ∙ b.landed }
  step_balanced s cw sw order last link L L' g spot_clears b = record { taken = b.taken; landed = b.landed }

  abbrev All : World → Type 0
  All W = (s : ℕ) → s < stops → Balanced (W.lane s)

  same_balanced : (W W' : World) → Same W W' → All W → All W'
  same_balanced W W' same b s h = subst Balanced (sym (same s)) (b s h)

  pub move_balanced : (W W' : World) → Sound c d W → Move c d W W' → All W → All W'
  move_balanced W W' w (still same cw sw link) b q k = same_balanced W W' same b q k
  move_balanced W W' w (advances same up last sw link) b q k = same_balanced W W' same b q k
  move_balanced W W' w (passes same cw up low link) b q k = same_balanced W W' same b q k
  move_balanced W W' w (stop s h step others cw sw link) b q k =
      elim (cases_eq q s) [
        | inl e ↦ subst (λ x. Balanced (W'.lane x)) (sym e) (step_balanced s W.cw W.sw w.order w.last W.link (W.lane s) (W'.lane s) (w.lanes s h) step (b s h))
        | inr ne ↦ subst Balanced (sym (others q ne)) (b q k)
      ]

module _
    (kits : Kits) (ck : Keeps kits.collector) (sk : Keeps kits.spotter) (held weighed : List ℕ → ℕ)
    (cs : Conserves kits.collector.computation StateBytes held)
    (ts : Totals kits.spotter.computation StateBytes weighed) where
  abbrev c : Computation (List ℕ)
  c = kits.collector.computation

  abbrev d : Computation (List ℕ)
  d = kits.spotter.computation

  abbrev BalancedAt : Lane → Type 0
  BalancedAt L = Balanced c d ck.lawful sk.lawful held weighed cs ts L

  run_balanced : (es : List Event) (p : Pair) → Run kits es p → (s : ℕ) → s < stops → BalancedAt (lane_of kits es p s)
  run_balanced [] p n s h = record {
    taken =
        zeros (held (p.collector.row s).state) (ap (λ r. held r.state) (n.collector.rows s) ∙ (ap held (sym ck.zeros) ∙ cs.first));
    landed = ap (λ r. weighed r.state) (n.spotter.rows s) ∙ (ap weighed (sym sk.zeros) ∙ ts.first);
  }
    where
      zeros : (n : ℕ) → n ≡ 0 → 0 ≡ n + 0
      zeros n e = omega arith
  run_balanced (e ∷ es) p r s h =
      let w = run_sound kits ck sk es e.before r.0 in
      let r' = happens kits e.free e.call e.before in
      let next =
      move_balanced c d
      ck.lawful sk.lawful held weighed cs ts (world_of kits es e.before)
      (next_world kits es e.before (deed_of e.call e.before) r') w
      (call_moves kits ck sk es e.before e.free e.call) (run_balanced es e.before r.0) in
      subst
      (λ q. (s : ℕ) → s < stops → BalancedAt (lane_of kits (e ∷ es) q s)) r.2
      (subst (λ x. (s : ℕ) → s < stops → BalancedAt ((next_world kits es e.before (deed_of e.call e.before) x).lane s)) r.1 next) s h

  -- only records of real stops are taken
  hand_in_range
      : (p : Pair) (free : Free) (r : Record)
      → wrote kits.collector p.collector.power (hand_in kits.collector free r p.collector).0 ≡ true → r.stop < stops
  hand_in_range p free r did =
      let n = p.collector in
      let a = considered c n.power.on n.w r (n.row r.stop) in
      at (is_done a) refl did
    where
      a' : Answer
      a' = considered c p.collector.power.on p.collector.w r (p.collector.row r.stop)

      at
          : (b : Bool)
          → is_done a' ≡ b
          → wrote kits.collector p.collector.power (cond b (commit_row kits.collector free r.stop (taken_row c p.collector.w r (p.collector.row r.stop)) p.collector) (a', p.collector)).0 ≡ true
          → r.stop < stops
      at true e h = considered_stop c p.collector.power.on p.collector.w r (p.collector.row r.stop) e
      at false e h =
          absurd (both_ways (wrote kits.collector p.collector.power a') (refused_wrote kits.collector p.collector.power a' e (considered_plain c p.collector.power.on p.collector.w r (p.collector.row r.stop))) h)

  one : (b : Bool) (r x : Record) → Mem x (cond b (r ∷ []) []) → (x ≡ r) × (b ≡ true)
  one true r x (inl e) = (e, refl)
  one true r x (inr k) = absurd k
  one false r x m = absurd m

  abbrev TakenBy : Call → Event → Type 0
  TakenBy call e =
      (x : Record) → Mem x (taken_as (collector_wrote kits e) (deed_of call e.before)) → happens kits e.free call e.before ≡ (e.outcome, e.after) → x.stop < stops

  by_call : (e : Event) (call : Call) → TakenBy call e
  by_call e (HandIn r) x m happened =
      let o = one (collector_wrote kits e) r x m in
      let did : wrote kits.collector e.before.collector.power (hand_in kits.collector e.free r e.before.collector).0 ≡ true =
      subst
      (λ (y : Outcome × Pair). wrote kits.collector e.before.collector.power (outcome_answer y.0) ≡ true)
      (sym happened) o.1 in
      subst (λ y. y.stop < stops) (sym o.0) (hand_in_range e.before e.free r did)
  by_call e (Advance t) x m happened = absurd m
  by_call e (Fire node) x m happened = absurd (none (eqb node 0) m)
    where
      none : (b : Bool) → Mem x (taken_as (collector_wrote kits e) (cond b fires other)) → ⊥
      none true k = k
      none false k = k
  by_call e Send x m happened = absurd m
  by_call e (Lose place) x m happened = absurd m
  by_call e (Repeat place) x m happened = absurd m
  by_call e (Deliver place) x m happened = absurd (none (slice_get e.before.link place) m)
    where
      none : (o : Option Message) → Mem x (taken_as (collector_wrote kits e) (arrival o)) → ⊥
      none None k = k
      none (Some (Produced s p)) k = k
      none (Some (Acknowledged s n)) k = k
  by_call e Pass x m happened = absurd m
  by_call e (Restart node left tear junk) x m happened = absurd m
  by_call e Show x m happened = absurd m
  by_call e (MarkDone s n) x m happened = absurd m

  taken_in_range : (es : List Event) (p : Pair) → Run kits es p → (x : Record) → Mem x (all_taken kits es) → x.stop < stops
  taken_in_range [] p r x m = absurd m
  taken_in_range (e ∷ es) p r x m =
      elim (mem_split x (all_taken kits es) (taken_as (collector_wrote kits e) (deed_of e.call e.before)) m) [
        | inl k ↦ taken_in_range es e.before r.0 x k
        | inr k ↦ by_call e e.call x k r.1
      ]

  counted : (es : List Event) (p : Pair) → Run kits es p → Counted kits held weighed es p
  counted es p r =
      let w = run_sound kits ck sk es p r in
      let b = run_balanced es p r in
      let open' = λ (s : ℕ). held (p.collector.row s).state in
      let wait = λ (s : ℕ). weight (waiting kits s es p) in
      let land = λ (s : ℕ). weighed (p.spotter.row s).state in
      let all = sum_by_stop stops (all_taken kits es) (taken_in_range es p r) in
      let each =
      sum_same
      (λ s. amounts (taken kits s es)) (λ s. (open' s + wait s) + land s) stops (λ s h. at s h (w.lanes s h) (b s h)) in
      let one' = sum_plus (λ s. open' s + wait s) land stops in
      let two = sum_plus open' wait stops in
      omega arith
    where
      at
          : (s : ℕ)
          → s < stops → Good c d s p.collector.w p.spotter.w (lane_of kits es p s) → BalancedAt (lane_of kits es p s)
          → amounts (taken kits s es) ≡ (held (p.collector.row s).state + weight (waiting kits s es p)) + weighed (p.spotter.row s).state
      at s h g b =
          let line = ap weight g.line.order ∙ weight-++ (landed kits s es) g.waits in
          let waits =
          ap weight (waits_is (made kits s es) (landed kits s es) g.waits (p.collector.row s).pending (p.collector.row s).next g.line) in
          let t = b.taken in
          let l = b.landed in
          omega arith

  throughout : (es : List Event) (p : Pair) → Run kits es p → Throughout (Counted kits held weighed) es p
  throughout [] p r = counted [] p r
  throughout (e ∷ es) p r = (throughout es e.before r.0, counted (e ∷ es) p r)

pub every_count : EveryCount Keeps Conserves Totals
every_count kits ck sk held weighed cs ts es p r = throughout kits ck sk held weighed cs ts es p r
