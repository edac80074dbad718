-- The law over every run. Assumes nothing.
use Rattle.std.proofs.Common.{◌≡◌, ℕ, zero, suc, ◌<◌, ◌≤◌, Bool, true, false, cond, not, ◌&&◌, ◌||◌, eqb, ltb, leb, ◌⊎◌, List, [], ◌∷◌, ◌++◌, map, length, get_or, replicate, Some, None, filter, Option, sym, refl, ap, ◌∙◌, subst, inl, inr, le_refl, arith}
use mathlib.Core.Bool.{false≢true}
use Rattle.std.proofs.lemmas.Bool.{eqb-true, eq-eqb, or_left, or_right, not_from_true, both_ways, and_from, lt-ltb, le-leb, cases_lt}
use Rattle.model.specs.Computation.{Computation, StateBytes, Upto, zero_state}
use Rattle.model.specs.Limits.{last_time, most_amount, stops, most_messages, in_range}
use Rattle.model.specs.Row.{Row, first_row}
use Rattle.model.specs.declared.answer.Outcome.{Outcome}
use Rattle.model.specs.declared.record.Message.{Message}
use Rattle.model.specs.declared.record.Message.TheVariants.{Produced}
use Rattle.model.specs.declared.record.Production.{Production}
use Rattle.law.specs.Law.{Law, Throughout, EveryRun}
use Rattle.law.specs.Lists.{Mem, Apart}
use Rattle.law.specs.Node.{Kit, Keeps}
use Rattle.law.specs.Pair.{Kits, Pair, happens, low_watermark, as_record}
use Rattle.law.specs.Run.{Event, New, Run, moments, deed_of, has_serial, made, landed, waiting}
use Rattle.law.proofs.Best.{low_tells, low_from}
use Rattle.law.proofs.Calls.{call_moves}
use Rattle.law.proofs.Links.{call_fits}
use Rattle.law.proofs.Lists.{mem_left, mem_right, mem_map, mem_is, map-++, apart_split, kept_all}
use Rattle.law.proofs.Moved.{sound_move, below_move}
use Rattle.law.proofs.Moves.{Below}
use Rattle.law.proofs.Next.{lane_of, world_of, next_world}
use Rattle.law.proofs.QueueCalls.{Holds, call_holds}
use Rattle.law.proofs.World.{Lane, Good, Sound, Backed, Ranged, Front, Line, serial_of}

-- zeros are bytes
zeros_small : (n i : ℕ) → get_or (replicate n 0) i 0 < 256
zeros_small zero i = omega arith
zeros_small (suc n) zero = omega arith
zeros_small (suc n) (suc i) = zeros_small n i

pub zero_bytes : StateBytes zero_state
zero_bytes = record { size = refl; small = zeros_small 32 }

upto_zero : (o : Option ℕ) → Upto 0 o
upto_zero None = tt
upto_zero (Some d) = omega arith

abbrev new_lane : Lane
new_lane = record { crow = first_row; srow = first_row; took = []; made = []; landed = [] }

pub first_mark : (kit : Kit) → Keeps kit → kit.computation.mark zero_state ≡ 0
first_mark kit k = ap (λ bs. kit.computation.mark bs) (sym k.zeros) ∙ k.lawful.first_mark

module _ (kits : Kits) (ck : Keeps kits.collector) (sk : Keeps kits.spotter) where
  abbrev c : Computation (List ℕ)
  c = kits.collector.computation

  abbrev d : Computation (List ℕ)
  d = kits.spotter.computation

  new_good : (s : ℕ) → Good c d s 0 0 new_lane
  new_good s = record {
    waits = [];
    cbytes = zero_bytes;
    sbytes = zero_bytes;
    line = record { order = refl; front = inl refl; serials = tt; below = λ p m. absurd m; ranged = λ p m. absurd m };
    names = record { once = tt; remembered = λ n m. absurd m };
    spotted = record { remembered = λ n m. absurd m; landed = λ n m. m };
    times = record {
      rise = tt;
      marked = λ p m. absurd m;
      passed = λ p m. absurd m;
      spotted = λ p m. absurd m;
      bound = omega (arith, first_mark kits.spotter sk);
      last = omega (arith, first_mark kits.collector ck);
    };
    due = upto_zero (c.due zero_state);
  }

  new_sound : (p : Pair) → New p → Sound c d (world_of kits [] p)
  new_sound p n =
      let same : (s : ℕ) → new_lane ≡ lane_of kits [] p s =
      λ s i. record { crow = sym (n.collector.rows s) i; srow = sym (n.spotter.rows s) i; took = []; made = []; landed = [] } in
      record {
        lanes =
            λ s h. subst (λ L. Good c d s p.collector.w p.spotter.w L) (same s) (subst (λ w. Good c d s w p.spotter.w new_lane) (sym n.collector.watermark) (subst (λ w. Good c d s 0 w new_lane) (sym n.spotter.watermark) (new_good s)));
        order = omega (arith, n.spotter.watermark);
        last = omega (arith, n.collector.watermark);
        link = λ m k. absurd (mem_is m p.link [] n.link k);
        beyond = λ s h. (ap (λ (r : Row). r.pending) (n.collector.rows s), refl);
      }

  -- what holds of the world after a call holds at the end of the longer run
  pub run_sound : (es : List Event) (p : Pair) → Run kits es p → Sound c d (world_of kits es p)
  run_sound [] p n = new_sound p n
  run_sound (e ∷ es) p r =
      let w = run_sound es e.before r.0 in
      let next =
      sound_move c d
      ck.lawful sk.lawful (world_of kits es e.before) w
      (next_world kits es e.before (deed_of e.call e.before) (happens kits e.free e.call e.before))
      (call_moves kits ck sk es e.before e.free e.call) in
      subst
      (λ q. Sound c d (world_of kits (e ∷ es) q)) r.2
      (subst (λ x. Sound c d (next_world kits es e.before (deed_of e.call e.before) x)) r.1 next)

  run_holds : (es : List Event) (p : Pair) → Run kits es p → Holds p
  run_holds [] p n =
      record { collector = λ on. absurd (both_ways p.collector.power.on n.collector.off on); spotter = λ on. absurd (both_ways p.spotter.power.on n.spotter.off on) }
  run_holds (e ∷ es) p r =
      subst Holds
      r.2
      (subst (λ x. Holds x.1) r.1 (call_holds kits ck sk e.free e.before (run_holds es e.before r.0) e.call))

  run_fits : (es : List Event) (p : Pair) → Run kits es p → length p.link ≤ most_messages
  run_fits [] p n = let none = ap (λ (xs : List Message). length xs) n.link in omega arith
  run_fits (e ∷ es) p r =
      subst
      (λ (q : Pair). length q.link ≤ most_messages) r.2
      (subst (λ (x : Outcome × Pair). length x.1.link ≤ most_messages) r.1 (call_fits kits e.free e.before (run_fits es e.before r.0) e.call))

  -- a number below the low watermark stays below it over one more call
  CallBelow
      : (b : ℕ) (e : Event) (es : List Event) (p : Pair)
      → Run kits (e ∷ es) p → Below c d b (world_of kits es e.before) → Below c d b (world_of kits (e ∷ es) p)
  CallBelow b e es p r low =
      let w = run_sound es e.before r.0 in
      let next =
      below_move c d
      ck.lawful sk.lawful (world_of kits es e.before) w b
      (next_world kits es e.before (deed_of e.call e.before) (happens kits e.free e.call e.before))
      (call_moves kits ck sk es e.before e.free e.call) low in
      subst
      (λ q. Below c d b (world_of kits (e ∷ es) q)) r.2
      (subst (λ x. Below c d b (next_world kits es e.before (deed_of e.call e.before) x)) r.1 next)

  low_rises : (e : Event) (es : List Event) (p : Pair) → Run kits (e ∷ es) p → low_watermark kits e.before ≤ low_watermark kits p
  low_rises e es p r =
      let b = low_watermark kits e.before in
      let l = low_tells c e.before.collector.row e.before.collector.w b (le_refl b) in
      let after = CallBelow b e es p r (record { watermark = l.watermark; pending = l.pending; dues = l.dues }) in
      low_from c
      p.collector.row p.collector.w b
      (record { watermark = after.watermark; pending = after.pending; dues = after.dues })

  never_falls
      : (es : List Event) (p : Pair)
      → Run kits es p → (q : Pair) → Mem q (moments es p) → low_watermark kits q ≤ low_watermark kits p
  never_falls [] p r q (inl e) = subst (λ x. low_watermark kits q ≤ low_watermark kits x) e (le_refl (low_watermark kits q))
  never_falls [] p r q (inr m) = absurd m
  never_falls (e ∷ es) p r q (inl same) =
      subst (λ x. low_watermark kits q ≤ low_watermark kits x) same (le_refl (low_watermark kits q))
  never_falls (e ∷ es) p r q (inr m) =
      let a = never_falls es e.before r.0 q m in
      let b = low_rises e es p r in
      omega arith

-- a serial is among those of some productions, or not
mem_serial : (n : ℕ) (ps : List Production) → Mem n (map serial_of ps) → has_serial n ps ≡ true
mem_serial n [] m = absurd m
mem_serial n (p ∷ ps) (inl e) = or_left (eqb p.serial n) (has_serial n ps) (eq-eqb p.serial n (sym e))
mem_serial n (p ∷ ps) (inr m) = or_right (eqb p.serial n) (has_serial n ps) (mem_serial n ps m)

serial_mem : (n : ℕ) (ps : List Production) → has_serial n ps ≡ true → Mem n (map serial_of ps)
serial_mem n [] e = absurd (false≢true e)
serial_mem n (p ∷ ps) e = at (eqb p.serial n) refl e (serial_mem n ps)
  where
    at
        : (b : Bool)
        → eqb p.serial n ≡ b → (b || has_serial n ps) ≡ true → (has_serial n ps ≡ true → Mem n (map serial_of ps))
        → Mem n (map serial_of (p ∷ ps))
    at true t h below = inl (sym (eqb-true p.serial n t))
    at false t h below = inr (below h)

unlanded : (n : ℕ) (ps : List Production) → (Mem n (map serial_of ps) → ⊥) → not (has_serial n ps) ≡ true
unlanded n ps f = at (has_serial n ps) refl
  where
    at : (b : Bool) → has_serial n ps ≡ b → not b ≡ true
    at true e = absurd (f (serial_mem n ps e))
    at false e = refl

-- what has landed or stands first among the pending is landed or waits
was_made
    : (x : Production) (landed waits pending : List Production)
    → Front pending waits landed
    → Mem x landed ⊎ ((rest : List Production) × (pending ≡ x ∷ rest))
    → Mem x (landed ++ waits)
was_made x landed waits pending front (inl m) = mem_left x landed waits m
was_made x landed waits pending (inl e) (inr f) =
    mem_right x landed waits (mem_is x (x ∷ f.0) waits (sym f.1 ∙ e) (inl refl))
was_made x landed waits pending (inr g) (inr f) =
    let heads : g.0 ∷ waits ≡ x ∷ f.0 = sym g.1 ∙ f.1 in
    let same : g.0 ≡ x = cc in
    mem_left x landed waits (subst (λ y. Mem y landed) same g.2)

ranged_is : (s : ℕ) (x : Production) → s < stops → Ranged x → in_range (as_record s x) ≡ true
ranged_is s x h r =
    and_from (ltb s stops) (leb x.time last_time && (ltb 0 x.amount && leb x.amount most_amount)) (lt-ltb s stops h)
    (and_from (leb x.time last_time) (ltb 0 x.amount && leb x.amount most_amount) (le-leb x.time last_time r.time)
    (and_from (ltb 0 x.amount) (leb x.amount most_amount) (lt-ltb 0 x.amount r.some) (le-leb x.amount most_amount r.few)))

-- what is pending and has not landed is what waits
pub waits_is
    : (made landed waits pending : List Production) (next : ℕ)
    → Line made landed waits pending next → filter (λ x. not (has_serial x.serial landed)) pending ≡ waits
waits_is made landed waits pending next l = at l.front
  where
    parted : Apart (map serial_of landed ++ map serial_of waits)
    parted = subst (λ ns. Apart ns) (ap (λ xs. map serial_of xs) l.order ∙ map-++ serial_of landed waits) l.serials

    all : filter (λ x. not (has_serial x.serial landed)) waits ≡ waits
    all =
        kept_all
        (λ x. not (has_serial x.serial landed)) waits
        (λ x m. unlanded x.serial landed (λ k. apart_split x.serial (map serial_of landed) (map serial_of waits) parted k (mem_map serial_of x waits m)))

    at : Front pending waits landed → filter (λ x. not (has_serial x.serial landed)) pending ≡ waits
    at (inl e) = ap (λ xs. filter (λ x. not (has_serial x.serial landed)) xs) e ∙ all
    at (inr f) =
        ap (λ xs. filter (λ x. not (has_serial x.serial landed)) xs) f.1 ∙
        (ap (λ b. cond b (f.0 ∷ filter (λ x. not (has_serial x.serial landed)) waits) (filter (λ x. not (has_serial x.serial landed)) waits)) (not_from_true (has_serial f.0.serial landed) (mem_serial f.0.serial landed (mem_map serial_of f.0 landed f.2))) ∙ all)

module _ (kits : Kits) (ck : Keeps kits.collector) (sk : Keeps kits.spotter) where
  -- what has landed or is pending at a stop was made there, and so is in range
  deliverable
      : (es : List Event) (p : Pair)
      → Sound kits.collector.computation kits.spotter.computation (world_of kits es p)
      → (s : ℕ) (x : Production)
      → (s < stops) ⊎ (stops ≤ s)
      → Backed (lane_of kits es p) (Produced s x)
      → in_range (as_record s x) ≡ true
  deliverable es p w s x (inl h) b =
      let g = w.lanes s h in
      ranged_is s x h (g.line.ranged x (mem_is x (landed kits s es ++ g.waits) (made kits s es) (sym g.line.order) (was_made x (landed kits s es) g.waits (p.collector.row s).pending g.line.front b)))
  deliverable es p w s x (inr h) (inl m) = absurd (mem_is x (landed kits s es) [] (w.beyond s h).1 m)
  deliverable es p w s x (inr h) (inr f) =
      absurd (mem_is x (p.collector.row s).pending [] (w.beyond s h).0 (mem_is x (x ∷ f.0) (p.collector.row s).pending (sym f.1) (inl refl)))

  pub law : (es : List Event) (p : Pair) → Run kits es p → Law kits es p
  law es p r =
      let w = run_sound kits ck sk es p r in
      let good : (s : ℕ) → s < stops → Good kits.collector.computation kits.spotter.computation s p.collector.w p.spotter.w (lane_of kits es p s) =
      w.lanes in
      let waits : (s : ℕ) (h : s < stops) → waiting kits s es p ≡ (good s h).waits =
      λ s h. waits_is (lane_of kits es p s).made (landed kits s es) (good s h).waits (p.collector.row s).pending (p.collector.row s).next (good s h).line in
      record {
        names_once = λ s h. (good s h).names.once;
        in_order = λ s h. ap (λ xs. landed kits s es ++ xs) (waits s h) ∙ sym (good s h).line.order;
        serials_once = λ s h. (good s h).line.serials;
        never_falls = never_falls kits ck sk es p r;
        none_late =
            λ s x h m. let k =
            mem_is x (waiting kits s es p) (good s h).waits (waits s h) m in omega (arith, (good s h).times.spotted x k, (good s h).times.passed x k);
        link_fits = run_fits kits ck sk es p r;
        deliverable = λ s x m. deliverable es p w s x (cases_lt s stops) (w.link (Produced s x) m);
        queued = (run_holds kits ck sk es p r).collector;
      }

  throughout : (es : List Event) (p : Pair) → Run kits es p → Throughout (Law kits) es p
  throughout [] p r = law [] p r
  throughout (e ∷ es) p r = (throughout es e.before r.0, law (e ∷ es) p r)

pub every_run : EveryRun Keeps
every_run kits ck sk es p r = throughout kits ck sk es p r
