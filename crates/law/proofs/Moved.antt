-- Every move keeps the world sound, and keeps every number below the low watermark. Assumes nothing.
use Rattle.std.proofs.Common.{◌≡◌, ℕ, ◌<◌, ◌≤◌, ◌⊎◌, List, [], ◌∷◌, ◌++◌, map, drop, sym, ap, ◌∙◌, subst, inl, inr, arith}
use Rattle.std.proofs.lemmas.Bool.{cases_eq}
use Rattle.model.specs.Computation.{Computation, Lawful, StateBytes, Upto}
use Rattle.model.specs.Limits.{last_time, stops}
use Rattle.model.specs.declared.record.Message.{Message}
use Rattle.model.specs.declared.record.Message.TheVariants.{Produced, Acknowledged}
use Rattle.model.specs.declared.record.Name.{Name}
use Rattle.model.specs.declared.record.Production.{Production}
use Rattle.law.specs.Lists.{Mem}
use Rattle.law.specs.Rows.{take_of, produced}
use Rattle.law.proofs.Lines.{line_clears}
use Rattle.law.proofs.Lists.{mem_left, mem_split, mem_map, mem_unmap, map-++}
use Rattle.law.proofs.Moves.{Step, takes, fires, lands, clears, spot_fires, spot_clears, News, Linked, Same, Below, Move, still, stop, advances, passes}
use Rattle.law.proofs.Rows.{TakesOf}
use Rattle.law.proofs.Steps.{good_step, upto_due, upto_down, take_adds, fire_adds, fires_at}
use Rattle.law.proofs.World.{Lane, World, Good, Sound, Backed, Front, name_at, serial_of}

apart : (q s : ℕ) → stops ≤ q → s < stops → q ≡ s → ⊥
apart q s k h e = omega arith

mem_drop : {X : Type 0} (x : X) (xs : List X) → Mem x (drop 1 xs) → Mem x xs
mem_drop x [] m = m
mem_drop x (y ∷ xs) m = inr m

module _ (c d : Computation (List ℕ)) (cl : Lawful c StateBytes) (dl : Lawful d StateBytes) where
  module _ (s cw sw : ℕ) (order : sw ≤ cw) (last : cw ≤ last_time) (L : Lane) (g : Good c d s cw sw L) where
    -- a message of a stop stays backed over a step there
    carry_produced
        : (link : List Message) (L' : Lane) (p : Production)
        → ((n : ℕ) → Mem (Acknowledged s n) link → Backed (λ q. L) (Acknowledged s n)) → Step c d s cw sw link L L'
        → Backed (λ q. L) (Produced s p) → Backed (λ q. L') (Produced s p)
    carry_produced link L' p back (takes r lets) (inl m) = inl m
    carry_produced link L' p back (takes r lets) (inr x) =
        inr (x.0 ++ produced (take_of c cw r L.crow).1 L.crow.next, ap (λ xs. xs ++ produced (take_of c cw r L.crow).1 L.crow.next) x.1)
    carry_produced link L' p back (fires t due reached) (inl m) = inl m
    carry_produced link L' p back (fires t due reached) (inr x) =
        inr (x.0 ++ produced (c.fire L.crow.state).1 L.crow.next, ap (λ xs. xs ++ produced (c.fire L.crow.state).1 L.crow.next) x.1)
    carry_produced link L' p back (lands q m lets) (inl k) = inl (mem_left p L.landed (q ∷ []) k)
    carry_produced link L' p back (lands q m lets) (inr x) = inr x
    carry_produced link L' p back (clears q rest head m) (inl k) = inl k
    carry_produced link L' p back (clears q rest head m) (inr x) =
        let heads : q ∷ rest ≡ p ∷ x.0 = sym head ∙ x.1 in
        let same : q ≡ p = cc in
        inl (subst (λ y. Mem y L.landed) same (line_clears q L.made L.landed g.waits rest L.crow.pending L.crow.next head (back q.serial m) g.line).1)
    carry_produced link L' p back (spot_fires t due reached) b = b
    carry_produced link L' p back spot_clears b = b

    carry_acknowledged
        : (link : List Message) (L' : Lane) (n : ℕ)
        → Step c d s cw sw link L L' → Backed (λ q. L) (Acknowledged s n) → Backed (λ q. L') (Acknowledged s n)
    carry_acknowledged link L' n (takes r lets) b = b
    carry_acknowledged link L' n (fires t due reached) b = b
    carry_acknowledged link L' n (lands q m lets) b =
        subst
        (λ ns. Mem n ns) (sym (map-++ serial_of L.landed (q ∷ []))) (mem_left n (map serial_of L.landed) (q.serial ∷ []) b)
    carry_acknowledged link L' n (clears q rest head m) b = b
    carry_acknowledged link L' n (spot_fires t due reached) b = b
    carry_acknowledged link L' n spot_clears b = b

    -- and so does a number below its pending times and its due
    step_pending
        : (b : ℕ) (link : List Message) (L' : Lane)
        → Step c d s cw sw link L L' → b ≤ cw → Upto b (c.due L.crow.state)
        → ((p : Production) → Mem p L.crow.pending → b ≤ p.time) → (p : Production) → Mem p L'.crow.pending → b ≤ p.time
    step_pending b link L' (takes r lets) low due f p m =
        let tk = TakesOf c cw r L.crow g.cbytes last lets in
        elim (mem_split p L.crow.pending (produced (take_of c cw r L.crow).1 L.crow.next) m) [
          | inl k ↦ f p k
          | inr k ↦ omega (arith, (take_adds c d cl dl s cw sw order last L g r tk).reached p k, tk.past_watermark)
        ]
    step_pending b link L' (fires t is-due reached) low due f p m =
        let low_due : b ≤ t = upto_due b t (c.due L.crow.state) is-due due in
        elim (mem_split p L.crow.pending (produced (c.fire L.crow.state).1 L.crow.next) m) [
          | inl k ↦ f p k
          | inr k ↦ omega (arith, (fire_adds c d cl dl s cw sw order last L g t (fires_at c d cl dl s cw sw order last L g t is-due reached)).reached p k)
        ]
    step_pending b link L' (lands q k lets) low due f p m = f p m
    step_pending b link L' (clears q rest head k) low due f p m = f p (mem_drop p L.crow.pending m)
    step_pending b link L' (spot_fires t is-due reached) low due f p m = f p m
    step_pending b link L' spot_clears low due f p m = f p m

    step_due
        : (b : ℕ) (link : List Message) (L' : Lane)
        → Step c d s cw sw link L L' → b ≤ cw → Upto b (c.due L.crow.state) → Upto b (c.due L'.crow.state)
    step_due b link L' (takes r lets) low due =
        let tk = TakesOf c cw r L.crow g.cbytes last lets in
        cl.take_due L.crow.state cw r.name.time r.amount b tk due (omega (arith, tk.past_watermark))
    step_due b link L' (fires t is-due reached) low due =
        upto_down b t
        (c.due (c.fire L.crow.state).0) (upto_due b t (c.due L.crow.state) is-due due)
        (cl.fire_due L.crow.state cw t (fires_at c d cl dl s cw sw order last L g t is-due reached))
    step_due b link L' (lands q k lets) low due = due
    step_due b link L' (clears q rest head k) low due = due
    step_due b link L' (spot_fires t is-due reached) low due = due
    step_due b link L' spot_clears low due = due

  -- watermarks that rise, no further than they may
  good_raised
      : (s cw sw cw' sw' : ℕ) (L : Lane)
      → cw ≤ cw' → sw ≤ sw' → ((p : Production) → Mem p L.crow.pending → sw' ≤ p.time) ⊎ (sw' ≡ sw)
      → Upto sw' (c.due L.crow.state) → Good c d s cw sw L → Good c d s cw' sw' L
  good_raised s cw sw cw' sw' L up sup low due g = record {
    waits = g.waits;
    cbytes = g.cbytes;
    sbytes = g.sbytes;
    line = g.line;
    names = record {
      once = g.names.once;
      remembered = λ n m. elim (g.names.remembered n m) [ inl late ↦ inl (omega arith) | inr k ↦ inr k ];
    };
    spotted = record {
      remembered = λ n m. elim (g.spotted.remembered n m) [ inl late ↦ inl (omega arith) | inr k ↦ inr k ];
      landed = g.spotted.landed;
    };
    times = record {
      rise = g.times.rise;
      marked = g.times.marked;
      passed = λ p m. elim low [ inl f ↦ f p (pending p m g.line.front) | inr e ↦ omega (arith, g.times.passed p m) ];
      spotted = g.times.spotted;
      bound = omega (arith, g.times.bound);
      last = g.times.last;
    };
    due = due;
  }
    where
      pending : (p : Production) → Mem p g.waits → Front L.crow.pending g.waits L.landed → Mem p L.crow.pending
      pending p m (inl e) = subst (λ xs. Mem p xs) (sym e) m
      pending p m (inr x) = subst (λ xs. Mem p xs) (sym x.1) (inr m)

  -- news is backed
  news_backed
      : (lane : ℕ → Lane) (cw sw : ℕ)
      → ((s : ℕ) → s < stops → Good c d s cw sw (lane s)) → (m : Message) → News lane m → Backed lane m
  news_backed lane cw sw good (Produced s p) n = inr n
  news_backed lane cw sw good (Acknowledged s n) x =
      let g = good s x.0 in
      let name = x.1 in
      let y = mem_unmap (name_at s) name.0 (lane s).landed (g.spotted.landed name.0 name.1) in
      subst
      (λ k. Mem k (map serial_of (lane s).landed)) (sym (ap (λ (z : Name). z.serial) y.2) ∙ name.2)
      (mem_map serial_of y.0 (lane s).landed y.1)

  backed_same : (lane lane' : ℕ → Lane) (m : Message) → ((s : ℕ) → lane' s ≡ lane s) → Backed lane m → Backed lane' m
  backed_same lane lane' (Produced s p) same b = subst (λ L. Backed (λ q. L) (Produced s p)) (sym (same s)) b
  backed_same lane lane' (Acknowledged s n) same b = subst (λ L. Backed (λ q. L) (Acknowledged s n)) (sym (same s)) b

  module _ (W : World) (w : Sound c d W) where
    linked
        : (W' : World)
        → Linked W W' → ((s : ℕ) → s < stops → Good c d s W'.cw W'.sw (W'.lane s))
        → ((m : Message) → Backed W.lane m → Backed W'.lane m) → (m : Message) → Mem m W'.link → Backed W'.lane m
    linked W' link good carry m k =
        elim (link m k) [ inl old ↦ carry m (w.link m old) | inr new ↦ news_backed W'.lane W'.cw W'.sw good m new ]

    sound_when
        : (W' : World)
        → Same W W' → Linked W W' → ((s : ℕ) → s < stops → Good c d s W'.cw W'.sw (W.lane s)) → W'.sw ≤ W'.cw
        → W'.cw ≤ last_time → Sound c d W'
    sound_when W' same link good order last =
        let good' : (s : ℕ) → s < stops → Good c d s W'.cw W'.sw (W'.lane s) =
        λ s h. subst (λ L. Good c d s W'.cw W'.sw L) (sym (same s)) (good s h) in
        record {
          lanes = good';
          order = order;
          last = last;
          link = linked W' link good' (λ m b. backed_same W.lane W'.lane m same b);
          beyond = λ s h. subst (λ (L : Lane). (L.crow.pending ≡ []) × (L.landed ≡ [])) (sym (same s)) (w.beyond s h);
        }

    stop_good
        : (W' : World) (s : ℕ)
        → s < stops → Step c d s W.cw W.sw W.link (W.lane s) (W'.lane s)
        → ((q : ℕ) → (q ≡ s → ⊥) → W'.lane q ≡ W.lane q) → (q : ℕ) → q < stops → Good c d q W.cw W.sw (W'.lane q)
    stop_good W' s h step others q k =
        elim (cases_eq q s) [
          | inl e ↦ subst (λ x. Good c d x W.cw W.sw (W'.lane x)) (sym e) (good_step c d cl dl s W.cw W.sw w.order w.last (W.lane s) (w.lanes s h) W.link (W'.lane s) (λ p m. w.link (Produced s p) m) (λ n m. w.link (Acknowledged s n) m) step)
          | inr ne ↦ subst (λ L. Good c d q W.cw W.sw L) (sym (others q ne)) (w.lanes q k)
        ]

    stop_carry
        : (W' : World) (s : ℕ)
        → s < stops → Step c d s W.cw W.sw W.link (W.lane s) (W'.lane s)
        → ((q : ℕ) → (q ≡ s → ⊥) → W'.lane q ≡ W.lane q) → (m : Message) → Backed W.lane m → Backed W'.lane m
    stop_carry W' s h step others (Produced q p) b =
        elim (cases_eq q s) [
          | inl e ↦ subst (λ x. Backed W.lane (Produced x p) → Backed W'.lane (Produced x p)) (sym e) (carry_produced s W.cw W.sw w.order w.last (W.lane s) (w.lanes s h) W.link (W'.lane s) p (λ n m. w.link (Acknowledged s n) m) step) b
          | inr ne ↦ subst (λ L. Backed (λ x. L) (Produced q p)) (sym (others q ne)) b
        ]
    stop_carry W' s h step others (Acknowledged q n) b =
        elim (cases_eq q s) [
          | inl e ↦ subst (λ x. Backed W.lane (Acknowledged x n) → Backed W'.lane (Acknowledged x n)) (sym e) (carry_acknowledged s W.cw W.sw w.order w.last (W.lane s) (w.lanes s h) W.link (W'.lane s) n step) b
          | inr ne ↦ subst (λ L. Backed (λ x. L) (Acknowledged q n)) (sym (others q ne)) b
        ]

    pub sound_move : (W' : World) → Move c d W W' → Sound c d W'
    sound_move W' (still same cw sw link) =
        sound_when W' same link
        (λ s h. good_raised s W.cw W.sw W'.cw W'.sw (W.lane s) (omega arith) (omega arith) (inr sw) (subst (λ x. Upto x (c.due (W.lane s).crow.state)) (sym sw) (w.lanes s h).due) (w.lanes s h))
        (omega (arith, w.order)) (omega (arith, w.last))
    sound_move W' (stop s h step others cw sw link) =
        let good : (q : ℕ) → q < stops → Good c d q W'.cw W'.sw (W'.lane q) =
        λ q k. subst (λ x. Good c d q x W'.sw (W'.lane q)) (sym cw) (subst (λ x. Good c d q W.cw x (W'.lane q)) (sym sw) (stop_good W' s h step others q k)) in
        record {
          lanes = good;
          order = omega (arith, w.order);
          last = omega (arith, w.last);
          link = linked W' link good (stop_carry W' s h step others);
          beyond = λ q k. subst (λ (L : Lane). (L.crow.pending ≡ []) × (L.landed ≡ [])) (sym (others q (apart q s k h))) (w.beyond q k);
        }
    sound_move W' (advances same up last sw link) =
        sound_when W' same link
        (λ s h. good_raised s W.cw W.sw W'.cw W'.sw (W.lane s) up (omega arith) (inr sw) (subst (λ x. Upto x (c.due (W.lane s).crow.state)) (sym sw) (w.lanes s h).due) (w.lanes s h))
        (omega (arith, w.order)) last
    sound_move W' (passes same cw up low link) =
        sound_when W' same link
        (λ s h. good_raised s W.cw W.sw W'.cw W'.sw (W.lane s) (omega arith) up (inl (low.pending s h)) (low.dues s h) (w.lanes s h))
        (omega (arith, low.watermark)) (omega (arith, w.last))

    below_same : (b : ℕ) (W' : World) → Same W W' → W.cw ≤ W'.cw → Below c d b W → Below c d b W'
    below_same b W' same up low = record {
      watermark = omega (arith, low.watermark);
      pending = λ s h p m. low.pending s h p (subst (λ L. Mem p L.crow.pending) (same s) m);
      dues = λ s h. subst (λ L. Upto b (c.due L.crow.state)) (sym (same s)) (low.dues s h);
    }

    pub below_move : (b : ℕ) (W' : World) → Move c d W W' → Below c d b W → Below c d b W'
    below_move b W' (still same cw sw link) low = below_same b W' same (omega arith) low
    below_move b W' (advances same up last sw link) low = below_same b W' same up low
    below_move b W' (passes same cw up lows link) low = below_same b W' same (omega arith) low
    below_move b W' (stop s h step others cw sw link) low = record {
      watermark = omega (arith, low.watermark);
      pending = λ q k p m. elim (cases_eq q s) [
        | inl e ↦ step_pending s W.cw W.sw w.order w.last (W.lane s) (w.lanes s h) b W.link (W'.lane s) step low.watermark (low.dues s h) (low.pending s h) p (subst (λ x. Mem p (W'.lane x).crow.pending) e m)
        | inr ne ↦ low.pending q k p (subst (λ L. Mem p L.crow.pending) (others q ne) m)
      ];
      dues = λ q k. elim (cases_eq q s) [
        | inl e ↦ subst (λ x. Upto b (c.due (W'.lane x).crow.state)) (sym e) (step_due s W.cw W.sw w.order w.last (W.lane s) (w.lanes s h) b W.link (W'.lane s) step low.watermark (low.dues s h))
        | inr ne ↦ subst (λ L. Upto b (c.due L.crow.state)) (sym (others q ne)) (low.dues q k)
      ];
    }
