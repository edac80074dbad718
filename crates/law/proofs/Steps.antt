-- What is good of a stop stays good, whatever step it takes. Assumes nothing.
use Rattle.std.proofs.Common.{◌≡◌, ℕ, ◌≤◌, max, leb, ◌⊎◌, List, [], ◌∷◌, ◌++◌, map, drop, Some, None, Option, sym, ap, ◌∙◌, subst, inl, inr, le_refl, arith}
use Rattle.model.specs.Computation.{Computation, Lawful, Takes, Fires, StateBytes, Upto}
use Rattle.model.specs.Limits.{last_time}
use Rattle.model.specs.declared.record.Message.{Message}
use Rattle.model.specs.declared.record.Message.TheVariants.{Produced, Acknowledged}
use Rattle.model.specs.declared.record.Production.{Production}
use Rattle.model.specs.declared.record.Record.{Record}
use Rattle.law.specs.Lists.{Mem, Apart}
use Rattle.law.specs.Pair.{as_record}
use Rattle.model.specs.Row.{cleared_row}
use Rattle.law.specs.Rows.{floor_of, take_of, taken_row, fired_row, produced, next_after}
use Rattle.law.proofs.Lines.{line_grows, times_grow, first_waits, line_lands, line_clears, line_cleared, times_land}
use Rattle.law.proofs.Lists.{mem_left, mem_last, mem_map, map-++, apart_snoc, kept_mem}
use Rattle.law.proofs.Moves.{Lets, Step, takes, fires, lands, clears, spot_fires, spot_clears}
use Rattle.law.proofs.Rows.{Adds, adds, remembers_step, remembers_take, not_known, taken_names, TakesOf}
use Rattle.law.proofs.World.{Lane, Times, Line, Remembers, Good, Backed, name_of, name_at, serial_of}

pub upto_down : (b t : ℕ) (o : Option ℕ) → b ≤ t → Upto t o → Upto b o
upto_down b t None le u = tt
upto_down b t (Some d) le u = omega arith

-- what is due is at least what is at most the due
pub upto_due : (b d : ℕ) (o : Option ℕ) → o ≡ Some d → Upto b o → b ≤ d
upto_due b d o e u = subst (λ (x : Option ℕ). Upto b x) e u

module _
    (c d : Computation (List ℕ)) (cl : Lawful c StateBytes) (dl : Lawful d StateBytes) (s cw sw : ℕ) (order : sw ≤ cw)
    (last : cw ≤ last_time) (L : Lane) (g : Good c d s cw sw L) where
  pub fires_at : (t : ℕ) → c.due L.crow.state ≡ Some t → t ≤ cw → Fires c StateBytes L.crow.state cw t
  fires_at t due reached = record { sound = g.cbytes; watermark = last; due = due; reached = reached }

  pub spot_fires_at : (t : ℕ) → d.due L.srow.state ≡ Some t → t ≤ sw → Fires d StateBytes L.srow.state sw t
  spot_fires_at t due reached = record { sound = g.sbytes; watermark = omega arith; due = due; reached = reached }

  pub take_adds
      : (r : Record) (tk : Takes c StateBytes L.crow.state cw r.name.time r.amount)
      → Adds L.crow.next r.name.time (c.mark (take_of c cw r L.crow).0) (produced (take_of c cw r L.crow).1 L.crow.next) (next_after (take_of c cw r L.crow).1 L.crow.next)
  take_adds r tk =
      adds (take_of c cw r L.crow).1 L.crow.next r.name.time (c.mark (take_of c cw r L.crow).0)
      (λ x e. cl.take_emits L.crow.state cw r.name.time r.amount x tk e)

  pub fire_adds
      : (t : ℕ)
      → Fires c StateBytes L.crow.state cw t
      → Adds L.crow.next t (c.mark (c.fire L.crow.state).0) (produced (c.fire L.crow.state).1 L.crow.next) (next_after (c.fire L.crow.state).1 L.crow.next)
  fire_adds t f =
      adds (c.fire L.crow.state).1 L.crow.next t (c.mark (c.fire L.crow.state).0)
      (λ x e. cl.fire_emits L.crow.state cw t x f e)

  good_takes
      : (r : Record)
      → Lets c cw r L.crow
      → Good c d s cw sw (record { crow = taken_row c cw r L.crow; srow = L.srow; took = L.took ++ (r ∷ []); made = L.made ++ produced (take_of c cw r L.crow).1 L.crow.next; landed = L.landed })
  good_takes r lets =
      let tk = TakesOf c cw r L.crow g.cbytes last lets in
      let state = L.crow.state in
      let t = r.name.time in
      let a = r.amount in
      let new = produced (take_of c cw r L.crow).1 L.crow.next in
      let then = next_after (take_of c cw r L.crow).1 L.crow.next in
      let after = c.mark (take_of c cw r L.crow).0 in
      let rises : c.mark state ≤ after = cl.take_mark_rises state cw t a tk in
      let most : after ≤ t = cl.take_mark_bound state cw t a t tk tk.past_mark tk.past_watermark (le_refl t) in
      record {
        waits = g.waits ++ new;
        cbytes = cl.take_sound state cw t a tk;
        sbytes = g.sbytes;
        line =
            line_grows L.made L.landed g.waits L.crow.pending new L.crow.next then t after (take_adds r tk) (omega (arith, tk.time)) g.line;
        names = record {
          once =
              subst (λ ns. Apart ns) (sym (map-++ name_of L.took (r ∷ []))) (apart_snoc r.name (map name_of L.took) g.names.once (not_known c cw r L.crow (map name_of L.took) g.names.remembered lets));
          remembered =
              subst (λ ns. Remembers c cw (taken_row c cw r L.crow) ns) (sym (map-++ name_of L.took (r ∷ []))) (remembers_take c cw r L.crow (map name_of L.took) rises g.names.remembered);
        };
        spotted = g.spotted;
        times =
            times_grow L.made L.landed g.waits L.crow.pending new L.crow.next then t after (take_adds r tk) sw (c.mark state) (d.mark L.srow.state) g.times rises (omega (arith, tk.time)) (omega (arith, tk.past_watermark));
        due = cl.take_due state cw t a sw tk g.due (omega (arith, tk.past_watermark));
      }

  good_fires
      : (t : ℕ)
      → c.due L.crow.state ≡ Some t → t ≤ cw
      → Good c d s cw sw (record { crow = fired_row c cw L.crow; srow = L.srow; took = L.took; made = L.made ++ produced (c.fire L.crow.state).1 L.crow.next; landed = L.landed })
  good_fires t is-due reached =
      let f = fires_at t is-due reached in
      let state = L.crow.state in
      let new = produced (c.fire state).1 L.crow.next in
      let then = next_after (c.fire state).1 L.crow.next in
      let after = c.mark (c.fire state).0 in
      let rises : c.mark state ≤ after = cl.fire_mark_rises state cw t f in
      let low : sw ≤ t = upto_due sw t (c.due state) is-due g.due in
      let most : after ≤ last_time = cl.fire_mark_bound state cw t last_time f g.times.last (omega arith) in
      record {
        waits = g.waits ++ new;
        cbytes = cl.fire_sound state cw t f;
        sbytes = g.sbytes;
        line =
            line_grows L.made L.landed g.waits L.crow.pending new L.crow.next then t after (fire_adds t f) most g.line;
        names = record {
          once = g.names.once;
          remembered = remembers_step c cw (c.fire state) L.crow (map name_of L.took) rises g.names.remembered;
        };
        spotted = g.spotted;
        times =
            times_grow L.made L.landed g.waits L.crow.pending new L.crow.next then t after (fire_adds t f) sw (c.mark state) (d.mark L.srow.state) g.times rises most low;
        due = upto_down sw t (c.due (c.fire state).0) low (cl.fire_due state cw t f);
      }

  -- a production on the link that the spotter lets in is the first that waits
  lands_first
      : (p : Production)
      → Backed (λ q. L) (Produced s p) → Lets d sw (as_record s p) L.srow
      → (rest : List Production) × (L.crow.pending ≡ p ∷ rest) × (g.waits ≡ p ∷ rest)
  lands_first p backed lets = at backed
    where
      unknown : Mem p L.landed → ⊥
      unknown m =
          not_known d sw
          (as_record s p) L.srow (map (name_at s) L.landed) g.spotted.remembered lets (mem_map (name_at s) p L.landed m)

      at
          : Mem p L.landed ⊎ ((rest : List Production) × (L.crow.pending ≡ p ∷ rest))
          → (rest : List Production) × (L.crow.pending ≡ p ∷ rest) × (g.waits ≡ p ∷ rest)
      at (inl m) = absurd (unknown m)
      at (inr x) = (x.0, x.1, first_waits p x.0 L.crow.pending g.waits L.landed g.line.front x.1 unknown)

  good_lands
      : (p : Production)
      → Backed (λ q. L) (Produced s p) → Lets d sw (as_record s p) L.srow
      → Good c d s cw sw (record { crow = L.crow; srow = taken_row d sw (as_record s p) L.srow; took = L.took; made = L.made; landed = L.landed ++ (p ∷ []) })
  good_lands p backed lets =
      let x = lands_first p backed lets in
      let r = as_record s p in
      let tk = TakesOf d sw r L.srow g.sbytes (omega arith) lets in
      let state = L.srow.state in
      let ahead : Times sw (c.mark L.crow.state) (d.mark state) (p ∷ x.0) =
      subst (λ xs. Times sw (c.mark L.crow.state) (d.mark state) xs) x.2 g.times in
      let most : d.mark (take_of d sw r L.srow).0 ≤ p.time =
      dl.take_mark_bound state sw
      p.time p.amount p.time tk tk.past_mark tk.past_watermark (le_refl p.time) in
      record {
        waits = x.0;
        cbytes = g.cbytes;
        sbytes = dl.take_sound state sw p.time p.amount tk;
        line = line_lands p L.made L.landed g.waits x.0 L.crow.pending L.crow.next x.1 x.2 g.line;
        names = g.names;
        spotted = record {
          remembered =
              subst (λ ns. Remembers d sw (taken_row d sw r L.srow) ns) (sym (map-++ (name_at s) L.landed (p ∷ []))) (remembers_take d sw r L.srow (map (name_at s) L.landed) (dl.take_mark_rises state sw p.time p.amount tk) g.spotted.remembered);
          landed =
              λ n m. subst (λ ns. Mem n ns) (sym (map-++ (name_at s) L.landed (p ∷ []))) (elim (taken_names d sw r L.srow n m) [
                | inl k ↦ mem_left n (map (name_at s) L.landed) (name_at s p ∷ []) (g.spotted.landed n k)
                | inr e ↦ subst (λ y. Mem y (map (name_at s) L.landed ++ (name_at s p ∷ []))) (sym e) (mem_last (name_at s p) (map (name_at s) L.landed))
              ]);
        };
        times =
            times_land p x.0 g.waits sw (c.mark L.crow.state) (d.mark state) (d.mark (take_of d sw r L.srow).0) x.2 most g.times;
        due = g.due;
      }

  good_clears
      : (p : Production) (rest : List Production)
      → L.crow.pending ≡ p ∷ rest → Mem p.serial (map serial_of L.landed)
      → Good c d s cw sw (record { crow = cleared_row L.crow; srow = L.srow; took = L.took; made = L.made; landed = L.landed })
  good_clears p rest head acked =
      let gone : drop 1 L.crow.pending ≡ g.waits =
      ap (λ xs. drop 1 xs) head ∙
      (line_clears p L.made L.landed g.waits rest L.crow.pending L.crow.next head acked g.line).0 in
      record {
        waits = g.waits;
        cbytes = g.cbytes;
        sbytes = g.sbytes;
        line =
            subst (λ xs. Line L.made L.landed g.waits xs L.crow.next) (sym gone) (line_cleared L.made L.landed g.waits L.crow.pending L.crow.next g.line);
        names = record { once = g.names.once; remembered = g.names.remembered };
        spotted = g.spotted;
        times = g.times;
        due = g.due;
      }

  good_spot_fires
      : (t : ℕ)
      → d.due L.srow.state ≡ Some t → t ≤ sw
      → Good c d s cw sw (record { crow = L.crow; srow = fired_row d sw L.srow; took = L.took; made = L.made; landed = L.landed })
  good_spot_fires t is-due reached =
      let f = spot_fires_at t is-due reached in
      let state = L.srow.state in
      let after = d.mark (d.fire state).0 in
      let most : (b : ℕ) → d.mark state ≤ b → sw ≤ b → after ≤ b = λ b m h. dl.fire_mark_bound state sw t b f m (omega arith) in
      record {
        waits = g.waits;
        cbytes = g.cbytes;
        sbytes = dl.fire_sound state sw t f;
        line = g.line;
        names = g.names;
        spotted = record {
          remembered =
              remembers_step d sw (d.fire state) L.srow (map (name_at s) L.landed) (dl.fire_mark_rises state sw t f) g.spotted.remembered;
          landed =
              λ n m. g.spotted.landed n (kept_mem n (λ x. leb (floor_of d sw (d.fire state).0) x.time) L.srow.names m);
        };
        times = record {
          rise = g.times.rise;
          marked = g.times.marked;
          passed = g.times.passed;
          spotted = λ p m. most p.time (g.times.spotted p m) (g.times.passed p m);
          bound = most (max (c.mark L.crow.state) sw) g.times.bound (omega arith);
          last = g.times.last;
        };
        due = g.due;
      }

  good_spot_clears : Good c d s cw sw (record { crow = L.crow; srow = cleared_row L.srow; took = L.took; made = L.made; landed = L.landed })
  good_spot_clears = record {
    waits = g.waits;
    cbytes = g.cbytes;
    sbytes = g.sbytes;
    line = g.line;
    names = g.names;
    spotted = record { remembered = g.spotted.remembered; landed = g.spotted.landed };
    times = g.times;
    due = g.due;
  }

  pub good_step
      : (link : List Message) (L' : Lane)
      → ((p : Production) → Mem (Produced s p) link → Backed (λ q. L) (Produced s p))
      → ((n : ℕ) → Mem (Acknowledged s n) link → Backed (λ q. L) (Acknowledged s n)) → Step c d s cw sw link L L'
      → Good c d s cw sw L'
  good_step link L' out back (takes r lets) = good_takes r lets
  good_step link L' out back (fires t due reached) = good_fires t due reached
  good_step link L' out back (lands p m lets) = good_lands p (out p m) lets
  good_step link L' out back (clears p rest head m) = good_clears p rest head (back p.serial m)
  good_step link L' out back (spot_fires t due reached) = good_spot_fires t due reached
  good_step link L' out back spot_clears = good_spot_clears
