-- Each call that writes at the collector is a move, or none. Assumes nothing.
use Rattle.std.proofs.Common.{◌≡◌, ℕ, ◌<◌, ◌≤◌, Bool, true, false, cond, eqb, ltb, leb, List, [], ◌∷◌, ◌++◌, length, drop, Some, None, filter, Option, sym, refl, ap, ◌∙◌, subst, inl, append-nil, arith}
use Rattle.std.proofs.lemmas.Bool.{cond_both, leb-true, leb-false, ltb-true, eqb-true}
use Rattle.model.specs.Computation.{Computation}
use Rattle.model.specs.Limits.{last_time, stops}
use Rattle.model.specs.Power.{commit_answer, renewed}
use Rattle.model.specs.Row.{Row}
use Rattle.model.specs.declared.answer.Answer.{Answer}
use Rattle.model.specs.declared.answer.Answer.TheVariants.{OutOfRange, Off, Nothing, NotOldest}
use Rattle.model.specs.declared.record.Message.{Message}
use Rattle.model.specs.declared.record.Message.TheVariants.{Acknowledged}
use Rattle.model.specs.declared.record.Production.{Production}
use Rattle.model.specs.declared.record.Record.{Record}
use Rattle.law.specs.Lists.{Mem}
use Rattle.law.specs.Node.{Free, Keeps, with_row, wrote, commit_row, commit_watermark, hand_in, raise, advance, fire, fire_due, fire_as, clear, clear_oldest}
use Rattle.law.specs.Pair.{Kits, Pair, at_collector, with_link}
use Rattle.model.specs.Answers.{is_done, is_cut}
use Rattle.model.specs.Row.{cleared_row, room_for_one}
use Rattle.law.specs.Rows.{considered, take_of, taken_row, fired_row, produced, is_oldest}
use Rattle.law.specs.Run.{Event, hands, fires, other, all_taken, taken, made, landed}
use Rattle.law.specs.Stops.{earliest}
use Rattle.law.proofs.Best.{earliest_due}
use Rattle.law.proofs.Judged.{considered_plain, considered_lets, considered_stop, refused_wrote, commit_wrote, fire_room_plain}
use Rattle.law.proofs.Moves.{Step, Move, still, stop, advances}
use Rattle.law.proofs.Next.{lane_of, world_of, grown, next_world, lane_path, row_at, row_off, took_at_lem, took_off, took_none, none_added, same_grown, drop_length, drop_all}
use Rattle.law.proofs.World.{Lane, World}

-- the production that stands first among the pending is the one that is meant
oldest_is
    : (n : ℕ) (ps : List Production)
    → is_oldest n ps ≡ true → (p : Production) × (rest : List Production) × (ps ≡ p ∷ rest) × (p.serial ≡ n)
oldest_is n [] e = absurd (subst (λ b. cond b ⊥ (Unit {0})) e tt)
oldest_is n (p ∷ ps) e = (p, ps, refl, eqb-true p.serial n e)

module _ (kits : Kits) (ck : Keeps kits.collector) (es : List Event) (p : Pair) where
  abbrev c : Computation (List ℕ)
  c = kits.collector.computation

  abbrev d : Computation (List ℕ)
  d = kits.spotter.computation

  abbrev rows : ℕ → Row
  rows = p.collector.row

  abbrev pub Moves : World → Type 0
  Moves W = Move c d (world_of kits es p) W

  abbrev Steps : ℕ → Lane → Type 0
  Steps s L = Step c d s p.collector.w p.spotter.w p.link (lane_of kits es p s) L

  abbrev Left : List Message → Type 0
  Left link = (m : Message) → Mem m link → Mem m p.link

  -- the world in which the collector's rows are these, and so much was taken and made
  abbrev world : (ℕ → Row) → List Record → (ℕ → List Production) → List Message → World
  world crow T M link = grown kits es p crow p.spotter.row T M (λ s. []) p.collector.w p.spotter.w link

  abbrev took_at : ℕ → List Record → List Record
  took_at s T = filter (λ r. eqb r.stop s) (all_taken kits es ++ T)

  abbrev grew : (ℕ → Row) → ℕ → List Production
  grew crow s = drop (length (rows s).pending) (crow s).pending

  -- nothing was written
  pub quiet
      : (T : List Record) (M : ℕ → List Production) (link : List Message)
      → T ≡ [] → ((s : ℕ) → M s ≡ []) → Left link → Moves (world rows T M link)
  quiet T M link t m left =
      still
      (same_grown kits es p rows p.spotter.row T M (λ s. []) p.collector.w p.spotter.w link (λ s. refl) (λ s. refl) t m (λ s. refl)) refl refl
      (λ x k. inl (left x k))

  refused
      : (a : Answer)
      → is_done a ≡ false → is_cut a ≡ false → (M : ℕ → List Production) (s : ℕ)
      → cond (wrote kits.collector p.collector.power a) (M s) [] ≡ []
  refused a e f M s = ap (λ b. cond b (M s) []) (refused_wrote kits.collector p.collector.power a e f)

  -- a stop's row was written, and its productions have grown
  grows_at
      : (s : ℕ) (new : Row) (T : List Record) (x : List Production) (tk : List Record)
      → s < stops → new.pending ≡ (rows s).pending ++ x
      → Steps s (record { crow = new; srow = p.spotter.row s; took = tk; made = made kits s es ++ x; landed = landed kits s es })
      → took_at s T ≡ tk → ((q : ℕ) → (q ≡ s → ⊥) → took_at q T ≡ taken kits q es)
      → Moves (world (with_row s new rows) T (grew (with_row s new rows)) p.link)
  grows_at s new T x tk h grows step here there =
      let add : grew (with_row s new rows) s ≡ x =
      ap (λ (r : Row). drop (length (rows s).pending) r.pending) (row_at s new rows) ∙
      (ap (λ xs. drop (length (rows s).pending) xs) grows ∙ drop_length (rows s).pending x) in
      let to : Lane =
      record { crow = new; srow = p.spotter.row s; took = tk; made = made kits s es ++ x; landed = landed kits s es } in
      stop s h
      (subst (λ L. Steps s L) (sym (lane_path to (row_at s new rows) refl here (ap (λ xs. made kits s es ++ xs) add) (append-nil (landed kits s es)))) step)
      (λ q ne. lane_path (lane_of kits es p q) (row_off s q new rows ne) refl (there q ne)
      (none_added kits es p (made kits q es) (grew (with_row s new rows) q) (ap (λ (r : Row). drop (length (rows q).pending) r.pending) (row_off s q new rows ne) ∙ drop_all (rows q).pending))
      (append-nil (landed kits q es)))
      refl refl (λ m k. inl k)

  -- the answer of a commit, whether it wrote, and the rows that it leaves
  abbrev did : Free → ℕ → Bool
  did free s =
      wrote kits.collector p.collector.power (commit_answer kits.collector.cost (free.point s) p.collector.power)

  abbrev rows_by : Bool → ℕ → Row → ℕ → Row
  rows_by b s new = cond b (with_row s new rows) rows

  -- the same by a commit, whose row is new or not
  commit_grows
      : (free : Free) (s : ℕ) (new : Row) (T : Bool → List Record) (x : List Production) (tk : List Record)
      → T false ≡ []
      → s < stops
      → new.pending ≡ (rows s).pending ++ x
      → Steps s (record { crow = new; srow = p.spotter.row s; took = tk; made = made kits s es ++ x; landed = landed kits s es })
      → took_at s (T true) ≡ tk
      → ((q : ℕ) → (q ≡ s → ⊥) → took_at q (T true) ≡ taken kits q es)
      → let crow = rows_by (renewed kits.collector.turn p.collector.power) s new in
      Moves (world crow (T (did free s)) (λ q. cond (did free s) (grew crow q) []) p.link)
  commit_grows free s new T x tk none h grows step here there =
      subst
      (λ b. Moves (world (rows_by b s new) (T (did free s)) (λ q. cond (did free s) (grew (rows_by b s new) q) []) p.link))
      (commit_wrote kits.collector ck.turn_ends (free.point s) p.collector.power)
      (at (did free s))
    where
      at : (b : Bool) → Moves (world (rows_by b s new) (T b) (λ q. cond b (grew (rows_by b s new) q) []) p.link)
      at true = grows_at s new (T true) x tk h grows step here there
      at false = quiet (T false) (λ q. []) p.link none (λ q. refl) (λ m k. k)

  pub hand_in_moves
      : (free : Free) (r : Record)
      → Moves (next_world kits es p (hands r) (at_collector (hand_in kits.collector free r p.collector) p))
  hand_in_moves free r =
      let n = p.collector in
      let row = rows r.stop in
      let a = considered c n.power.on n.w r row in
      cond_both
      (is_done a) (commit_row kits.collector free r.stop (taken_row c n.w r row) n) (a, n)
      (λ x. Moves (next_world kits es p (hands r) (at_collector x p)))
      (λ e. commit_grows free r.stop (taken_row c n.w r row) (λ b. cond b (r ∷ []) []) (produced (take_of c n.w r row).1 row.next) (taken kits r.stop es ++ (r ∷ []))
      refl (considered_stop c n.power.on n.w r row e) refl
      (Step.takes r (considered_lets c n.power.on n.w r row e))
      (took_at_lem kits es p r) (λ q ne. took_off kits es p q r ne))
      (λ e. let f = considered_plain c n.power.on n.w r row in
      quiet
      (cond (wrote kits.collector n.power a) (r ∷ []) [])
      (λ s. cond (wrote kits.collector n.power a) (grew rows s) []) p.link
      (ap (λ b. cond b (r ∷ []) []) (refused_wrote kits.collector n.power a e f)) (refused a e f (grew rows)) (λ m k. k))

  -- at a stop where something is due
  fire_at
      : (free : Free) (s t : ℕ)
      → s < stops → c.due (rows s).state ≡ Some t → t ≤ p.collector.w
      → Moves (next_world kits es p fires (at_collector (fire_as kits.collector free s (room_for_one (rows s)) p.collector) p))
  fire_at free s t h due reached =
      let n = p.collector in
      cond_both
      (is_done (room_for_one (rows s))) (commit_row kits.collector free s (fired_row c n.w (rows s)) n) (room_for_one (rows s), n)
      (λ x. Moves (next_world kits es p fires (at_collector x p)))
      (λ e. commit_grows free s (fired_row c n.w (rows s)) (λ b. []) (produced (c.fire (rows s).state).1 (rows s).next) (taken kits s es)
      refl h refl (Step.fires t due reached) (took_none kits es p s [] refl) (λ q ne. took_none kits es p q [] refl))
      (λ e. quiet [] (λ q. cond (wrote kits.collector n.power (room_for_one (rows s))) (grew rows q) []) p.link refl (refused (room_for_one (rows s)) e (fire_room_plain (rows s)) (grew rows)) (λ m k. k))

  fire_due_moves
      : (free : Free) (o : Option (ℕ × ℕ))
      → earliest c rows ≡ o → Moves (next_world kits es p fires (at_collector (fire_due kits.collector free o p.collector) p))
  fire_due_moves free None e = quiet [] (λ s. []) p.link refl (λ s. refl) (λ m k. k)
  fire_due_moves free (Some x) e =
      let found = earliest_due c rows x e in
      let n = p.collector in
      cond_both
      (leb x.1 n.w) (fire_as kits.collector free x.0 (room_for_one (rows x.0)) n) (Nothing, n)
      (λ y. Moves (next_world kits es p fires (at_collector y p)))
      (λ le. fire_at free x.0 x.1 found.0 found.1 (leb-true x.1 n.w le))
      (λ _. quiet [] (λ s. []) p.link refl (λ s. refl) (λ m k. k))

  pub fire_moves : (free : Free) → Moves (next_world kits es p fires (at_collector (fire kits.collector free p.collector) p))
  fire_moves free =
      let n = p.collector in
      cond_both
      n.power.on (fire_due kits.collector free (earliest c rows) n) (Off, n)
      (λ y. Moves (next_world kits es p fires (at_collector y p)))
      (λ _. fire_due_moves free (earliest c rows) refl)
      (λ _. quiet [] (λ s. []) p.link refl (λ s. refl) (λ m k. k))

  -- the watermark was written, or not
  raised
      : (b : Bool) (t : ℕ)
      → p.collector.w < t → t ≤ last_time
      → Moves (grown kits es p rows p.spotter.row [] (λ s. []) (λ s. []) (cond b t p.collector.w) p.spotter.w p.link)
  raised true t above last =
      advances
      (same_grown kits es p rows p.spotter.row [] (λ s. []) (λ s. []) t p.spotter.w p.link (λ s. refl) (λ s. refl) refl (λ s. refl) (λ s. refl))
      (omega arith) last refl (λ m k. inl k)
  raised false t above last = quiet [] (λ s. []) p.link refl (λ s. refl) (λ m k. k)

  pub advance_moves
      : (free : Free) (t : ℕ)
      → Moves (next_world kits es p other (at_collector (advance kits.collector free t p.collector) p))
  advance_moves free t =
      let n = p.collector in
      let none = quiet [] (λ s. []) p.link refl (λ s. refl) (λ m k. k) in
      cond_both
      (leb t last_time) (cond n.power.on (raise kits.collector free t n) (Off, n)) (OutOfRange, n)
      (λ y. Moves (next_world kits es p other (at_collector y p)))
      (λ last. cond_both n.power.on (raise kits.collector free t n) (Off, n) (λ y. Moves (next_world kits es p other (at_collector y p)))
      (λ _. cond_both (leb t n.w) (Nothing, n) (commit_watermark kits.collector free t n) (λ y. Moves (next_world kits es p other (at_collector y p)))
      (λ _. none)
      (λ above. raised (renewed kits.collector.turn n.power) t (leb-false t n.w above) (leb-true t last_time last)))
      (λ _. none))
      (λ _. none)

  -- an acknowledged production was cleared, or not
  cleared
      : (b : Bool) (s : ℕ) (x : Production) (rest : List Production) (link : List Message)
      → s < stops → (rows s).pending ≡ x ∷ rest → Mem (Acknowledged s x.serial) p.link → Left link
      → Moves (world (cond b (with_row s (cleared_row (rows s)) rows) rows) [] (λ q. []) link)
  cleared false s x rest link h head m left = quiet [] (λ q. []) link refl (λ q. refl) left
  cleared true s x rest link h head m left =
      let to : Lane =
      record { crow = cleared_row (rows s); srow = p.spotter.row s; took = taken kits s es; made = made kits s es; landed = landed kits s es } in
      stop s h
      (subst (λ L. Steps s L) (sym (lane_path to (row_at s (cleared_row (rows s)) rows) refl (took_none kits es p s [] refl) (append-nil (made kits s es)) (append-nil (landed kits s es)))) (Step.clears x rest head m))
      (λ q ne. lane_path (lane_of kits es p q) (row_off s q (cleared_row (rows s)) rows ne) refl (took_none kits es p q [] refl) (append-nil (made kits q es)) (append-nil (landed kits q es)))
      refl refl (λ y k. inl (left y k))

  pub acknowledge_moves
      : (free : Free) (s serial : ℕ) (link : List Message)
      → Mem (Acknowledged s serial) p.link → Left link
      → Moves (next_world kits es p other (at_collector (clear kits.collector free s serial p.collector) (with_link link p)))
  acknowledge_moves free s serial link m left =
      let n = p.collector in
      let none = quiet [] (λ q. []) link refl (λ q. refl) left in
      cond_both
      (ltb s stops) (cond n.power.on (clear_oldest kits.collector free s serial n) (Off, n)) (OutOfRange, n)
      (λ y. Moves (next_world kits es p other (at_collector y (with_link link p))))
      (λ h. cond_both n.power.on (clear_oldest kits.collector free s serial n) (Off, n) (λ y. Moves (next_world kits es p other (at_collector y (with_link link p))))
      (λ _. cond_both (is_oldest serial (rows s).pending) (commit_row kits.collector free s (cleared_row (rows s)) n) (NotOldest, n) (λ y. Moves (next_world kits es p other (at_collector y (with_link link p))))
      (λ e. let o = oldest_is serial (rows s).pending e in
      cleared
      (renewed kits.collector.turn n.power) s o.0 o.1 link (ltb-true s stops h) o.2
      (subst (λ k. Mem (Acknowledged s k) p.link) (sym o.3) m) left)
      (λ _. none))
      (λ _. none))
      (λ _. none)
