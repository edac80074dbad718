-- Each call that writes at the spotter is a move, or none. Assumes nothing.
use Rattle.std.proofs.Common.{◌≡◌, ℕ, ◌<◌, Bool, true, false, cond, ◌&&◌, ◌||◌, eqb, ltb, leb, ◌⊎◌, List, [], ◌∷◌, ◌++◌, Some, None, Option, sym, refl, ap, ◌∙◌, subst, inl, inr, append-nil, arith}
use Rattle.std.proofs.lemmas.Bool.{cond_both, leb-true, leb-false, ltb-true, eq-eqb, ne_eqb, or_cases, both_ways}
use Rattle.model.specs.Computation.{Computation}
use Rattle.model.specs.Limits.{stops}
use Rattle.model.specs.Power.{commit_answer, renewed}
use Rattle.model.specs.Row.{Row}
use Rattle.model.specs.declared.answer.Answer.{Answer}
use Rattle.model.specs.declared.answer.Answer.TheVariants.{OutOfRange, Off, Nothing, NotOldest}
use Rattle.model.specs.declared.record.Message.{Message}
use Rattle.model.specs.declared.record.Message.TheVariants.{Produced, Acknowledged}
use Rattle.model.specs.declared.record.Production.{Production}
use Rattle.law.specs.Lists.{Mem}
use Rattle.law.specs.Node.{Free, Keeps, with_row, wrote, commit_row, commit_watermark, hand_in, raise, fire, fire_due, fire_as, clear, clear_oldest}
use Rattle.law.specs.Pair.{Kits, Pair, at_spotter, arrives, as_record, reply, low_watermark}
use Rattle.model.specs.Answers.{is_done, is_seen}
use Rattle.model.specs.Row.{cleared_row, room_for_one}
use Rattle.law.specs.Rows.{considered, take_of, taken_row, fired_row, stepped, is_oldest}
use Rattle.law.specs.Run.{Event, lands, other, taken, made, landed}
use Rattle.law.specs.Stops.{earliest}
use Rattle.law.proofs.Best.{earliest_due, low_tells}
use Rattle.law.proofs.Judged.{considered_plain, considered_lets, considered_stop, considered_seen, refused_wrote, commit_wrote, commit_unseen, done_renewed}
use Rattle.law.proofs.Lists.{mem_split, mem_last}
use Rattle.law.proofs.Moves.{Step, News, Linked, Move, still, stop, passes}
use Rattle.law.proofs.Next.{lane_of, world_of, grown, next_world, lane_path, row_at, row_off, took_none, same_grown}
use Rattle.law.proofs.World.{Lane, World}

-- word goes back only after done and after seen
reply_mem : (s n : ℕ) (a : Answer) (m : Message) → Mem m (reply s n a) → (m ≡ Acknowledged s n) × ((is_done a || is_seen a) ≡ true)
reply_mem s n a m k = at (is_done a || is_seen a) k
  where
    at : (b : Bool) → Mem m (cond b (Acknowledged s n ∷ []) []) → (m ≡ Acknowledged s n) × (b ≡ true)
    at true (inl e) = (e, refl)
    at true (inr x) = absurd x
    at false x = absurd x

module _ (kits : Kits) (sk : Keeps kits.spotter) (es : List Event) (p : Pair) where
  abbrev c : Computation (List ℕ)
  c = kits.collector.computation

  abbrev d : Computation (List ℕ)
  d = kits.spotter.computation

  abbrev rows : ℕ → Row
  rows = p.spotter.row

  abbrev Moves : World → Type 0
  Moves W = Move c d (world_of kits es p) W

  abbrev Steps : ℕ → Lane → Type 0
  Steps s L = Step c d s p.collector.w p.spotter.w p.link (lane_of kits es p s) L

  -- the world in which the spotter's rows are these, and so much has landed
  abbrev world : (ℕ → Row) → (ℕ → List Production) → List Message → World
  world srow D link = grown kits es p p.collector.row srow [] (λ s. []) D p.collector.w p.spotter.w link

  quiet
      : (D : ℕ → List Production) (link : List Message)
      → ((s : ℕ) → D s ≡ []) → Linked (world_of kits es p) (world rows D link) → Moves (world rows D link)
  quiet D link none linked =
      still (same_grown kits es p p.collector.row rows [] (λ s. []) D p.collector.w p.spotter.w link (λ s. refl) (λ s. refl) refl (λ s. refl) none) refl refl linked

  abbrev landing : Bool → ℕ → Production → ℕ → List Production
  landing did s x q = cond (did && eqb s q) (x ∷ []) []

  -- a production was taken, or not
  landed_moves
      : (b : Bool) (s : ℕ) (x : Production) (link : List Message)
      → s < stops → Mem (Produced s x) p.link
      → Step c d s p.collector.w p.spotter.w p.link (lane_of kits es p s) (record { crow = p.collector.row s; srow = taken_row d p.spotter.w (as_record s x) (rows s); took = taken kits s es; made = made kits s es; landed = landed kits s es ++ (x ∷ []) })
      → ((m : Message) → Mem m link → Mem m p.link ⊎ ((m ≡ Acknowledged s x.serial) × (b ≡ true)))
      → Moves (world (cond b (with_row s (taken_row d p.spotter.w (as_record s x) (rows s)) rows) rows) (landing b s x) link)
  landed_moves false s x link h m step linked =
      quiet (λ q. []) link (λ q. refl) (λ y k. elim (linked y k) [
        | inl old ↦ inl old
        | inr e ↦ absurd (subst (λ b. cond b ⊥ (Unit {0})) e.1 tt)
      ])
  landed_moves true s x link h m step linked =
      let new = taken_row d p.spotter.w (as_record s x) (rows s) in
      let to : Lane =
      record { crow = p.collector.row s; srow = new; took = taken kits s es; made = made kits s es; landed = landed kits s es ++ (x ∷ []) } in
      let name = (as_record s x).name in
      let known : Mem name (with_row s new rows s).names =
      subst
      (λ (r : Row). Mem name r.names) (sym (row_at s new rows))
      (mem_last name (stepped d p.spotter.w (take_of d p.spotter.w (as_record s x) (rows s)) (rows s)).names) in
      stop s h
      (subst (λ L. Steps s L) (sym (lane_path to refl (row_at s new rows) (took_none kits es p s [] refl) (append-nil (made kits s es)) (ap (λ b. landed kits s es ++ cond b (x ∷ []) []) (eq-eqb s s refl)))) step)
      (λ q ne. lane_path (lane_of kits es p q) refl (row_off s q new rows ne) (took_none kits es p q [] refl) (append-nil (made kits q es)) (ap (λ b. landed kits q es ++ cond b (x ∷ []) []) (ne_eqb s q (λ e. ne (sym e))) ∙ append-nil (landed kits q es)))
      refl refl
      (λ y k. elim (linked y k) [
        | inl old ↦ inl old
        | inr e ↦ inr (subst (λ z. News (world (with_row s new rows) (landing true s x) link).lane z) (sym e.0) (h, (name, known, refl)))
      ])

  pub land_moves
      : (free : Free) (s : ℕ) (x : Production) (rest : List Message)
      → Mem (Produced s x) p.link → ((m : Message) → Mem m rest → Mem m p.link)
      → Moves (next_world kits es p (lands s x) (arrives s x.serial rest (hand_in kits.spotter free (as_record s x) p.spotter) p))
  land_moves free s x rest m left =
      let n = p.spotter in
      let r = as_record s x in
      let a = considered d n.power.on n.w r (rows s) in
      let new = taken_row d n.w r (rows s) in
      cond_both
      (is_done a) (commit_row kits.spotter free s new n) (a, n)
      (λ y. Moves (next_world kits es p (lands s x) (arrives s x.serial rest y p)))
      (λ e. taking (considered_stop d n.power.on n.w r (rows s) e)
      (Step.lands x m (considered_lets d n.power.on n.w r (rows s) e)))
      (λ e. refusing e)
    where
      a' : Answer
      a' = considered d p.spotter.power.on p.spotter.w (as_record s x) (rows s)

      answer : Answer
      answer = commit_answer kits.spotter.cost (free.point s) p.spotter.power

      -- word of a take goes back only if the row is new
      word
          : (y : Message)
          → Mem y (rest ++ reply s x.serial answer)
          → Mem y p.link ⊎ ((y ≡ Acknowledged s x.serial) × (renewed kits.spotter.turn p.spotter.power ≡ true))
      word y k = elim (mem_split y rest (reply s x.serial answer) k) [
        | inl old ↦ inl (left y old)
        | inr new ↦ inr ((reply_mem s x.serial answer y new).0, done (or_cases (is_done answer) (is_seen answer) (reply_mem s x.serial answer y new).1))
      ]
        where
          done : (is_done answer ≡ true) ⊎ (is_seen answer ≡ true) → renewed kits.spotter.turn p.spotter.power ≡ true
          done (inl e) = done_renewed kits.spotter sk.turn_ends (free.point s) p.spotter.power e
          done (inr e) =
              absurd (both_ways (is_seen answer) (commit_unseen kits.spotter.cost (free.point s) p.spotter.power) e)

      taking
          : s < stops
          → Steps s (record { crow = p.collector.row s; srow = taken_row d p.spotter.w (as_record s x) (rows s); took = taken kits s es; made = made kits s es; landed = landed kits s es ++ (x ∷ []) })
          → Moves (world (cond (renewed kits.spotter.turn p.spotter.power) (with_row s (taken_row d p.spotter.w (as_record s x) (rows s)) rows) rows) (landing (wrote kits.spotter p.spotter.power answer) s x) (rest ++ reply s x.serial answer))
      taking h step =
          subst (λ did. Moves (world (cond (renewed kits.spotter.turn p.spotter.power) (with_row s (taken_row d p.spotter.w (as_record s x) (rows s)) rows) rows) (landing did s x) (rest ++ reply s x.serial answer)))
          (sym (commit_wrote kits.spotter sk.turn_ends (free.point s) p.spotter.power))
          (landed_moves (renewed kits.spotter.turn p.spotter.power) s x (rest ++ reply s x.serial answer) h m step word)

      refusing
          : is_done a' ≡ false
          → Moves (world rows (landing (wrote kits.spotter p.spotter.power a') s x) (rest ++ reply s x.serial a'))
      refusing e =
          quiet (landing (wrote kits.spotter p.spotter.power a') s x) (rest ++ reply s x.serial a')
          (λ q. ap (λ b. landing b s x q) (refused_wrote kits.spotter p.spotter.power a' e (considered_plain d p.spotter.power.on p.spotter.w (as_record s x) (rows s))))
          (λ y k. elim (mem_split y rest (reply s x.serial a') k) [
            | inl old ↦ inl (left y old)
            | inr new ↦ inr (known y (reply_mem s x.serial a' y new))
          ])
        where
          seen : (is_done a' ≡ true) ⊎ (is_seen a' ≡ true) → is_seen a' ≡ true
          seen (inl t) = absurd (both_ways (is_done a') e t)
          seen (inr t) = t

          known : (y : Message) → (y ≡ Acknowledged s x.serial) × ((is_done a' || is_seen a') ≡ true) → News (lane_of kits es p) y
          known y f =
              let k =
              considered_seen d
              p.spotter.power.on p.spotter.w (as_record s x) (rows s)
              (seen (or_cases (is_done a') (is_seen a') f.1)) in
              subst (λ z. News (lane_of kits es p) z) (sym f.0) (k.0, ((as_record s x).name, k.1, refl))

  -- a row of the spotter was written without any landing, or not
  written
      : (b : Bool) (s : ℕ) (new : Row)
      → s < stops
      → Steps s (record { crow = p.collector.row s; srow = new; took = taken kits s es; made = made kits s es; landed = landed kits s es })
      → Moves (world (cond b (with_row s new rows) rows) (λ q. []) p.link)
  written false s new h step = quiet (λ q. []) p.link (λ q. refl) (λ y k. inl k)
  written true s new h step =
      let to : Lane =
      record { crow = p.collector.row s; srow = new; took = taken kits s es; made = made kits s es; landed = landed kits s es } in
      stop s h
      (subst (λ L. Steps s L) (sym (lane_path to refl (row_at s new rows) (took_none kits es p s [] refl) (append-nil (made kits s es)) (append-nil (landed kits s es)))) step)
      (λ q ne. lane_path (lane_of kits es p q) refl (row_off s q new rows ne) (took_none kits es p q [] refl) (append-nil (made kits q es)) (append-nil (landed kits q es)))
      refl refl (λ y k. inl k)

  none : Moves (world rows (λ q. []) p.link)
  none = quiet (λ q. []) p.link (λ q. refl) (λ y k. inl k)

  fire_due_moves
      : (free : Free) (o : Option (ℕ × ℕ))
      → earliest d rows ≡ o → Moves (next_world kits es p other (at_spotter (fire_due kits.spotter free o p.spotter) p))
  fire_due_moves free None e = none
  fire_due_moves free (Some x) e =
      let found = earliest_due d rows x e in
      let n = p.spotter in
      cond_both
      (leb x.1 n.w) (fire_as kits.spotter free x.0 (room_for_one (rows x.0)) n) (Nothing, n)
      (λ y. Moves (next_world kits es p other (at_spotter y p)))
      (λ le. cond_both (is_done (room_for_one (rows x.0))) (commit_row kits.spotter free x.0 (fired_row d n.w (rows x.0)) n) (room_for_one (rows x.0), n) (λ y. Moves (next_world kits es p other (at_spotter y p)))
      (λ _. written (renewed kits.spotter.turn n.power) x.0 (fired_row d n.w (rows x.0)) found.0 (Step.spot_fires x.1 found.1 (leb-true x.1 n.w le)))
      (λ _. none))
      (λ _. none)

  pub spot_fire_moves : (free : Free) → Moves (next_world kits es p other (at_spotter (fire kits.spotter free p.spotter) p))
  spot_fire_moves free =
      cond_both
      p.spotter.power.on (fire_due kits.spotter free (earliest d rows) p.spotter) (Off, p.spotter)
      (λ y. Moves (next_world kits es p other (at_spotter y p)))
      (λ _. fire_due_moves free (earliest d rows) refl)
      (λ _. none)

  pub mark_done_moves
      : (free : Free) (s serial : ℕ)
      → Moves (next_world kits es p other (at_spotter (clear kits.spotter free s serial p.spotter) p))
  mark_done_moves free s serial =
      let n = p.spotter in
      cond_both
      (ltb s stops) (cond n.power.on (clear_oldest kits.spotter free s serial n) (Off, n)) (OutOfRange, n)
      (λ y. Moves (next_world kits es p other (at_spotter y p)))
      (λ h. cond_both n.power.on (clear_oldest kits.spotter free s serial n) (Off, n) (λ y. Moves (next_world kits es p other (at_spotter y p)))
      (λ _. cond_both (is_oldest serial (rows s).pending) (commit_row kits.spotter free s (cleared_row (rows s)) n) (NotOldest, n) (λ y. Moves (next_world kits es p other (at_spotter y p)))
      (λ _. written (renewed kits.spotter.turn n.power) s (cleared_row (rows s)) (ltb-true s stops h) Step.spot_clears)
      (λ _. none))
      (λ _. none))
      (λ _. none)

  -- the spotter's watermark was written, or not
  passed
      : (b : Bool)
      → p.spotter.w < low_watermark kits p
      → Moves (grown kits es p p.collector.row rows [] (λ s. []) (λ s. []) p.collector.w (cond b (low_watermark kits p) p.spotter.w) p.link)
  passed false above = none
  passed true above =
      let l = low_tells c p.collector.row p.collector.w (low_watermark kits p) (omega arith) in
      passes
      (same_grown kits es p p.collector.row rows [] (λ s. []) (λ s. []) p.collector.w (low_watermark kits p) p.link (λ s. refl) (λ s. refl) refl (λ s. refl) (λ s. refl)) refl
      (omega arith)
      (record { watermark = l.watermark; pending = l.pending; dues = l.dues }) (λ m k. inl k)

  pub pass_moves
      : (free : Free)
      → Moves (next_world kits es p other (at_spotter (raise kits.spotter free (low_watermark kits p) p.spotter) p))
  pass_moves free =
      let n = p.spotter in
      cond_both
      (leb (low_watermark kits p) n.w) (Nothing, n) (commit_watermark kits.spotter free (low_watermark kits p) n)
      (λ y. Moves (next_world kits es p other (at_spotter y p)))
      (λ _. none)
      (λ above. passed (renewed kits.spotter.turn n.power) (leb-false (low_watermark kits p) n.w above))
