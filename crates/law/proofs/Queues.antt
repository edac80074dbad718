-- While a node is on, its queue holds exactly the stops with something pending, each once. Assumes nothing.
use Rattle.std.proofs.Common.{◌≡◌, ℕ, zero, suc, ◌+◌, ◌<◌, Bool, true, false, cond, not, ◌&&◌, ◌||◌, eqb, ltb, leb, ◌⊎◌, List, [], ◌∷◌, ◌++◌, length, Some, None, filter, Option, sym, refl, ap, ◌∙◌, subst, inl, inr, append-nil, arith}
use mathlib.Core.Bool.{false≢true}
use Rattle.std.proofs.lemmas.Bool.{cond_both, leb-true, ltb-true, eqb-true, eqb-false, eq-eqb, ne_eqb, le-leb, or_left, or_right, cases_eq, not-true, not_from_false}
use Rattle.model.specs.Limits.{last_time, stops, page_bytes}
use Rattle.model.specs.Power.{renewed, restart_answer, restarted}
use Rattle.model.specs.Row.{Row}
use Rattle.model.specs.declared.answer.Answer.{Answer}
use Rattle.model.specs.declared.answer.Answer.TheVariants.{OutOfRange, Off, Nothing, NotOldest}
use Rattle.model.specs.declared.record.Production.{Production}
use Rattle.model.specs.declared.record.Record.{Record}
use Rattle.law.specs.Law.{Queued}
use Rattle.law.specs.Lists.{Mem, Apart}
use Rattle.law.specs.Node.{Kit, Node, Free, Keeps, stands, requeued, with_row, commit_row, commit_watermark, hand_in, raise, advance, fire, fire_due, fire_as, clear, clear_oldest, restart}
use Rattle.law.specs.Pair.{turned, turned_node}
use Rattle.model.specs.Answers.{is_done}
use Rattle.model.specs.Row.{cleared_row, room_for_one}
use Rattle.law.specs.Rows.{considered, taken_row, fired_row, is_oldest}
use Rattle.law.specs.Stops.{listed, pending_below, pending_stops, earliest}
use Rattle.law.proofs.Best.{earliest_due, less}
use Rattle.law.proofs.Judged.{considered_stop, considered_on}
use Rattle.law.proofs.Lists.{mem_left, mem_last, mem_snoc, apart_snoc, kept_mem, mem_kept, kept_passes, apart_kept}
use Rattle.law.proofs.Next.{row_at, row_off}

pub stands_mem : (s : ℕ) (q : List ℕ) → stands s q ≡ true → Mem s q
stands_mem s [] e = absurd (false≢true e)
stands_mem s (x ∷ q) e = at (eqb x s) refl e (stands_mem s q)
  where
    at : (b : Bool) → eqb x s ≡ b → (b || stands s q) ≡ true → (stands s q ≡ true → Mem s q) → Mem s (x ∷ q)
    at true t h below = inl (sym (eqb-true x s t))
    at false t h below = inr (below h)

pub mem_stands : (s : ℕ) (q : List ℕ) → Mem s q → stands s q ≡ true
mem_stands s [] m = absurd m
mem_stands s (x ∷ q) (inl e) = or_left (eqb x s) (stands s q) (eq-eqb x s (sym e))
mem_stands s (x ∷ q) (inr m) = or_right (eqb x s) (stands s q) (mem_stands s q m)

-- the queue of these rows is right
pub record Right (rows : ℕ → Row) (queue : List ℕ) : Type 0 where
  pub once : Apart queue
  pub pending : (s : ℕ) → Mem s queue → (s < stops) × ((rows s).pending ≡ [] → ⊥)
  pub all : (s : ℕ) → s < stops → ((rows s).pending ≡ [] → ⊥) → Mem s queue

cons_nil : (p : Production) (ps : List Production) → p ∷ ps ≡ [] → ⊥
cons_nil p ps e = let z : ◌≡◌ {A = ℕ} 0 1 = cc in omega arith

-- a stop's row is written, and the stop joins, stays or leaves
module _ (s : ℕ) (h : s < stops) (new : Row) (rows : ℕ → Row) (queue : List ℕ) (r : Right rows queue) where
  at_new : (q : ℕ) → q ≡ s → (with_row s new rows q).pending ≡ new.pending
  at_new q e = ap (λ (x : Row). x.pending) (ap (λ k. with_row s new rows k) e ∙ row_at s new rows)

  at_old : (q : ℕ) → (q ≡ s → ⊥) → (with_row s new rows q).pending ≡ (rows q).pending
  at_old q ne = ap (λ (x : Row). x.pending) (row_off s q new rows ne)

  leaves : new.pending ≡ [] → Right (with_row s new rows) (filter (λ q. not (eqb q s)) queue)
  leaves none = record {
    once = apart_kept (λ q. not (eqb q s)) queue r.once;
    pending =
        λ q m. was q (r.pending q (kept_mem q (λ x. not (eqb x s)) queue m)) (eqb-false q s (not-true (eqb q s) (kept_passes q (λ x. not (eqb x s)) queue m)));
    all = λ q k some. is q k some (cases_eq q s);
  }
    where
      was
          : (q : ℕ)
          → (q < stops) × ((rows q).pending ≡ [] → ⊥) → (q ≡ s → ⊥) → (q < stops) × ((with_row s new rows q).pending ≡ [] → ⊥)
      was q x ne = (x.0, λ e. x.1 (sym (at_old q ne) ∙ e))

      is
          : (q : ℕ)
          → q < stops → ((with_row s new rows q).pending ≡ [] → ⊥) → (q ≡ s) ⊎ (q ≡ s → ⊥)
          → Mem q (filter (λ x. not (eqb x s)) queue)
      is q k some (inl e) = absurd (some (at_new q e ∙ none))
      is q k some (inr ne) =
          mem_kept q
          (λ x. not (eqb x s)) queue (r.all q k (λ e. some (at_old q ne ∙ e))) (not_from_false (eqb q s) (ne_eqb q s ne))

  -- a queue that holds the stop, and else what it held before
  joins
      : (new.pending ≡ [] → ⊥)
      → (queue' : List ℕ) → Apart queue' → Mem s queue' → ((q : ℕ) → Mem q queue → Mem q queue')
      → ((q : ℕ) → Mem q queue' → Mem q queue ⊎ (q ≡ s)) → Right (with_row s new rows) queue'
  joins some queue' once here more less' = record {
    once = once;
    pending = λ q m. was q (cases_eq q s) (less' q m);
    all = λ q k f. is q k f (cases_eq q s);
  }
    where
      was : (q : ℕ) → (q ≡ s) ⊎ (q ≡ s → ⊥) → Mem q queue ⊎ (q ≡ s) → (q < stops) × ((with_row s new rows q).pending ≡ [] → ⊥)
      was q (inl e) m = (subst (λ k. k < stops) (sym e) h, λ k. some (sym (at_new q e) ∙ k))
      was q (inr ne) (inl m) = let x = r.pending q m in (x.0, λ e. x.1 (sym (at_old q ne) ∙ e))
      was q (inr ne) (inr e) = absurd (ne e)

      is : (q : ℕ) → q < stops → ((with_row s new rows q).pending ≡ [] → ⊥) → (q ≡ s) ⊎ (q ≡ s → ⊥) → Mem q queue'
      is q k f (inl e) = subst (λ x. Mem x queue') (sym e) here
      is q k f (inr ne) = more q (r.all q k (λ e. f (at_old q ne ∙ e)))

  pub requeued_right : (ps : List Production) → new.pending ≡ ps → Right (with_row s new rows) (requeued s ps queue)
  requeued_right [] e = leaves e
  requeued_right (p ∷ ps) e = at (stands s queue) refl
    where
      some : new.pending ≡ [] → ⊥
      some k = cons_nil p ps (sym e ∙ k)

      at : (b : Bool) → stands s queue ≡ b → Right (with_row s new rows) (cond b queue (queue ++ (s ∷ [])))
      at true t = joins some queue r.once (stands_mem s queue t) (λ q m. m) (λ q m. inl m)
      at false t =
          joins some
          (queue ++ (s ∷ [])) (apart_snoc s queue r.once (λ m. absurd (false≢true (sym t ∙ mem_stands s queue m))))
          (mem_last s queue)
          (λ q m. mem_left q queue (s ∷ []) m) (λ q m. mem_snoc q s queue m)

-- the stops with something pending, rising, are a right queue
pub record Listed (rows : ℕ → Row) (n : ℕ) (queue : List ℕ) : Type 0 where
  pub once : Apart queue
  pub pending : (s : ℕ) → Mem s queue → (s < n) × ((rows s).pending ≡ [] → ⊥)
  pub all : (s : ℕ) → s < n → ((rows s).pending ≡ [] → ⊥) → Mem s queue

listed_more
    : (rows : ℕ → Row) (n : ℕ) (queue : List ℕ) (ps : List Production)
    → (rows n).pending ≡ ps → Listed rows n queue → Listed rows (suc n) (queue ++ listed n ps)
listed_more rows n queue [] e l = record {
  once = subst (λ q. Apart q) (sym (append-nil queue)) l.once;
  pending = λ s m. let x = l.pending s (subst (λ q. Mem s q) (append-nil queue) m) in (omega (arith, x.0), x.1);
  all = λ s k some. subst (λ q. Mem s q) (sym (append-nil queue)) (elim (cases_eq s n) [
    | inl same ↦ absurd (some (ap (λ i. (rows i).pending) same ∙ e))
    | inr ne ↦ l.all s (less s n k ne) some
  ]);
}
listed_more rows n queue (p ∷ ps) e l = record {
  once = apart_snoc n queue l.once (λ m. fresh (l.pending n m).0);
  pending = λ s m. elim (mem_snoc s n queue m) [
    | inl k ↦ old s (l.pending s k)
    | inr same ↦ (new s same, λ f. cons_nil p ps (sym e ∙ (sym (ap (λ i. (rows i).pending) same) ∙ f)))
  ];
  all = λ s k some. elim (cases_eq s n) [
    | inl same ↦ subst (λ x. Mem x (queue ++ (n ∷ []))) (sym same) (mem_last n queue)
    | inr ne ↦ mem_left s queue (n ∷ []) (l.all s (less s n k ne) some)
  ];
}
  where
    fresh : n < n → ⊥
    fresh k = omega arith

    old : (s : ℕ) → (s < n) × ((rows s).pending ≡ [] → ⊥) → (s < suc n) × ((rows s).pending ≡ [] → ⊥)
    old s x = (omega (arith, x.0), x.1)

    new : (s : ℕ) → s ≡ n → s < suc n
    new s same = omega arith

pub pending_listed : (rows : ℕ → Row) (n : ℕ) → Listed rows n (pending_below rows n)
unfolding pending_below
pending_listed rows zero = record { once = tt; pending = λ s m. absurd m; all = λ s k. absurd (none s k) }
  where
    none : (s : ℕ) → s < 0 → ⊥
    none s k = omega arith
pending_listed rows (suc n) = listed_more rows n (pending_below rows n) (rows n).pending refl (pending_listed rows n)

pub pending_right : (rows : ℕ → Row) → Right rows (pending_stops rows)
pending_right rows = let l = pending_listed rows stops in record { once = l.once; pending = l.pending; all = l.all }

-- the head goes to the back
turned_mem : (q : ℕ) (queue : List ℕ) → Mem q (turned queue) → Mem q queue
turned_mem q [] m = m
turned_mem q (s ∷ queue) m = elim (mem_snoc q s queue m) [ inl k ↦ inr k | inr e ↦ inl e ]

mem_turned : (q : ℕ) (queue : List ℕ) → Mem q queue → Mem q (turned queue)
mem_turned q [] m = m
mem_turned q (s ∷ queue) (inl e) = subst (λ x. Mem x (queue ++ (s ∷ []))) (sym e) (mem_last s queue)
mem_turned q (s ∷ queue) (inr m) = mem_left q queue (s ∷ []) m

turned_apart : (queue : List ℕ) → Apart queue → Apart (turned queue)
turned_apart [] a = a
turned_apart (s ∷ queue) a = apart_snoc s queue a.1 a.0

-- while the node is on
abbrev pub Held : Node → Type 0
Held n = n.power.on ≡ true → Queued n

pub right_queued : (n : Node) → Right n.row n.queue → Queued n
right_queued n r = record { once = r.once; pending = r.pending; all = r.all }

pub queued_right : (n : Node) → Queued n → Right n.row n.queue
queued_right n q = record { once = q.once; pending = q.pending; all = q.all }

pub turned_held : (n : Node) → Held n → Held (turned_node n)
turned_held n held on =
    let q = held on in
    record {
      once = turned_apart n.queue q.once;
      pending = λ s m. q.pending s (turned_mem s n.queue m);
      all = λ s k some. mem_turned s n.queue (q.all s k some);
    }

module _ (kit : Kit) (keeps : Keeps kit) (free : Free) (n : Node) (held : Held n) where
  -- a commit that leaves the node on has written
  pub commit_held : (s : ℕ) (new : Row) → s < stops → n.power.on ≡ true → Held (commit_row kit free s new n).1
  commit_held s new h on done =
      let wrote : renewed kit.turn n.power ≡ true =
      or_left
      (leb kit.turn n.power.left) (eqb (n.power.left + 1) kit.turn && eqb n.power.tear 1)
      (le-leb kit.turn n.power.left (omega (arith, leb-true kit.cost n.power.left done, keeps.turn_ends))) in
      right_queued (commit_row kit free s new n).1
      (subst (λ b. Right (cond b (with_row s new n.row) n.row) (requeued s new.pending n.queue)) (sym wrote)
      (requeued_right s h new n.row n.queue (queued_right n (held on)) new.pending refl))

  pub hand_in_held : (r : Record) → Held (hand_in kit free r n).1
  hand_in_held r =
      let a = considered kit.computation n.power.on n.w r (n.row r.stop) in
      cond_both
      (is_done a) (commit_row kit free r.stop (taken_row kit.computation n.w r (n.row r.stop)) n) (a, n)
      (λ x. Held x.1)
      (λ e. commit_held r.stop (taken_row kit.computation n.w r (n.row r.stop)) (considered_stop kit.computation n.power.on n.w r (n.row r.stop) e) (considered_on kit.computation n.power.on n.w r (n.row r.stop) e))
      (λ _. held)

  pub raise_held : (t : ℕ) → n.power.on ≡ true → Held (raise kit free t n).1
  raise_held t on =
      cond_both (leb t n.w) (Nothing, n) (commit_watermark kit free t n) (λ x. Held x.1)
      (λ _. held)
      (λ _ done. let q = held on in record { once = q.once; pending = q.pending; all = q.all })

  pub advance_held : (t : ℕ) → Held (advance kit free t n).1
  advance_held t =
      cond_both (leb t last_time) (cond n.power.on (raise kit free t n) (Off, n)) (OutOfRange, n) (λ x. Held x.1)
      (λ _. cond_both n.power.on (raise kit free t n) (Off, n) (λ x. Held x.1) (λ on. raise_held t on) (λ _. held))
      (λ _. held)

  fire_due_held
      : n.power.on ≡ true → (o : Option (ℕ × ℕ)) → earliest kit.computation n.row ≡ o → Held (fire_due kit free o n).1
  fire_due_held on None e = held
  fire_due_held on (Some x) e =
      let room = room_for_one (n.row x.0) in
      let new = fired_row kit.computation n.w (n.row x.0) in
      cond_both (leb x.1 n.w) (fire_as kit free x.0 room n) (Nothing, n) (λ y. Held y.1)
      (λ _. cond_both (is_done room) (commit_row kit free x.0 new n) (room, n) (λ y. Held y.1)
      (λ _. commit_held x.0 new (earliest_due kit.computation n.row x e).0 on)
      (λ _. held))
      (λ _. held)

  pub fire_held : Held (fire kit free n).1
  fire_held =
      cond_both n.power.on (fire_due kit free (earliest kit.computation n.row) n) (Off, n) (λ y. Held y.1)
      (λ on. fire_due_held on (earliest kit.computation n.row) refl)
      (λ _. held)

  pub clear_held : (s serial : ℕ) → Held (clear kit free s serial n).1
  clear_held s serial =
      cond_both (ltb s stops) (cond n.power.on (clear_oldest kit free s serial n) (Off, n)) (OutOfRange, n) (λ y. Held y.1)
      (λ h. cond_both n.power.on (clear_oldest kit free s serial n) (Off, n) (λ y. Held y.1)
      (λ on. cond_both (is_oldest serial (n.row s).pending) (commit_row kit free s (cleared_row (n.row s)) n) (NotOldest, n) (λ y. Held y.1)
      (λ _. commit_held s (cleared_row (n.row s)) (ltb-true s stops h) on)
      (λ _. held))
      (λ _. held))
      (λ _. held)

  pub restart_held : (left tear : ℕ) (junk : List ℕ) → Held (restart free left tear junk n).1
  restart_held left tear junk =
      cond_both {A = Answer × Node} (leb tear 2 && eqb (length junk) page_bytes)
      (restart_answer left free.wake n.power, record { row = n.row; w = n.w; power = restarted left tear free.owed n.power; queue = pending_stops n.row })
      (OutOfRange, n) (λ y. Held y.1)
      (λ _ on. let r = pending_right n.row in record { once = r.once; pending = r.pending; all = r.all })
      (λ _. held)
