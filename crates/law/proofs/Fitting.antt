-- Rows fit their format after every call. Assumes nothing.
use Rattle.std.proofs.Common.{◌≡◌, ℕ, ◌<◌, ◌≤◌, Bool, true, false, cond, ◌&&◌, eqb, ltb, leb, List, [], ◌∷◌, ◌++◌, length, drop, Some, None, filter, Option, sym, refl, ◌∙◌, subst, inl, inr, le_trans, le_refl, arith, length-append}
use mathlib.Core.Bool.{false≢true}
use Rattle.std.proofs.lemmas.Bool.{cond_both, leb-true, leb-false}
use Rattle.model.specs.Computation.{Computation, Lawful, Fires, StateBytes, Emits}
use Rattle.model.specs.Limits.{last_time, last_serial, most_pending, most_names, stops, page_bytes}
use Rattle.model.specs.Power.{renewed, restart_answer, restarted}
use Rattle.model.specs.Row.{Row, first_row}
use Rattle.model.specs.declared.answer.Answer.{Answer}
use Rattle.model.specs.declared.answer.Answer.TheVariants.{Done, OutOfRange, Off, Nothing, NotOldest, Full, NoRoom, Over}
use Rattle.model.specs.declared.record.Name.{Name}
use Rattle.model.specs.declared.record.Production.{Production}
use Rattle.model.specs.declared.record.Record.{Record}
use Rattle.law.specs.Fits.{NameFits, ProductionFits, RowFits, NodeFits, EveryRowFits}
use Rattle.law.specs.Lists.{Mem}
use Rattle.law.specs.Node.{Kit, Node, Free, Keeps, with_row, commit_row, commit_watermark, hand_in, raise, advance, fire, fire_due, fire_as, clear, clear_oldest, restart}
use Rattle.model.specs.Answers.{is_done}
use Rattle.model.specs.Names.{kept}
use Rattle.model.specs.Row.{cleared_row, room_for_one}
use Rattle.law.specs.Rows.{floor_of, take_of, taken_row, fired_row, stepped, produced, next_after, room_for, room_to_take, admitted, considered, is_oldest}
use Rattle.law.specs.Run.{NewNode}
use Rattle.law.specs.Stops.{earliest, pending_stops}
use Rattle.law.proofs.Best.{earliest_due}
use Rattle.law.proofs.Judged.{considered_lets}
use Rattle.law.proofs.Lists.{kept_mem, mem_split, mem_snoc}
use Rattle.law.proofs.Rows.{TakesOf}
use Rattle.law.proofs.Runs.{zero_bytes, first_mark}

kept_short : {X : Type 0} (test : X → Bool) (xs : List X) → length (filter test xs) ≤ length xs
kept_short test [] = omega arith
kept_short {X} test (x ∷ xs) =
    let below = kept_short test xs in
    cond_both (test x) (x ∷ filter test xs) (filter test xs) (λ (ys : List X). length ys ≤ length (x ∷ xs)) (λ _. omega arith) (λ _. omega arith)

mem_drop_one : {X : Type 0} (x : X) (xs : List X) → Mem x (drop 1 xs) → Mem x xs
mem_drop_one x [] m = m
mem_drop_one x (y ∷ xs) m = inr m

drop_one_short : {X : Type 0} (xs : List X) → length (drop 1 xs) ≤ length xs
drop_one_short [] = omega arith
drop_one_short (x ∷ xs) = omega arith

-- what an answer of done tells of the room in a row
room_one : (row : Row) → is_done (room_for_one row) ≡ true → (length row.pending < most_pending) × (row.next < last_serial)
room_one row e = at (leb most_pending (length row.pending)) refl (leb last_serial row.next) refl e
  where
    at
        : (a : Bool)
        → leb most_pending (length row.pending) ≡ a
        → (b : Bool)
        → leb last_serial row.next ≡ b
        → is_done (cond a NoRoom (cond b Over Done)) ≡ true
        → (length row.pending < most_pending) × (row.next < last_serial)
    at true p b q k = absurd (false≢true k)
    at false p true q k = absurd (false≢true k)
    at false p false q k = (leb-false most_pending (length row.pending) p, leb-false last_serial row.next q)

-- there is room for what is emitted
abbrev Room : Option (ℕ × ℕ) → Row → Type 0
Room None row = Unit {0}
Room (Some e) row = (length row.pending < most_pending) × (row.next < last_serial)

room_for_lem : (e : Option (ℕ × ℕ)) (row : Row) → is_done (room_for e row) ≡ true → Room e row
room_for_lem None row k = tt
room_for_lem (Some e) row k = room_one row k

room_either : (e : Option (ℕ × ℕ)) (row : Row) → is_done (room_for_one row) ≡ true → Room e row
room_either None row k = tt
room_either (Some e) row k = room_one row k

room_to_take_lem
    : (c : Computation (List ℕ)) (on : Bool) (w : ℕ) (r : Record) (row : Row)
    → is_done (considered c on w r row) ≡ true
    → (length (kept (floor_of c w (take_of c w r row).0) row.names) < most_names) × Room (take_of c w r row).1 row
room_to_take_lem c on w r row e = room (at (is_done (admitted c on w r row)) refl e)
  where
    names : List Name
    names = kept (floor_of c w (take_of c w r row).0) row.names

    at
        : (b : Bool)
        → is_done (admitted c on w r row) ≡ b
        → is_done (cond b (room_to_take c w r row) (admitted c on w r row)) ≡ true
        → is_done (room_to_take c w r row) ≡ true
    at true t k = k
    at false t k = absurd (false≢true (sym t ∙ k))

    room : is_done (room_to_take c w r row) ≡ true → (length names < most_names) × Room (take_of c w r row).1 row
    room k = by (leb most_names (length names)) refl k
      where
        by
            : (b : Bool)
            → leb most_names (length names) ≡ b
            → is_done (cond b Full (room_for (take_of c w r row).1 row)) ≡ true
            → (length names < most_names) × Room (take_of c w r row).1 row
        by true t j = absurd (false≢true j)
        by false t j = (leb-false most_names (length names) t, room_for_lem (take_of c w r row).1 row j)

module _ (c : Computation (List ℕ)) (row : Row) (f : RowFits c row) where
  next_fits : (e : Option (ℕ × ℕ)) → Room e row → next_after e row.next ≤ last_serial
  next_fits None room = f.next
  next_fits (Some e) room = omega (arith, room.1)

  pending_few : (e : Option (ℕ × ℕ)) → Room e row → length (row.pending ++ produced e row.next) ≤ most_pending
  pending_few None room = let long = length-append row.pending [] in let few = f.few_pending in omega arith
  pending_few (Some e) room =
      let x : Production = record { serial = row.next; time = e.0; amount = e.1 } in
      let long = length-append row.pending (x ∷ []) in
      omega (arith, room.0)

  produced_fit
      : (e : Option (ℕ × ℕ)) (start after : ℕ)
      → after ≤ last_time
      → ((x : ℕ × ℕ) → e ≡ Some x → Emits start after x)
      → (p : Production)
      → Mem p (produced e row.next)
      → ProductionFits p
  produced_fit None start after last emits p m = absurd m
  produced_fit (Some x) start after last emits p (inr m) = absurd m
  produced_fit (Some x) start after last emits p (inl e) =
      let k = emits x refl in
      let stamped = k.stamped in
      let few = k.few in
      let next = f.next in
      subst ProductionFits (sym e) (record { serial = next; time = omega arith; amount = few })

  -- a step that the row has room for
  stepped_fits
      : (w start : ℕ) (step : List ℕ × Option (ℕ × ℕ))
      → StateBytes step.0
      → c.mark step.0 ≤ last_time
      → Room step.1 row
      → ((x : ℕ × ℕ) → step.1 ≡ Some x → Emits start (c.mark step.0) x)
      → RowFits c (stepped c w step row)
  stepped_fits w start step bytes last room emits =
      let short = kept_short (λ (n : Name). leb (floor_of c w step.0) n.time) row.names in
      let names = f.few_names in
      record {
        next = next_fits step.1 room;
        state = bytes;
        mark = last;
        few_pending = pending_few step.1 room;
        few_names = omega arith;
        pending = λ p m. elim (mem_split p row.pending (produced step.1 row.next) m) [
          | inl k ↦ f.pending p k
          | inr k ↦ produced_fit step.1 start (c.mark step.0) last emits p k
        ];
        names = λ n m. f.names n (kept_mem n (λ x. leb (floor_of c w step.0) x.time) row.names m);
      }

  cleared_fits : RowFits c (cleared_row row)
  cleared_fits =
      let short = drop_one_short row.pending in
      let few = f.few_pending in
      record {
        next = f.next;
        state = f.state;
        mark = f.mark;
        few_pending = omega arith;
        few_names = f.few_names;
        pending = λ p m. f.pending p (mem_drop_one p row.pending m);
        names = f.names;
      }

named_fits
    : (c : Computation (List ℕ)) (row : Row) (n : Name)
    → length row.names < most_names
    → NameFits n
    → RowFits c row
    → RowFits c (record { next = row.next; state = row.state; pending = row.pending; names = row.names ++ (n ∷ []) })
named_fits c row n few fits f =
    let long = length-append row.names (n ∷ []) in
    record {
      next = f.next;
      state = f.state;
      mark = f.mark;
      few_pending = f.few_pending;
      few_names = omega arith;
      pending = f.pending;
      names = λ x m. elim (mem_snoc x n row.names m) [ inl k ↦ f.names x k | inr e ↦ subst NameFits (sym e) fits ];
    }

module _ (kit : Kit) (keeps : Keeps kit) where
  abbrev c : Computation (List ℕ)
  c = kit.computation

  abbrev law : Lawful kit.computation StateBytes
  law = keeps.lawful

  new_fits : (n : Node) → NewNode n → NodeFits kit n
  new_fits n new =
      let w = new.watermark in
      let zero-mark = first_mark kit keeps in
      let first : RowFits c first_row = record {
        next = omega arith;
        state = zero_bytes;
        mark = omega arith;
        few_pending = omega arith;
        few_names = omega arith;
        pending = λ p m. absurd m;
        names = λ x m. absurd m;
      } in
      record { watermark = omega arith; rows = λ s. subst (λ r. RowFits c r) (sym (new.rows s)) first }

  module _ (free : Free) (n : Node) (f : NodeFits kit n) where
    commit_fits : (s : ℕ) (new : Row) → RowFits c new → NodeFits kit (commit_row kit free s new n).1
    commit_fits s new fits = record { watermark = f.watermark; rows = λ q. at (renewed kit.turn n.power) q }
      where
        at : (b : Bool) (q : ℕ) → RowFits c (cond b (with_row s new n.row) n.row q)
        at true q = cond_both (eqb q s) new (n.row q) (λ r. RowFits c r) (λ _. fits) (λ _. f.rows q)
        at false q = f.rows q

    taken_fits
        : (r : Record)
        → NameFits r.name
        → is_done (considered c n.power.on n.w r (n.row r.stop)) ≡ true
        → RowFits c (taken_row c n.w r (n.row r.stop))
    taken_fits r name e =
        let row = n.row r.stop in
        let old = f.rows r.stop in
        let tk = TakesOf c n.w r row old.state f.watermark (considered_lets c n.power.on n.w r row e) in
        let room = room_to_take_lem c n.power.on n.w r row e in
        let step = take_of c n.w r row in
        let most : c.mark step.0 ≤ r.name.time =
        law.take_mark_bound row.state n.w r.name.time r.amount r.name.time tk tk.past_mark tk.past_watermark (le_refl r.name.time) in
        named_fits c (stepped c n.w step row) r.name room.0 name
        (stepped_fits c row old n.w r.name.time step (law.take_sound row.state n.w r.name.time r.amount tk) (le_trans most tk.time) room.1
        (λ x k. law.take_emits row.state n.w r.name.time r.amount x tk k))

    hand_in_fits : (r : Record) → NameFits r.name → NodeFits kit (hand_in kit free r n).1
    hand_in_fits r name =
        let a = considered c n.power.on n.w r (n.row r.stop) in
        cond_both (is_done a) (commit_row kit free r.stop (taken_row c n.w r (n.row r.stop)) n) (a, n) (λ x. NodeFits kit x.1)
        (λ e. commit_fits r.stop (taken_row c n.w r (n.row r.stop)) (taken_fits r name e))
        (λ _. f)

    raise_fits : (t : ℕ) → t ≤ last_time → NodeFits kit (raise kit free t n).1
    raise_fits t last =
        cond_both (leb t n.w) (Nothing, n) (commit_watermark kit free t n) (λ x. NodeFits kit x.1)
        (λ _. f)
        (λ _. record {
          watermark = cond_both (renewed kit.turn n.power) t n.w (λ (x : ℕ). x ≤ last_time) (λ _. last) (λ _. f.watermark);
          rows = f.rows;
        })

    advance_fits : (t : ℕ) → NodeFits kit (advance kit free t n).1
    advance_fits t =
        cond_both (leb t last_time) (cond n.power.on (raise kit free t n) (Off, n)) (OutOfRange, n) (λ x. NodeFits kit x.1)
        (λ last. cond_both n.power.on (raise kit free t n) (Off, n) (λ x. NodeFits kit x.1) (λ _. raise_fits t (leb-true t last_time last)) (λ _. f))
        (λ _. f)

    fired_fits
        : (s t : ℕ)
        → c.due (n.row s).state ≡ Some t
        → t ≤ n.w
        → is_done (room_for_one (n.row s)) ≡ true
        → RowFits c (fired_row c n.w (n.row s))
    fired_fits s t due reached e =
        let row = n.row s in
        let old = f.rows s in
        let fr : Fires c StateBytes row.state n.w t =
        record { sound = old.state; watermark = f.watermark; due = due; reached = reached } in
        let last : t ≤ last_time = le_trans reached f.watermark in
        stepped_fits c row old n.w t (c.fire row.state) (law.fire_sound row.state n.w t fr)
        (law.fire_mark_bound row.state n.w t last_time fr old.mark last)
        (room_either (c.fire row.state).1 row e)
        (λ x k. law.fire_emits row.state n.w t x fr k)

    fire_due_fits : (o : Option (ℕ × ℕ)) → earliest c n.row ≡ o → NodeFits kit (fire_due kit free o n).1
    fire_due_fits None e = f
    fire_due_fits (Some x) e =
        let room = room_for_one (n.row x.0) in
        let new = fired_row c n.w (n.row x.0) in
        cond_both (leb x.1 n.w) (fire_as kit free x.0 room n) (Nothing, n) (λ y. NodeFits kit y.1)
        (λ le. cond_both (is_done room) (commit_row kit free x.0 new n) (room, n) (λ y. NodeFits kit y.1)
        (λ k. commit_fits x.0 new (fired_fits x.0 x.1 (earliest_due c n.row x e).1 (leb-true x.1 n.w le) k))
        (λ _. f))
        (λ _. f)

    fire_fits : NodeFits kit (fire kit free n).1
    fire_fits =
        cond_both n.power.on (fire_due kit free (earliest c n.row) n) (Off, n) (λ y. NodeFits kit y.1)
        (λ _. fire_due_fits (earliest c n.row) refl)
        (λ _. f)

    clear_fits : (s serial : ℕ) → NodeFits kit (clear kit free s serial n).1
    clear_fits s serial =
        cond_both (ltb s stops) (cond n.power.on (clear_oldest kit free s serial n) (Off, n)) (OutOfRange, n) (λ y. NodeFits kit y.1)
        (λ _. cond_both n.power.on (clear_oldest kit free s serial n) (Off, n) (λ y. NodeFits kit y.1)
        (λ _. cond_both (is_oldest serial (n.row s).pending) (commit_row kit free s (cleared_row (n.row s)) n) (NotOldest, n) (λ y. NodeFits kit y.1)
        (λ _. commit_fits s (cleared_row (n.row s)) (cleared_fits c (n.row s) (f.rows s)))
        (λ _. f))
        (λ _. f))
        (λ _. f)

    restart_fits : (left tear : ℕ) (junk : List ℕ) → NodeFits kit (restart free left tear junk n).1
    restart_fits left tear junk =
        cond_both {A = Answer × Node} (leb tear 2 && eqb (length junk) page_bytes)
        (restart_answer left free.wake n.power, record { row = n.row; w = n.w; power = restarted left tear free.owed n.power; queue = pending_stops n.row })
        (OutOfRange, n) (λ y. NodeFits kit y.1)
        (λ _. record { watermark = f.watermark; rows = f.rows })
        (λ _. f)

pub every_row_fits : EveryRowFits Keeps
every_row_fits kit keeps = record {
  new = new_fits kit keeps;
  hands_in = λ free n r f name. hand_in_fits kit keeps free n f r name;
  raises = λ free n t f last. raise_fits kit keeps free n f t last;
  advances = λ free n t f. advance_fits kit keeps free n f t;
  fires = λ free n f. fire_fits kit keeps free n f;
  clears = λ free n s serial f. clear_fits kit keeps free n f s serial;
  restarts = λ free n left tear junk f. restart_fits kit keeps free n f left tear junk;
}
