-- What an answer tells of the tests that led to it. Assumes nothing.
use Rattle.std.proofs.Common.{◌≡◌, ℕ, ◌+◌, ◌<◌, ◌≤◌, Bool, true, false, cond, ◌&&◌, ◌||◌, eqb, ltb, leb, List, [], ◌∷◌, length, Some, None, Option, sym, refl, ap, ◌∙◌, subst, inl, inr, arith}
use mathlib.Core.Bool.{false≢true}
use Rattle.std.proofs.lemmas.Bool.{cond_both, and_parts, leb-true, ltb-true, ltb-false, eqb-true, eq-eqb, le-leb, or_left, or_right, and_from, both_ways}
use Rattle.model.specs.Admission.{admission}
use Rattle.model.specs.Computation.{Computation}
use Rattle.model.specs.Limits.{last_time, last_serial, most_amount, most_pending, most_names, stops, in_range}
use Rattle.model.specs.Power.{Power, commit_answer, renewed}
use Rattle.model.specs.Row.{Row}
use Rattle.model.specs.declared.answer.Answer.{Answer}
use Rattle.model.specs.declared.answer.Answer.TheVariants.{Done, Over, Full, NoRoom, Cut}
use Rattle.model.specs.declared.answer.CutPoint.{CutPoint}
use Rattle.model.specs.declared.answer.Verdict.{Verdict}
use Rattle.model.specs.declared.answer.Verdict.TheVariants.{TooEarly, TooMuch, Fine}
use Rattle.model.specs.declared.record.Name.{Name}
use Rattle.model.specs.declared.record.Record.{Record}
use Rattle.law.specs.Lists.{Mem}
use Rattle.law.specs.Node.{Kit, wrote}
use Rattle.model.specs.Answers.{is_done, is_seen, is_cut}
use Rattle.model.specs.Names.{same_name, kept}
use Rattle.model.specs.Row.{room_for_one}
use Rattle.law.specs.Rows.{seen, floor_of, take_of, room_for, admitted, room_to_take, considered}
use Rattle.law.proofs.Moves.{Lets}

-- a row that can produce, or not, is no cut, and does not say seen
room_one_plain : (row : Row) → (is_cut (room_for_one row) ≡ false) × (is_seen (room_for_one row) ≡ false)
room_one_plain row =
    cond_both
    (leb most_pending (length row.pending)) NoRoom (cond (leb last_serial row.next) Over Done)
    (λ a. (is_cut a ≡ false) × (is_seen a ≡ false))
    (λ _. (refl, refl))
    (λ _. cond_both (leb last_serial row.next) Over Done (λ a. (is_cut a ≡ false) × (is_seen a ≡ false)) (λ _. (refl, refl)) (λ _. (refl, refl)))

room_for_plain : (e : Option (ℕ × ℕ)) (row : Row) → (is_cut (room_for e row) ≡ false) × (is_seen (room_for e row) ≡ false)
room_for_plain None row = (refl, refl)
room_for_plain (Some e) row = room_one_plain row

room_plain
    : (c : Computation (List ℕ)) (w : ℕ) (r : Record) (row : Row)
    → (is_cut (room_to_take c w r row) ≡ false) × (is_seen (room_to_take c w r row) ≡ false)
room_plain c w r row =
    cond_both
    (leb most_names (length (kept (floor_of c w (take_of c w r row).0) row.names))) Full (room_for (take_of c w r row).1 row)
    (λ a. (is_cut a ≡ false) × (is_seen a ≡ false))
    (λ _. (refl, refl))
    (λ _. room_for_plain (take_of c w r row).1 row)

pub fire_room_plain : (row : Row) → is_cut (room_for_one row) ≡ false
fire_room_plain row = (room_one_plain row).0

admission_plain : (ranged on late known : Bool) (v : Verdict) → is_cut (admission ranged on late known v) ≡ false
admission_plain false on late known v = refl
admission_plain true false late known v = refl
admission_plain true true true known v = refl
admission_plain true true false true v = refl
admission_plain true true false false TooEarly = refl
admission_plain true true false false TooMuch = refl
admission_plain true true false false Fine = refl

pub considered_plain
    : (c : Computation (List ℕ)) (on : Bool) (w : ℕ) (r : Record) (row : Row)
    → is_cut (considered c on w r row) ≡ false
considered_plain c on w r row =
    cond_both (is_done (admitted c on w r row)) (room_to_take c w r row) (admitted c on w r row) (λ a. is_cut a ≡ false)
    (λ _. (room_plain c w r row).0)
    (λ _. admission_plain (in_range r) on (ltb r.name.time (floor_of c w row.state)) (seen r.name row.names) (c.verdict row.state w r.name.time r.amount))

-- the tests that a record passes to be let in
pub record Passed (ranged on late known : Bool) (v : Verdict) : Type 0 where
  pub is_in_range : ranged ≡ true
  pub is_on : on ≡ true
  pub in_time : late ≡ false
  pub unseen : known ≡ false
  pub fine : v ≡ Fine

admission_done
    : (ranged on late known : Bool) (v : Verdict)
    → is_done (admission ranged on late known v) ≡ true → Passed ranged on late known v
admission_done false on late known v e = absurd (false≢true e)
admission_done true false late known v e = absurd (false≢true e)
admission_done true true true known v e = absurd (false≢true e)
admission_done true true false true v e = absurd (false≢true e)
admission_done true true false false TooEarly e = absurd (false≢true e)
admission_done true true false false TooMuch e = absurd (false≢true e)
admission_done true true false false Fine e = record { is_in_range = refl; is_on = refl; in_time = refl; unseen = refl; fine = refl }

admission_seen
    : (ranged on late known : Bool) (v : Verdict)
    → is_seen (admission ranged on late known v) ≡ true → (ranged ≡ true) × (known ≡ true)
admission_seen false on late known v e = absurd (false≢true e)
admission_seen true false late known v e = absurd (false≢true e)
admission_seen true true true known v e = absurd (false≢true e)
admission_seen true true false true v e = (refl, refl)
admission_seen true true false false TooEarly e = absurd (false≢true e)
admission_seen true true false false TooMuch e = absurd (false≢true e)
admission_seen true true false false Fine e = absurd (false≢true e)

-- a name stands among the names exactly if it was seen
same_name_lem : (m n : Name) → same_name m n ≡ true → m ≡ n
same_name_lem m n e =
    let p = and_parts (eqb m.serial n.serial) (eqb m.time n.time && eqb m.sender n.sender) e in
    let q = and_parts (eqb m.time n.time) (eqb m.sender n.sender) p.1 in
    λ i. record { sender = eqb-true m.sender n.sender q.1 i; serial = eqb-true m.serial n.serial p.0 i; time = eqb-true m.time n.time q.0 i }

name_same : (m n : Name) → m ≡ n → same_name m n ≡ true
name_same m n e =
    and_from (eqb m.serial n.serial) (eqb m.time n.time && eqb m.sender n.sender) (eq-eqb m.serial n.serial (ap (λ (x : Name). x.serial) e))
    (and_from (eqb m.time n.time) (eqb m.sender n.sender) (eq-eqb m.time n.time (ap (λ (x : Name). x.time) e)) (eq-eqb m.sender n.sender (ap (λ (x : Name). x.sender) e)))

pub mem_seen : (n : Name) (names : List Name) → Mem n names → seen n names ≡ true
mem_seen n [] m = absurd m
mem_seen n (x ∷ names) (inl e) = or_left (same_name x n) (seen n names) (name_same x n (sym e))
mem_seen n (x ∷ names) (inr m) = or_right (same_name x n) (seen n names) (mem_seen n names m)

pub seen_mem : (n : Name) (names : List Name) → seen n names ≡ true → Mem n names
seen_mem n [] e = absurd (false≢true e)
seen_mem n (x ∷ names) e = at (same_name x n) refl e (seen_mem n names)
  where
    at : (b : Bool) → same_name x n ≡ b → (b || seen n names) ≡ true → (seen n names ≡ true → Mem n names) → Mem n (x ∷ names)
    at true t h below = inl (sym (same_name_lem x n t))
    at false t h below = inr (below h)

module _ (c : Computation (List ℕ)) (on : Bool) (w : ℕ) (r : Record) (row : Row) where
  late : Bool
  late = ltb r.name.time (floor_of c w row.state)

  says : Verdict
  says = c.verdict row.state w r.name.time r.amount

  considered_done : is_done (considered c on w r row) ≡ true → Passed (in_range r) on late (seen r.name row.names) says
  unfolding late says
  considered_done e =
      admission_done
      (in_range r) on (ltb r.name.time (floor_of c w row.state)) (seen r.name row.names)
      (c.verdict row.state w r.name.time r.amount) (at (is_done (admitted c on w r row)) refl e)
    where
      at
          : (b : Bool)
          → is_done (admitted c on w r row) ≡ b → is_done (cond b (room_to_take c w r row) (admitted c on w r row)) ≡ true
          → is_done (admitted c on w r row) ≡ true
      at true t h = t
      at false t h = h

  pub considered_stop : is_done (considered c on w r row) ≡ true → r.stop < stops
  unfolding late says
  considered_stop e =
      let rest = leb r.name.time last_time && (ltb 0 r.amount && leb r.amount most_amount) in
      ltb-true r.stop stops (and_parts (ltb r.stop stops) rest (considered_done e).is_in_range).0

  pub considered_on : is_done (considered c on w r row) ≡ true → on ≡ true
  considered_on e = (considered_done e).is_on

  pub considered_lets : is_done (considered c on w r row) ≡ true → Lets c w r row
  unfolding late says
  considered_lets e =
      let p = considered_done e in
      let sizes = ltb 0 r.amount && leb r.amount most_amount in
      let a = and_parts (ltb r.stop stops) (leb r.name.time last_time && sizes) p.is_in_range in
      let b = and_parts (leb r.name.time last_time) sizes a.1 in
      let f = and_parts (ltb 0 r.amount) (leb r.amount most_amount) b.1 in
      record {
        time = leb-true r.name.time last_time b.0;
        some = ltb-true 0 r.amount f.0;
        few = leb-true r.amount most_amount f.1;
        floor = ltb-false r.name.time (floor_of c w row.state) p.in_time;
        fresh = λ m. both_ways (seen r.name row.names) p.unseen (mem_seen r.name row.names m);
        fine = p.fine;
      }

  -- a record that was seen is in range, and its name stands in the row
  pub considered_seen : is_seen (considered c on w r row) ≡ true → (r.stop < stops) × Mem r.name row.names
  considered_seen e = at (is_done (admitted c on w r row)) e
    where
      from : is_seen (admitted c on w r row) ≡ true → (r.stop < stops) × Mem r.name row.names
      from h =
          let p =
          admission_seen
          (in_range r) on (ltb r.name.time (floor_of c w row.state)) (seen r.name row.names)
          (c.verdict row.state w r.name.time r.amount) h in
          let rest = leb r.name.time last_time && (ltb 0 r.amount && leb r.amount most_amount) in
          (ltb-true r.stop stops (and_parts (ltb r.stop stops) rest p.0).0, seen_mem r.name row.names p.1)

      at
          : (b : Bool)
          → is_seen (cond b (room_to_take c w r row) (admitted c on w r row)) ≡ true → (r.stop < stops) × Mem r.name row.names
      at true h = absurd (both_ways (is_seen (room_to_take c w r row)) (room_plain c w r row).1 h)
      at false h = from h

-- a refusal writes nothing; a commit writes exactly if the row is new by the store's rule
pub refused_wrote : (kit : Kit) (p : Power) (a : Answer) → is_done a ≡ false → is_cut a ≡ false → wrote kit p a ≡ false
refused_wrote kit p a e f =
    subst
    (λ b. (b || (is_cut a && renewed kit.turn p)) ≡ false) (sym e)
    (subst (λ b. (b && renewed kit.turn p) ≡ false) (sym f) refl)

pub commit_wrote
    : (kit : Kit)
    → kit.turn ≤ kit.cost → (point : CutPoint) (p : Power)
    → wrote kit p (commit_answer kit.cost point p) ≡ renewed kit.turn p
commit_wrote kit turns point p = at (leb kit.cost p.left) refl
  where
    at : (b : Bool) → leb kit.cost p.left ≡ b → wrote kit p (cond b Done (Cut point)) ≡ renewed kit.turn p
    at true e =
        sym (or_left (leb kit.turn p.left) (eqb (p.left + 1) kit.turn && eqb p.tear 1) (le-leb kit.turn p.left (omega (arith, leb-true kit.cost p.left e))))
    at false e = refl

-- a commit that is done has written
pub done_renewed
    : (kit : Kit)
    → kit.turn ≤ kit.cost → (point : CutPoint) (p : Power) → is_done (commit_answer kit.cost point p) ≡ true
    → renewed kit.turn p ≡ true
done_renewed kit turns point p e =
    sym (commit_wrote kit turns point p) ∙
    or_left (is_done (commit_answer kit.cost point p)) (is_cut (commit_answer kit.cost point p) && renewed kit.turn p) e

pub commit_unseen : (cost : ℕ) (point : CutPoint) (p : Power) → is_seen (commit_answer cost point p) ≡ false
commit_unseen cost point p = cond_both (leb cost p.left) Done (Cut point) (λ a. is_seen a ≡ false) (λ _. refl) (λ _. refl)
