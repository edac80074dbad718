-- What the calls of the law come to. Assumes nothing.
use Rattle.std.proofs.Common.{◌≡◌, ℕ, ◌+◌, ◌<◌, Bool, true, false, cond, ◌&&◌, ltb, leb, List, [], ◌∷◌, ◌++◌, length, Some, None, Option, sym, refl, ap, ◌∙◌, inl, inr, append-nil, add-one, arith}
use Rattle.std.proofs.lemmas.Bool.{cases_Bool, cond-true, cond-false, and_parts, ltb-true}
use Rattle.model.specs.Computation.{Computation}
use Rattle.model.specs.Limits.{stops, last_time, most_amount, in_range}
use Rattle.model.specs.Row.{Row}
use Rattle.model.specs.declared.answer.Answer.{Answer}
use Rattle.model.specs.declared.answer.Answer.TheVariants.{Done, OutOfRange, Off, Late, Seen, Early, Over, Full, NoRoom, Cut, Nothing, LinkFull, NoMessage, NotOldest}
use Rattle.model.specs.declared.record.Record.{Record}
use Rattle.law.specs.Node.{Node as LawNode, Kit, Free, hand_in, fire_due}
use Rattle.model.specs.Answers.{is_done}
use Rattle.model.specs.Names.{kept}
use Rattle.law.specs.Rows.{seen, floor_of, take_of, admitted, considered, room_to_take}
use Rattle.law.specs.Stops.{low_below, least_due, least_time}
use Rattle.law.proofs.Judged.{considered_lets, seen_mem}
use Rattle.steps.specs.Steps.{Took, Fired}
use Rattle.upkeep.specs.Names.{renamed}
use Rattle.upkeep.proofs.Renaming.{fell_or_not}
use Rattle.node.specs.Promises.{judged_first, due_by}

-- an answer that is not done does not say so
pub undone : (a : Answer) → (a ≡ Done → ⊥) → is_done a ≡ false
undone Done f = absurd (f refl)
undone OutOfRange f = refl
undone Off f = refl
undone Late f = refl
undone Seen f = refl
undone Early f = refl
undone Over f = refl
undone Full f = refl
undone NoRoom f = refl
undone (Cut p) f = refl
undone Nothing f = refl
undone LinkFull f = refl
undone NoMessage f = refl
undone NotOldest f = refl

-- a stop that is in range is one
pub ranged_stop : (r : Record) → in_range r ≡ true → r.stop < stops
ranged_stop r e = ltb-true r.stop stops (and_parts (ltb r.stop stops) (leb r.name.time last_time && (ltb 0 r.amount && leb r.amount most_amount)) e).0

module _ (kit : Kit) (free : Free) (r : Record) (n : LawNode) where
  -- a record that is refused changes nothing
  pub hand_in_refused : (a : Answer) → a ≡ considered kit.computation n.power.on n.w r (n.row r.stop) → (a ≡ Done → ⊥) → hand_in kit free r n ≡ (a, n)
  hand_in_refused a e not_done = cond-false _ _ _ (ap is_done (sym e) ∙ undone a not_done) ∙ ap (λ (x : Answer). (x, n)) (sym e)

  -- so does one that is refused before anything is read
  pub judged_refused : (a : Answer) → a ≡ judged_first (in_range r) n.power.on → (a ≡ Done → ⊥) → hand_in kit free r n ≡ (a, n)
  judged_refused a e not_done =
      let adm = admitted kit.computation n.power.on n.w r (n.row r.stop) in
      let same : a ≡ adm =
      elim (cases_Bool (in_range r)) [
        | inl ranged ↦
            elim (cases_Bool n.power.on) [
              | inl on ↦ absurd (not_done (e ∙ cond-true _ _ _ ranged ∙ cond-true _ _ _ on))
              | inr off ↦ e ∙ cond-true _ _ _ ranged ∙ cond-false _ _ _ off ∙ sym (cond-true _ _ _ ranged ∙ cond-false _ _ _ off)
            ]
        | inr out ↦ e ∙ cond-false _ _ _ out ∙ sym (cond-false _ _ _ out)
      ] in
      hand_in_refused a (same ∙ sym (cond-false (is_done adm) (room_to_take kit.computation n.w r (n.row r.stop)) adm (ap is_done (sym same) ∙ undone a not_done))) not_done

module _ (c : Computation (List ℕ)) (on : Bool) (w : ℕ) (r : Record) (before after : Row) (floor : ℕ) (took : Took c on w r before after floor) where
  -- the name of a record that is taken was not there
  pub took_fresh : seen r.name before.names ≡ false
  took_fresh =
      elim (cases_Bool (seen r.name before.names)) [
        | inl t ↦ absurd ((considered_lets c on w r before (ap is_done took.admitted)).fresh (seen_mem r.name before.names t))
        | inr f ↦ f
      ]

  -- its names are those that stay, and the one that came
  pub took_names
      : (fell : Option ℕ) (left had : ℕ)
      → fell ≡ cond (leb left had) (Some floor) None
      → left ≡ length after.names
      → had ≡ length before.names
      → after.names ≡ renamed fell (Some r.name) before.names
  took_names fell left had e l h =
      let new-floor : floor ≡ floor_of c w (take_of c w r before).0 = took.floor_is ∙ ap (λ (x : Row). floor_of c w x.state) took.row in
      let are : after.names ≡ kept floor before.names ++ r.name ∷ [] =
      ap (λ (x : Row). x.names) took.row ∙ ap (λ (f : ℕ). kept f before.names ++ r.name ∷ []) (sym new-floor) in
      are
      ∙ fell_or_not floor r.name before.names fell
      (e ∙ ap (λ (x : ℕ). cond (leb x had) (Some floor) None) (l ∙ ap length are) ∙ ap (λ (x : ℕ). cond (leb (length (kept floor before.names ++ r.name ∷ [])) x) (Some floor) None) h)

-- the names of a row that was fired are those that stay
pub fired_names : (c : Computation (List ℕ)) (w : ℕ) (before after : Row) (floor : ℕ) → Fired c w before after floor → after.names ≡ renamed (Some floor) None before.names
fired_names c w before after floor f =
    ap (λ (x : Row). x.names) f.row
    ∙ ap (λ (x : ℕ). kept x before.names) (sym (f.floor_is ∙ ap (λ (x : Row). floor_of c w x.state) f.row))
    ∙ sym (append-nil (kept floor before.names))

-- a due that the watermark has not reached does not fire
pub nothing_due : (kit : Kit) (free : Free) (n : LawNode) (o : Option (ℕ × ℕ)) → due_by n.w o ≡ None → fire_due kit free o n ≡ (Nothing, n)
nothing_due kit free n None e = refl
nothing_due kit free n (Some x) e =
    elim (cases_Bool (leb x.1 n.w)) [
      | inl t ↦ absurd (let f = sym e ∙ cond-true _ _ _ t in let z : ◌≡◌ {A = ℕ} 0 1 = cc in omega arith)
      | inr t ↦ cond-false _ _ _ t
    ]

-- one that it has reached does
pub some_due : (w s : ℕ) (o : Option (ℕ × ℕ)) → due_by w o ≡ Some s → (d : ℕ) × (o ≡ Some (s, d)) × (leb d w ≡ true)
some_due w s None e = absurd (let z : ◌≡◌ {A = ℕ} 0 1 = cc in omega arith)
some_due w s (Some x) e =
    elim (cases_Bool (leb x.1 w)) [
      | inl t ↦ let f : x.0 ≡ s = (let g = sym (cond-true _ _ _ t) ∙ e in cc) in (x.1, ap (λ (y : ℕ). Some (y, x.1)) f, t)
      | inr t ↦ absurd (let f = sym e ∙ cond-false _ _ _ t in let z : ◌≡◌ {A = ℕ} 0 1 = cc in omega arith)
    ]

-- the low watermark of one stop more
pub low_more : (c : Computation (List ℕ)) (rows : ℕ → Row) (w i : ℕ) → low_below c rows w (i + 1) ≡ least_due (c.due (rows i).state) (least_time (rows i).pending (low_below c rows w i))
unfolding low_below
low_more c rows w i = ap (low_below c rows w) (add-one i)

pub low_none : (c : Computation (List ℕ)) (rows : ℕ → Row) (w : ℕ) → low_below c rows w 0 ≡ w
unfolding low_below
low_none c rows w = refl
