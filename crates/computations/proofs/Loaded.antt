-- What follows for a state that was loaded from 32 bytes and is then judged, taken from or fired.
use Rattle.std.proofs.Common.{◌≡◌, ℕ, ◌<◌, ◌≤◌, min, nat_le, Bool, List, Some, None, Option, sym, subst, ap, ◌∙◌, arith}
use Rattle.std.proofs.lemmas.Bool.{leb-false, leb-true}
use Rattle.std.proofs.lemmas.Option.{same_Some}
use Rattle.std.specs.Option.{is_some, IfSome}
use Rattle.model.specs.Limits.{most_amount, last_time}
use Rattle.model.specs.Admission.{judged}
use Rattle.model.specs.Computation.{Computation, Lawful, Takes, Fires, StateBytes}
use Rattle.model.specs.declared.record.Record.{Record}
use Rattle.model.specs.declared.answer.Answer.TheVariants.{Done}
use Rattle.model.proofs.Admitted.{may_take}
use Rattle.computations.specs.Judging.{Taken, Fired, Attended}

module _ {S : Type 0} (c : Computation S) (Sound : S → Type 0) (l : Lawful c Sound) (bs : List ℕ) (b : StateBytes bs) (s : S) (e : s ≡ c.load bs) where
  pub sound_state : Sound s
  sound_state = subst Sound (sym e) (l.load_sound bs b)

  module _ (on : Bool) (w : ℕ) (seen : Bool) (r : Record) (few : r.amount ≤ most_amount) (h : judged c s on w seen r ≡ Done) where
    pub takes : Takes c Sound s w r.name.time r.amount
    takes = may_take c Sound s on w seen r sound_state few h

    pub taken : (n : S × Option (ℕ × ℕ)) → n ≡ c.take s w r.name.time r.amount → Taken c Sound (c.load bs) on w seen r n
    taken n k =
        subst
        (λ (x : S). Taken c Sound x on w seen r n)
        e
        (record { admitted = h; after = k; sound = subst (λ (y : S × Option (ℕ × ℕ)). Sound y.0) (sym k) (l.take_sound _ _ _ _ takes) })

  module _ (w d : ℕ) (h : c.due s ≡ Some d) (k : d ≤ min w last_time) where
    fires : Fires c Sound s (min w last_time) d
    fires = record { sound = sound_state; watermark = omega arith; due = h; reached = k }

    pub fired : (n : S × Option (ℕ × ℕ)) → n ≡ c.fire s → Fired c Sound (c.load bs) w n
    fired n j =
        subst
        (λ (x : S). Fired c Sound x w n)
        e
        (record { due = (d, h, omega arith, omega arith); after = j; sound = subst (λ (y : S × Option (ℕ × ℕ)). Sound y.0) (sym j) (l.fire_sound _ _ _ fires) })

  -- a due is fired if it is reached
  module _ (w d : ℕ) (h : c.due s ≡ Some d) where
    pub attended
        : (n : Option (S × Option (ℕ × ℕ)))
        → is_some n ≡ nat_le d (min w last_time)
        → IfSome n (λ x. x ≡ c.fire s)
        → Attended c Sound (c.load bs) w n
    attended None b p = λ x k.
        let same : d ≡ x = same_Some d x (sym h ∙ ap c.due e ∙ k) in
        subst (λ (y : ℕ). min w last_time < y) same (leb-false d (min w last_time) (sym b))
    attended (Some x) b p = fired w d h (leb-true d (min w last_time) (sym b)) x p
