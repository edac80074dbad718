-- What a take and a fire of the counter do to its mark, its sums and its earliest minute.
use Rattle.std.specs.Prelude.{◌≡◌, ℕ, ◌+◌, ◌-◌, ◌*◌, ◌/◌, ◌%◌, ◌<◌, ◌≤◌, ◌⊎◌, List, length, Some, None, Option, ◌≢◌, slice_index, slice_set, refl}
use Rattle.std.proofs.Common.{sym, ap, subst, ◌∙◌, inl, inr, arith, length-set, get_or-set_same, get_or-set_other}
use Rattle.std.proofs.lemmas.Bool.Decides.{nat_tests, leb_tells, eqb_tells}
use Rattle.std.proofs.lemmas.List.Sums.{sum_by-set}
use Rattle.model.specs.Limits.{last_time, most_amount}
use Rattle.model.specs.Computation.{Takes, Fires, Emits, Upto, emitted}
use Rattle.model.specs.declared.answer.Verdict.TheVariants.{Fine}
use Rattle.counter.specs.Counter.{counter, CounterSound, sum_of, earliest, Earliest, reached, raised, end, closed, counter_verdict, counter_take, held}
use Rattle.counter.specs.declared.state.CounterState.{CounterState}
use Rattle.counter.specs.Opened.{first_open, none_open}

-- the mark that a take begins at: no lower than the mark, no later than watermark or mark, the start of a minute, and
-- not past a minute with a sum
reached_bound : (o : Option ℕ) (w : ℕ) → reached o w ≤ w
reached_bound None w = omega arith
reached_bound (Some m) w = omega arith

reached_minute : (o : Option ℕ) (w : ℕ) → reached o w % 60 ≡ 0
reached_minute None w = omega arith
reached_minute (Some m) w = omega arith

module _ (s : CounterState) (w : ℕ) where
  pub raised_rises : s.mark ≤ raised s w
  raised_rises = omega arith

  pub raised_bound : (b : ℕ) → s.mark ≤ b → w ≤ b → raised s w ≤ b
  raised_bound b h k = omega (arith, reached_bound (earliest s) w)

  pub raised_minute : s.mark % 60 ≡ 0 → raised s w % 60 ≡ 0
  raised_minute h = omega (arith, reached_minute (earliest s) w)

-- what a verdict of fine says
pub record Fits (s : CounterState) (w t a : ℕ) : Type 0 where
  pub soon : t < raised s w + 240
  pub fits : sum_of s (t / 60) + a ≤ most_amount

pub fine_fits : (s : CounterState) (w t a : ℕ) → counter_verdict s w t a ≡ Fine → Fits s w t a
fine_fits s w t a e = record { soon = grind (arith, nat_tests); fits = grind (arith, nat_tests) }

-- every minute shares its place with one of four in a row
pub same_place : (f m : ℕ) → (k : ℕ) × (f ≤ k) × (k < f + 4) × (k % 4 ≡ m % 4)
same_place f m = (f + (m % 4 + 4 - f % 4) % 4, omega arith, omega arith, omega arith)

-- two of four minutes in a row that share a place are one
pub same_minute : (f j k : ℕ) → f ≤ j → j < f + 4 → f ≤ k → k < f + 4 → j % 4 ≡ k % 4 → j ≡ k
same_minute f j k a b c d e = omega arith

-- a stop without a sum has none in any minute
pub nothing : (s : CounterState) → earliest s ≡ None → (m : ℕ) → sum_of s m ≡ 0
nothing s e m =
    let k = same_place (s.mark / 60) m in
    ap (λ (i : ℕ). slice_index s.sums i) (sym k.3) ∙ none_open s e k.0 k.1 k.2

-- no minute from the mark on that has a sum is before the earliest
pub not_before : (s : CounterState) (m k : ℕ) → earliest s ≡ Some m → s.mark / 60 ≤ k → 0 < sum_of s k → m ≤ k
not_before s m k e h some =
    elim (leb_tells m k) [ inl x ↦ x.1 | inr x ↦ absurd (omega (arith, (first_open s m e).before k h x.1)) ]

module _ (s : CounterState) (w t a : ℕ) (h : Takes counter CounterSound s w t a) where
  abbrev pub after : CounterState
  after = (counter_take s w t a).0

  pub fits : Fits s w t a
  fits = fine_fits s w t a h.fine

  pub place : t / 60 % 4 < length s.sums
  place = omega (arith, h.sound.four)

  -- the minute taken is open after the raise
  pub opened : (raised s w / 60 ≤ t / 60) × (t / 60 < raised s w / 60 + 4)
  opened = let m = raised_minute s w h.sound.minute in let b = raised_bound s w t h.past_mark h.past_watermark in let x = fits.soon in (omega arith, omega arith)

  -- of the sums after a take, that of the time's minute has grown and the others are as before
  pub sum_taken : (m : ℕ) → m % 4 ≡ t / 60 % 4 → sum_of after m ≡ sum_of s m + a
  sum_taken m e =
      subst
      (λ (i : ℕ). slice_index after.sums i ≡ slice_index s.sums i + a)
      (sym e)
      (get_or-set_same s.sums (t / 60 % 4) (sum_of s (t / 60) + a) 0 place)

  pub sum_kept : (m : ℕ) → (m % 4 ≢ t / 60 % 4) → sum_of after m ≡ sum_of s m
  sum_kept m n = get_or-set_other s.sums (t / 60 % 4) (m % 4) (sum_of s (t / 60) + a) 0 n

  pub taken_sound : CounterSound after
  taken_sound =
      record {
        minute = raised_minute s w h.sound.minute;
        time = raised_bound s w last_time h.sound.time h.watermark;
        four = length-set s.sums (t / 60 % 4) (sum_of s (t / 60) + a) ∙ h.sound.four;
        small = λ i. elim (eqb_tells i (t / 60 % 4)) [
          | inl e ↦ subst (λ (j : ℕ). slice_index after.sums j ≤ most_amount) (sym e.1) (omega (arith, get_or-set_same s.sums (t / 60 % 4) (sum_of s (t / 60) + a) 0 place, fits.fits))
          | inr e ↦ omega (arith, get_or-set_other s.sums (t / 60 % 4) i (sum_of s (t / 60) + a) 0 e.1, h.sound.small i)
        ];
      }

  -- a sum after a take is of the time's minute, or was there before
  whose : (m : ℕ) → 0 < sum_of after m → raised s w / 60 ≤ m → m < raised s w / 60 + 4 → (m ≡ t / 60) ⊎ (0 < sum_of s m)
  whose m some x y =
      elim (eqb_tells (m % 4) (t / 60 % 4)) [
        | inl e ↦ inl (same_minute (raised s w / 60) m (t / 60) x y opened.0 opened.1 e.1)
        | inr e ↦ inr (subst (λ (n : ℕ). 0 < n) (sum_kept m e.1) some)
      ]

  -- so the earliest after it ends no earlier than the earliest before, and than the time
  pub taken_due : (b m : ℕ) (o : Option ℕ) → earliest s ≡ o → Upto b (end o) → b ≤ t → earliest after ≡ Some m → b ≤ 60 * (m + 1)
  taken_due b m o e u l k =
      let f = first_open after m k in
      elim (whose m f.some f.from f.to) [ inl x ↦ omega (arith, x) | inr x ↦ was o e u x ]
    where
      was : (o : Option ℕ) → earliest s ≡ o → Upto b (end o) → 0 < sum_of s m → b ≤ 60 * (m + 1)
      was None e u x = absurd (omega (arith, nothing s e m))
      was (Some n) e u x = omega (arith, not_before s n m e (omega (arith, (first_open after m k).from, raised_rises s w)) x, u)

  pub taken_upto : (b : ℕ) (o : Option ℕ) → earliest after ≡ o → Upto b (end (earliest s)) → b ≤ t → Upto b (end o)
  taken_upto b None k u l = tt
  taken_upto b (Some m) k u l = taken_due b m (earliest s) refl u l k

  pub taken_held : held after + 0 ≡ held s + a
  taken_held = omega (arith, sum_by-set (λ (x : ℕ). x) s.sums (t / 60 % 4) (sum_of s (t / 60) + a) 0 place)

-- a fire is of the earliest minute with a sum, at its end
pub ends_at : (o : Option ℕ) (d : ℕ) → end o ≡ Some d → (m : ℕ) × (o ≡ Some m) × (60 * (m + 1) ≡ d)
ends_at None d e = let z : ◌≡◌ {A = ℕ} 0 1 = cc in absurd (omega arith)
ends_at (Some m) d e = (m, refl, cc)

-- what a fire leaves and emits
pub record Closed (s : CounterState) (d m : ℕ) (n : CounterState × Option (ℕ × ℕ)) : Type 0 where
  pub first : Earliest s (s.mark / 60) 4 m
  pub ends : 60 * (m + 1) ≡ d
  pub mark_is : n.0.mark ≡ d
  pub emits : n.1 ≡ Some (d, sum_of s m)
  pub sums_are : n.0.sums ≡ slice_set s.sums (m % 4) 0
  pub sound : CounterSound n.0

module _ (s : CounterState) (w d : ℕ) (h : Fires counter CounterSound s w d) where
  pub closed_sound : (m : ℕ) → 60 * (m + 1) ≡ d → CounterSound (closed s (Some m)).0
  closed_sound m e =
      record {
        minute = omega arith;
        time = omega (arith, e, h.reached, h.watermark);
        four = length-set s.sums (m % 4) 0 ∙ h.sound.four;
        small = λ i. elim (eqb_tells i (m % 4)) [
          | inl e ↦ subst (λ (j : ℕ). slice_index (slice_set s.sums (m % 4) 0) j ≤ most_amount) (sym e.1) (omega (arith, get_or-set_same s.sums (m % 4) 0 0 (omega (arith, h.sound.four))))
          | inr e ↦ omega (arith, get_or-set_other s.sums (m % 4) i 0 0 e.1, h.sound.small i)
        ];
      }

  pub closes : (m : ℕ) × Closed s d m (closed s (earliest s))
  closes =
      let x = ends_at (earliest s) d h.due in (
        x.0,
        subst
            (λ (o : Option ℕ). Closed s d x.0 (closed s o))
            (sym x.1)
            (record { first = first_open s x.0 x.1; ends = x.2; mark_is = x.2; emits = ap (λ (t : ℕ). Some (t, sum_of s x.0)) x.2; sums_are = refl; sound = closed_sound x.0 x.2 }),
      )

  pub fired_due : (o : Option ℕ) → earliest (closed s (earliest s)).0 ≡ o → Upto d (end o)
  fired_due None e = tt
  fired_due (Some k) e = omega (arith, (first_open _ k e).from, closes.1.mark_is)

  pub fired_emits : (e : ℕ × ℕ) → (closed s (earliest s)).1 ≡ Some e → Emits d (closed s (earliest s)).0.mark e
  fired_emits e k =
      let c = closes.1 in
      let same : (d, sum_of s closes.0) ≡ e = cc in
      subst
      (Emits d (closed s (earliest s)).0.mark)
      same
      (record { stamped = sym c.mark_is; reached = omega arith; some = c.first.some; few = h.sound.small (closes.0 % 4) })

  pub fired_held : held (closed s (earliest s)).0 + emitted (closed s (earliest s)).1 ≡ held s
  fired_held =
      let c = closes.1 in
      let m = closes.0 in
      let a : held (closed s (earliest s)).0 ≡ held (record { mark = 0; sums = slice_set s.sums (m % 4) 0 }) = ap (λ (l : List ℕ). held (record { mark = 0; sums = l })) c.sums_are in
      let b : emitted (closed s (earliest s)).1 ≡ sum_of s m = ap emitted c.emits in
      omega (arith, a, b, sum_by-set (λ (x : ℕ). x) s.sums (m % 4) 0 0 (omega (arith, h.sound.four)))
