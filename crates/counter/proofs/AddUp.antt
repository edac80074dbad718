-- For each minute, what was emitted for it and what is open in it add up to what was taken in it.
use Rattle.std.proofs.Common.{◌≡◌, ℕ, suc, ◌+◌, ◌*◌, ◌/◌, ◌%◌, ◌<◌, ◌≤◌, Bool, cond, ◌&&◌, eqb, ltb, List, [], ◌∷◌, length, get_or, set, Some, None, Option, sym, refl, ap, ◌∙◌, inl, inr, arith, get_or-set_other, get_or-set_same}
use Rattle.std.proofs.lemmas.Bool.Decides.{leb_tells, eqb_tells}
use Rattle.model.specs.Computation.{Takes, Fires, zero_state}
use Rattle.counter.specs.Counter.{counter, CounterSound, sum_of, earliest, earliest_from, Earliest, reached, raised, counter_take, closed}
use Rattle.counter.specs.Minutes.{Event, Took, Fired, event, May, Happens, leaves, takes_in, emits_for, taken_in, emitted_for, open_in, MinutesAddUp}
use Rattle.counter.specs.declared.state.CounterState.{CounterState}
use Rattle.counter.specs.Opened.{first_open}
use Rattle.counter.specs.Steps.{nothing, same_place, same_minute, opened, sum_taken, sum_kept, raised_rises, closes}

-- a minute is one of the four open ones or not
pub data Place (s : CounterState) (m : ℕ) : Type 0 where
  within : s.mark / 60 ≤ m → m < s.mark / 60 + 4 → open_in s m ≡ sum_of s m → Place s m
  passed : m < s.mark / 60 → open_in s m ≡ 0 → Place s m
  ahead : s.mark / 60 + 4 ≤ m → open_in s m ≡ 0 → Place s m

pub placed : (s : CounterState) (m : ℕ) → Place s m
placed s m =
    elim (leb_tells (s.mark / 60) m) [
      | inl a ↦ elim (leb_tells (suc m) (s.mark / 60 + 4)) [
        | inl b ↦ within a.1 b.1 (ap (λ (x : Bool). cond (x && ltb m (s.mark / 60 + 4)) (sum_of s m) 0) a.0 ∙ ap (λ (x : Bool). cond x (sum_of s m) 0) b.0)
        | inr b ↦ ahead (omega (arith, b.1)) (ap (λ (x : Bool). cond (x && ltb m (s.mark / 60 + 4)) (sum_of s m) 0) a.0 ∙ ap (λ (x : Bool). cond x (sum_of s m) 0) b.0)
      ]
      | inr a ↦ passed a.1 (ap (λ (x : Bool). cond (x && ltb m (s.mark / 60 + 4)) (sum_of s m) 0) a.0)
    ]

-- no minute that the raise passes has a sum
reached_first : (o : Option ℕ) (w k : ℕ) → o ≡ Some k → reached o w ≤ 60 * k
reached_first None w k e = let z : ◌≡◌ {A = ℕ} 0 1 = cc in absurd (omega arith)
reached_first (Some m) w k e = let z : m ≡ k = cc in omega (arith, z)

module _ (s : CounterState) where
  pub skipped : (w m : ℕ) (o : Option ℕ) → earliest s ≡ o → s.mark % 60 ≡ 0 → s.mark / 60 ≤ m → m < raised s w / 60 → sum_of s m ≡ 0
  skipped w m None e z a b = nothing s e m
  skipped w m (Some k) e z a b = (first_open s k e).before m a (omega (arith, reached_first (earliest s) w k e))

  -- the place of a minute past the open ones is that of one of them, four, eight or more minutes earlier
  pub ahead_shares : (m : ℕ) → s.mark / 60 + 4 ≤ m → (k : ℕ) × (s.mark / 60 ≤ k) × (k + 4 ≤ m) × (k < s.mark / 60 + 4) × (sum_of s m ≡ sum_of s k)
  ahead_shares m h =
      let k = same_place (s.mark / 60) m in
      (k.0, k.1, omega (arith, k.2, k.3), k.2, ap (λ (i : ℕ). get_or s.sums i 0) (sym k.3))

module _ (s : CounterState) (w t a : ℕ) (h : Takes counter CounterSound s w t a) where
  abbrev next : CounterState
  next = (counter_take s w t a).0

  rises : s.mark / 60 ≤ raised s w / 60
  rises = omega (arith, raised_rises s w)

  -- a minute that is open after the raise held its sum before, and one that the raise passed held nothing
  open_before : (m : ℕ) → raised s w / 60 ≤ m → m < raised s w / 60 + 4 → open_in s m ≡ sum_of s m
  open_before m x y =
      elim (placed s m) [
        | within b c e ↦ e
        | passed b e ↦ absurd (omega (arith, rises))
        | ahead b e ↦
            let k = ahead_shares s m b in
            e ∙ sym (k.4 ∙ skipped s w k.0 (earliest s) refl h.sound.minute k.1 (omega (arith, k.2)))
      ]

  passed_before : (m : ℕ) → m < raised s w / 60 → open_in s m ≡ 0
  passed_before m x =
      elim (placed s m) [ within b c e ↦ e ∙ skipped s w m (earliest s) refl h.sound.minute b x | passed b e ↦ e | ahead b e ↦ e ]

  ahead_before : (m : ℕ) → raised s w / 60 + 4 ≤ m → open_in s m ≡ 0
  ahead_before m x =
      elim (placed s m) [ within b c e ↦ absurd (omega (arith, rises)) | passed b e ↦ e | ahead b e ↦ e ]

  other_minute : (m : ℕ) → (t / 60 ≡ m → ⊥) → open_in next m ≡ open_in s m
  other_minute m n =
      elim (placed next m) [
        | within b c e ↦ e ∙ sum_kept s w t a h m (λ p. n (sym (same_minute _ m (t / 60) b c (opened s w t a h).0 (opened s w t a h).1 p))) ∙ sym (open_before m b c)
        | passed b e ↦ e ∙ sym (passed_before m b)
        | ahead b e ↦ e ∙ sym (ahead_before m b)
      ]

  same_minute_taken : (m : ℕ) → t / 60 ≡ m → open_in next m ≡ open_in s m + a
  same_minute_taken m n =
      let o = opened s w t a h in
      elim (placed next m) [
        | within b c e ↦ e ∙ sum_taken s w t a h m (ap (λ (x : ℕ). x % 4) (sym n)) ∙ ap (λ (x : ℕ). x + a) (sym (open_before m b c))
        | passed b e ↦ absurd (omega (arith, o.0, n))
        | ahead b e ↦ absurd (omega (arith, o.1, n))
      ]

  pub take_adds_up : (m : ℕ) → open_in next m ≡ open_in s m + takes_in m (Took w t a)
  take_adds_up m =
      elim (eqb_tells (t / 60) m) [
        | inl e ↦ same_minute_taken m e.1 ∙ ap (λ (b : Bool). open_in s m + cond b a 0) (sym e.0)
        | inr e ↦ other_minute m e.1 ∙ omega (arith, ap (λ (b : Bool). open_in s m + cond b a 0) e.0)
      ]

-- a minute k closes: its sum is emitted and cleared, and the next one is the first open
module _ (s z : CounterState) (k : ℕ) (f : Earliest s (s.mark / 60) 4 k) (four : length s.sums ≡ 4) (mark_is : z.mark ≡ 60 * (k + 1)) (sums_are : z.sums ≡ set s.sums (k % 4) 0) where
  starts : z.mark / 60 ≡ k + 1
  starts = omega (arith, mark_is)

  cleared : (m : ℕ) → m % 4 ≡ k % 4 → sum_of z m ≡ 0
  cleared m e =
      ap (λ (l : List ℕ). get_or l (m % 4) 0) sums_are ∙
      ap (λ (i : ℕ). get_or (set s.sums (k % 4) 0) i 0) e ∙
      get_or-set_same s.sums (k % 4) 0 0 (omega (arith, four))

  uncleared : (m : ℕ) → (m % 4 ≡ k % 4 → ⊥) → sum_of z m ≡ sum_of s m
  uncleared m n = ap (λ (l : List ℕ). get_or l (m % 4) 0) sums_are ∙ get_or-set_other s.sums (k % 4) (m % 4) 0 0 n

  -- of the minutes after k
  before_closed : (m j : ℕ) → k < m → m < k + 5 → j + 4 ≤ m → (m % 4 ≡ k % 4 → ⊥) → j < k
  before_closed m j a b c n =
      elim (leb_tells (suc j) k) [ inl e ↦ e.1 | inr e ↦ absurd (n (omega (arith, e.1))) ]

  still_open : (m : ℕ) → k < m → m < k + 5 → sum_of z m ≡ open_in s m
  still_open m a b =
      elim (eqb_tells (m % 4) (k % 4)) [
        | inl e ↦ cleared m e.1 ∙ sym (elim (placed s m) [
          | within x y o ↦ absurd (omega (arith, e.1, f.from))
          | passed x o ↦ o
          | ahead x o ↦ o
        ])
        | inr e ↦ uncleared m e.1 ∙ sym (elim (placed s m) [
          | within x y o ↦ o
          | passed x o ↦ absurd (omega (arith, f.from))
          | ahead x o ↦
              let j = ahead_shares s m x in
              o ∙ sym (j.4 ∙ f.before j.0 j.1 (before_closed m j.0 a b j.2 e.1))
        ])
      ]

  other_closed : (m : ℕ) → (k ≡ m → ⊥) → open_in z m ≡ open_in s m
  other_closed m n =
      elim (placed z m) [
        | within x y o ↦ o ∙ still_open m (omega (arith, starts)) (omega (arith, starts))
        | passed x o ↦ o ∙ sym (elim (placed s m) [
          | within v w p ↦ p ∙ f.before m v (elim (leb_tells (suc m) k) [ inl e ↦ e.1 | inr e ↦ absurd (n (omega (arith, e.1, starts))) ])
          | passed v p ↦ p
          | ahead v p ↦ p
        ])
        | ahead x o ↦ o ∙ sym (elim (placed s m) [ within v w p ↦ absurd (omega (arith, starts, f.from)) | passed v p ↦ p | ahead v p ↦ p ])
      ]

  itself : (m : ℕ) → k ≡ m → sum_of s k + open_in z m ≡ open_in s m
  itself m e =
      let closed-now : open_in z m ≡ 0 = elim (placed z m) [ within x y o ↦ absurd (omega (arith, starts, e)) | passed x o ↦ o | ahead x o ↦ o ] in
      let was : open_in s m ≡ sum_of s m = elim (placed s m) [ within x y o ↦ o | passed x o ↦ absurd (omega (arith, f.from, e)) | ahead x o ↦ absurd (omega (arith, f.to, e)) ] in
      omega (arith, closed-now, was, ap (sum_of s) e)

  pub closing_adds_up : (m : ℕ) → cond (eqb (60 * (k + 1)) (60 * (m + 1))) (sum_of s k) 0 + open_in z m ≡ open_in s m
  closing_adds_up m =
      elim (eqb_tells (60 * (k + 1)) (60 * (m + 1))) [
        | inl e ↦ ap (λ (b : Bool). cond b (sum_of s k) 0 + open_in z m) e.0 ∙ itself m (omega (arith, e.1))
        | inr e ↦ omega (arith, ap (λ (b : Bool). cond b (sum_of s k) 0 + open_in z m) e.0, other_closed m (λ p. e.1 (omega (arith, p))))
      ]

pub fire_adds_up : (s : CounterState) (w d m : ℕ) → Fires counter CounterSound s w d → emits_for m (closed s (earliest s)).1 + open_in (closed s (earliest s)).0 m ≡ open_in s m
fire_adds_up s w d m h =
    let c = (closes s w d h).1 in
    let k = (closes s w d h).0 in
    let e : (closed s (earliest s)).1 ≡ Some (60 * (k + 1), sum_of s k) = c.emits ∙ ap (λ (x : ℕ). Some (x, sum_of s k)) (sym c.ends) in
    ap (λ (o : Option (ℕ × ℕ)). emits_for m o + open_in (closed s (earliest s)).0 m) e ∙
    closing_adds_up s (closed s (earliest s)).0 k c.first h.sound.four (c.mark_is ∙ sym c.ends) c.sums_are m

-- one event, and all of them
pub event_adds_up : (s : CounterState) (e : Event) (m : ℕ) → May s e → emits_for m (event s e).1 + open_in (event s e).0 m ≡ open_in s m + takes_in m e
event_adds_up s (Took w t a) m h = omega (arith, take_adds_up s w t a h m)
event_adds_up s (Fired w) m h = omega (arith, fire_adds_up s w h.0 m h.1)

pub all_add_up : (s : CounterState) (es : List Event) (m : ℕ) → Happens s es → emitted_for m s es + open_in (leaves s es) m ≡ open_in s m + taken_in m es
all_add_up s [] m h = omega arith
all_add_up s (e ∷ es) m h = omega (arith, event_adds_up s e m h.0, all_add_up (event s e).0 es m h.1)

none_at_first : (m : ℕ) → open_in (counter.load zero_state) m ≡ 0
unfolding earliest_from
none_at_first m = elim (placed (counter.load zero_state) m) [ within x y o ↦ o ∙ nothing (counter.load zero_state) refl m | passed x o ↦ o | ahead x o ↦ o ]

pub minutes_add_up : MinutesAddUp
minutes_add_up es m h = omega (arith, all_add_up (counter.load zero_state) es m h, none_at_first m)
