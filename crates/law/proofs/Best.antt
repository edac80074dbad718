-- What is asked of all stops together, by what it is: the first best entry, the low watermark. Assumes nothing.
use Rattle.std.proofs.Common.{◌≡◌, ℕ, zero, suc, ◌<◌, ◌≤◌, Bool, true, false, cond, ltb, ◌↔◌, List, [], ◌∷◌, Some, None, Option, sym, refl, ap, ◌∙◌, subst, inl, inr, arith}
use Rattle.std.proofs.lemmas.Bool.{lt-ltb, le-ltb, cases_eq}
use Rattle.model.specs.Computation.{Computation, Upto}
use Rattle.model.specs.Limits.{stops}
use Rattle.model.specs.Row.{Row}
use Rattle.model.specs.declared.record.Production.{Production}
use Rattle.law.specs.Bests.{FirstDue, Crowd, Lows}
use Rattle.law.specs.Lists.{Mem}
use Rattle.model.specs.FirstBest.{better, first_best}
use Rattle.model.specs.Row.{oldest}
use Rattle.law.specs.Stops.{earliest, greatest, least_time, least_due, low_below, lowest}
use Rattle.law.proofs.Next.{none_some}

pub less : (s n : ℕ) → s < suc n → (s ≡ n → ⊥) → s < n
less s n h ne = omega arith

module _ {X : Type 0} (beats : X → X → Bool) (at : ℕ → Option X) where
  -- what was found stands where it was found
  found_step
      : (n : ℕ) (o : Option (ℕ × X)) (e : Option X)
      → at n ≡ e → ((x : ℕ × X) → o ≡ Some x → (x.0 < n) × (at x.0 ≡ Some x.1)) → (x : ℕ × X) → better beats o n e ≡ Some x
      → (x.0 < suc n) × (at x.0 ≡ Some x.1)
  found_step n o None h f x k = let y = f x k in (omega (arith, y.0), y.1)
  found_step n None (Some v) h f x k =
      let same : x ≡ (n, v) = cc in
      subst (λ (z : ℕ × X). (z.0 < suc n) × (at z.0 ≡ Some z.1)) (sym same) (omega arith, h)
  found_step n (Some b) (Some v) h f x k = at_test (beats v b.1) k
    where
      at_test : (t : Bool) → cond t (Some (n, v)) (Some b) ≡ Some x → (x.0 < suc n) × (at x.0 ≡ Some x.1)
      at_test true k' =
          let same : x ≡ (n, v) = cc in
          subst (λ (z : ℕ × X). (z.0 < suc n) × (at z.0 ≡ Some z.1)) (sym same) (omega arith, h)
      at_test false k' = let y = f x k' in (omega (arith, y.0), y.1)

  pub found : (n : ℕ) (x : ℕ × X) → first_best beats at n ≡ Some x → (x.0 < n) × (at x.0 ≡ Some x.1)
  unfolding first_best
  found zero x e = absurd (none_some x e)
  found (suc n) x e = found_step n (first_best beats at n) (at n) refl (found n) x e

  -- nothing is found where nothing stands
  pub none_found : (n : ℕ) → ((q : ℕ) → q < n → at q ≡ None) → first_best beats at n ≡ None
  unfolding first_best
  none_found zero f = refl
  none_found (suc n) f =
      ap (λ (o : Option X). better beats (first_best beats at n) n o) (f n (omega arith)) ∙ none_found n (λ q h. f q (omega arith))

  -- an entry that beats all before it, and that none after it beats, is the one found: the best, ties to the lowest stop
  pub record Best (s : ℕ) (x : X) (n : ℕ) : Type 0 where
    pub stands : at s ≡ Some x
    pub before : (q : ℕ) (y : X) → q < s → at q ≡ Some y → beats x y ≡ true
    pub after : (q : ℕ) (y : X) → s < q → q < n → at q ≡ Some y → beats y x ≡ false

  -- the last of the stops is the best so far
  last_best : (s : ℕ) (x : X) → Best s x (suc s) → first_best beats at (suc s) ≡ Some (s, x)
  unfolding first_best
  last_best s x b = ap (λ (o : Option X). better beats (first_best beats at s) s o) b.stands ∙ top (first_best beats at s) refl
    where
      top : (o : Option (ℕ × X)) → first_best beats at s ≡ o → better beats o s (Some x) ≡ Some (s, x)
      top None e = refl
      top (Some y) e =
          let f = found s y e in
          ap (λ t. cond t (Some (s, x)) (Some y)) (b.before y.0 y.1 f.0 f.1)

  pub best_found : (n s : ℕ) (x : X) → s < n → Best s x n → first_best beats at n ≡ Some (s, x)
  unfolding first_best
  best_found zero s x h b = absurd (none h)
    where
      none : s < 0 → ⊥
      none k = omega arith
  best_found (suc n) s x h b = elim (cases_eq s n) [
    | inl e ↦ here e
    | inr ne ↦ there (less s n h ne) (best_found n s x (less s n h ne) below) (at n) refl
  ]
    where
      below : Best s x n
      below = record { stands = b.stands; before = b.before; after = λ q y l k e. b.after q y l (omega arith) e }

      here : s ≡ n → first_best beats at (suc n) ≡ Some (s, x)
      here e = subst (λ m. Best s x (suc m) → first_best beats at (suc m) ≡ Some (s, x)) e (λ k. last_best s x k) b

      there
          : s < n → first_best beats at n ≡ Some (s, x) → (o : Option X) → at n ≡ o
          → better beats (first_best beats at n) n o ≡ Some (s, x)
      there l f None e = f
      there l f (Some y) e =
          ap (λ (k : Option (ℕ × X)). better beats k n (Some y)) f ∙
          ap (λ t. cond t (Some (n, y)) (Some (s, x))) (b.after n y (omega arith) (omega arith) e)

pub earliest_due
    : (c : Computation (List ℕ)) (rows : ℕ → Row) (x : ℕ × ℕ)
    → earliest c rows ≡ Some x → (x.0 < stops) × (c.due (rows x.0).state ≡ Some x.1)
earliest_due c rows x e = found (λ d e. ltb d e) (λ s. c.due (rows s).state) stops x e

-- a due that no other is before, and that no lower stop shares, is the earliest
pub earliest_is : (c : Computation (List ℕ)) (rows : ℕ → Row) (s t : ℕ) → FirstDue c rows s t → earliest c rows ≡ Some (s, t)
earliest_is c rows s t f =
    best_found (λ d e. ltb d e) (λ q. c.due (rows q).state) stops s t f.stop
    (record {
      stands = f.due;
      before = λ q y l e. elim (f.first q y (under q l f.stop) e) [
        | inl lt ↦ lt-ltb t y lt
        | inr same ↦ absurd (wrong q same.1 l)
      ];
      after = λ q y l k e. elim (f.first q y k e) [
        | inl lt ↦ le-ltb y t (omega arith)
        | inr same ↦ le-ltb y t (omega (arith, same.0))
      ];
    })
  where
    wrong : (q : ℕ) → s ≤ q → q < s → ⊥
    wrong q a b = omega arith

    under : (q : ℕ) → q < s → s < stops → q < stops
    under q a b = omega arith

pub none_due
    : (c : Computation (List ℕ)) (rows : ℕ → Row)
    → ((q : ℕ) → q < stops → c.due (rows q).state ≡ None) → earliest c rows ≡ None
none_due c rows f = none_found (λ d e. ltb d e) (λ q. c.due (rows q).state) stops f

-- a production whose amount no other exceeds, and that no lower stop shares, is the greatest
pub greatest_is : (rows : ℕ → Row) (s : ℕ) (x : Production) → Crowd rows s x → greatest rows ≡ Some (s, x)
greatest_is rows s x f =
    best_found (λ p q. ltb q.amount p.amount) (λ q. oldest (rows q).pending) stops s x f.stop
    (record {
      stands = f.oldest_is;
      before = λ q y l e. elim (f.greatest_is q y (under q l f.stop) e) [
        | inl lt ↦ lt-ltb y.amount x.amount lt
        | inr same ↦ absurd (wrong q same.1 l)
      ];
      after = λ q y l k e. elim (f.greatest_is q y k e) [
        | inl lt ↦ le-ltb x.amount y.amount (omega arith)
        | inr same ↦ le-ltb x.amount y.amount (omega (arith, same.0))
      ];
    })
  where
    wrong : (q : ℕ) → s ≤ q → q < s → ⊥
    wrong q a b = omega arith

    under : (q : ℕ) → q < s → s < stops → q < stops
    under q a b = omega arith

pub none_pending : (rows : ℕ → Row) → ((q : ℕ) → q < stops → oldest (rows q).pending ≡ None) → greatest rows ≡ None
none_pending rows f = none_found (λ p q. ltb q.amount p.amount) (λ q. oldest (rows q).pending) stops f

times_low : (b w : ℕ) (ps : List Production) → b ≤ least_time ps w → (b ≤ w) × ((p : Production) → Mem p ps → b ≤ p.time)
times_low b w [] h = (h, λ p m. absurd m)
times_low b w (q ∷ ps) h =
    let r = times_low b w ps (omega arith) in
    (r.0, λ p m. elim m [ inl e ↦ omega (arith, ap (λ (x : Production). x.time) e) | inr k ↦ r.1 p k ])

low_times : (b w : ℕ) (ps : List Production) → b ≤ w → ((p : Production) → Mem p ps → b ≤ p.time) → b ≤ least_time ps w
low_times b w [] h f = h
low_times b w (q ∷ ps) h f = omega (arith, f q (inl refl), low_times b w ps h (λ p m. f p (inr m)))

due_low : (b w : ℕ) (o : Option ℕ) → b ≤ least_due o w → (b ≤ w) × Upto b o
due_low b w None h = (h, tt)
due_low b w (Some d) h = (omega arith, omega arith)

low_due : (b w : ℕ) (o : Option ℕ) → b ≤ w → Upto b o → b ≤ least_due o w
low_due b w None h u = h
low_due b w (Some d) h u = omega arith

module _ (c : Computation (List ℕ)) (rows : ℕ → Row) (w b : ℕ) where
  lows_more
      : (n low : ℕ)
      → b ≤ least_due (c.due (rows n).state) (least_time (rows n).pending low) → (b ≤ low → Lows c rows w b n)
      → Lows c rows w b (suc n)
  lows_more n low h below =
      let due = due_low b (least_time (rows n).pending low) (c.due (rows n).state) h in
      let times = times_low b low (rows n).pending due.0 in
      let rest = below times.0 in
      record {
        watermark = rest.watermark;
        pending = λ s l p m. elim (cases_eq s n) [
          | inl e ↦ times.1 p (subst (λ k. Mem p (rows k).pending) e m)
          | inr ne ↦ rest.pending s (less s n l ne) p m
        ];
        dues = λ s l. elim (cases_eq s n) [
          | inl e ↦ subst (λ k. Upto b (c.due (rows k).state)) (sym e) due.1
          | inr ne ↦ rest.dues s (less s n l ne)
        ];
      }

  lows_below : (n : ℕ) → b ≤ low_below c rows w n → Lows c rows w b n
  unfolding low_below
  lows_below zero h = record { watermark = h; pending = λ s l. absurd (none s l); dues = λ s l. absurd (none s l) }
    where
      none : (s : ℕ) → s < 0 → ⊥
      none s l = omega arith
  lows_below (suc n) h = lows_more n (low_below c rows w n) h (lows_below n)

  below_lows : (n : ℕ) → Lows c rows w b n → b ≤ low_below c rows w n
  unfolding low_below
  below_lows zero l = l.watermark
  below_lows (suc n) l =
      low_due b (least_time (rows n).pending (low_below c rows w n)) (c.due (rows n).state)
      (low_times b (low_below c rows w n) (rows n).pending
      (below_lows n (record { watermark = l.watermark; pending = λ s k p m. l.pending s (omega arith) p m; dues = λ s k. l.dues s (omega arith) }))
      (λ p m. l.pending n (omega arith) p m))
      (l.dues n (omega arith))

  pub low_tells : b ≤ lowest c rows w → Lows c rows w b stops
  low_tells h = lows_below stops h

  pub low_from : Lows c rows w b stops → b ≤ lowest c rows w
  low_from l = below_lows stops l

pub low_is : (c : Computation (List ℕ)) (rows : ℕ → Row) (w b : ℕ) → (b ≤ lowest c rows w) ↔ Lows c rows w b stops
low_is c rows w b = (low_tells c rows w b, low_from c rows w b)
