-- The earliest minute with a sum: that the search finds it, and that it is the only one.
use Rattle.std.specs.Prelude.{◌≡◌, ℕ, zero, suc, ◌+◌, ◌/◌, ◌<◌, ◌≤◌, Bool, true, false, cond, ◌⊎◌, Some, None, Option, MatchOption, nat_lt}
use Rattle.std.proofs.Math.Path.{refl, ap}
use Rattle.std.proofs.Common.{sym, subst, ◌∙◌, arith}
use Rattle.std.proofs.Math.Logic.{inl, inr}
use Rattle.std.proofs.lemmas.Bool.Decides.{leb_tells}
use Rattle.counter.specs.Counter.{sum_of, earliest, earliest_from, Earliest, Empty}
use Rattle.counter.specs.declared.state.CounterState.{CounterState}

-- a minute has a sum or has none
pub some_or_none : (n : ℕ) → ((nat_lt 0 n ≡ true) × (0 < n)) ⊎ ((nat_lt 0 n ≡ false) × (n ≡ 0))
some_or_none n = elim (leb_tells 1 n) [ inl e ↦ inl (e.0, omega (arith, e.1)) | inr e ↦ inr (e.0, omega (arith, e.1)) ]

-- the first of some numbers, or a later one
pub first_or_later : (f k : ℕ) → f ≤ k → (k ≡ f) ⊎ (f + 1 ≤ k)
first_or_later f k h = elim (leb_tells (f + 1) k) [ inl e ↦ inr e.1 | inr e ↦ inl (omega (arith, e.1)) ]

module _ (s : CounterState) where
  pub here : (m n : ℕ) → 0 < sum_of s m → earliest_from s m (suc n) ≡ Some m
  unfolding earliest_from
  here m n k =
      elim (some_or_none (sum_of s m)) [ inl e ↦ ap (λ (b : Bool). cond b (Some m) (earliest_from s (m + 1) n)) e.0 | inr e ↦ absurd (omega (arith, e.1)) ]

  pub later : (m n : ℕ) → sum_of s m ≡ 0 → earliest_from s m (suc n) ≡ earliest_from s (m + 1) n
  unfolding earliest_from
  later m n k =
      elim (some_or_none (sum_of s m)) [ inl e ↦ absurd (omega (arith, e.1)) | inr e ↦ ap (λ (b : Bool). cond b (Some m) (earliest_from s (m + 1) n)) e.0 ]

  pub nowhere : (m : ℕ) → earliest_from s m 0 ≡ None
  unfolding earliest_from
  nowhere m = refl

  -- one more minute in front, which has no sum
  further
      : (f n : ℕ) (o : Option ℕ)
      → sum_of s f ≡ 0
      → MatchOption o (Empty s (f + 1) n) (Earliest s (f + 1) n)
      → MatchOption o (Empty s f (suc n)) (Earliest s f (suc n))
  further f n None e h =
      λ k a b. elim (first_or_later f k a) [ inl x ↦ subst (λ (y : ℕ). sum_of s y ≡ 0) (sym x) e | inr x ↦ h k x (omega arith) ]
  further f n (Some m) e h =
      record {
        from = omega (arith, h.from);
        to = omega (arith, h.to);
        some = h.some;
        before = λ k a b. elim (first_or_later f k a) [ inl x ↦ subst (λ (y : ℕ). sum_of s y ≡ 0) (sym x) e | inr x ↦ h.before k x b ];
      }

  -- what the search finds is the earliest
  pub searched : (f n : ℕ) → MatchOption (earliest_from s f n) (Empty s f n) (Earliest s f n)
  searched f zero =
      subst (λ (o : Option ℕ). MatchOption o (Empty s f 0) (Earliest s f 0)) (sym (nowhere f)) (λ k a b. absurd (omega arith))
  searched f (suc n) =
      let P : Option ℕ → Type 0 = λ o. MatchOption o (Empty s f (suc n)) (Earliest s f (suc n)) in
      elim (some_or_none (sum_of s f)) [
        | inl e ↦ subst P (sym (here f n e.1)) (record { from = omega arith; to = omega arith; some = e.1; before = λ k a b. absurd (omega arith) })
        | inr e ↦ subst P (sym (later f n e.1)) (further f n (earliest_from s (f + 1) n) e.1 (searched (f + 1) n))
      ]

  -- and whatever is the earliest is found
  pub found_is : (f n m : ℕ) → Earliest s f n m → earliest_from s f n ≡ Some m
  found_is f zero m h = absurd (omega (arith, h.from, h.to))
  found_is f (suc n) m h =
      elim (first_or_later f m h.from) [
        | inl x ↦ here f n (subst (λ (y : ℕ). 0 < sum_of s y) x h.some) ∙ ap Some (sym x)
        | inr x ↦
            later f n (h.before f (omega arith) (omega arith)) ∙
            found_is (f + 1) n m (record { from = x; to = omega (arith, h.to); some = h.some; before = λ k a b. h.before k (omega arith) b })
      ]

  pub nothing_is : (f n : ℕ) → Empty s f n → earliest_from s f n ≡ None
  nothing_is f zero h = nowhere f
  nothing_is f (suc n) h = later f n (h f (omega arith) (omega arith)) ∙ nothing_is (f + 1) n (λ k a b. h k (omega arith) (omega arith))

  -- so that the search is known by what it finds
  pub earliest_is : (f n : ℕ) (o : Option ℕ) → MatchOption o (Empty s f n) (Earliest s f n) → o ≡ earliest_from s f n
  earliest_is f n None h = sym (nothing_is f n h)
  earliest_is f n (Some m) h = sym (found_is f n m h)

  -- the first of some minutes with a sum is the earliest of them
  pub first_of
      : (f n : ℕ) (o : Option ℕ)
      → MatchOption o ((k : ℕ) → f ≤ k → k < f + n → sum_of s k ≡ 0) (λ m. (f ≤ m) × (m < f + n) × (0 < sum_of s m) × ((k : ℕ) → f ≤ k → k < m → sum_of s k ≡ 0))
      → MatchOption o (Empty s f n) (Earliest s f n)
  first_of f n None h = h
  first_of f n (Some m) h = record { from = h.0; to = h.1; some = h.2; before = h.3 }

  -- what is known of the minute that is found, and of the open minutes if none is
  pub first_open : (m : ℕ) → earliest s ≡ Some m → Earliest s (s.mark / 60) 4 m
  first_open m e = subst (λ (o : Option ℕ). MatchOption o (Empty s (s.mark / 60) 4) (Earliest s (s.mark / 60) 4)) e (searched (s.mark / 60) 4)

  pub none_open : earliest s ≡ None → Empty s (s.mark / 60) 4
  none_open e = subst (λ (o : Option ℕ). MatchOption o (Empty s (s.mark / 60) 4) (Earliest s (s.mark / 60) 4)) e (searched (s.mark / 60) 4)
