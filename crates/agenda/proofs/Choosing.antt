-- That the first of a heap of slots is the best, ties to the lowest stop.
use Rattle.std.proofs.Common.{◌≡◌, ℕ, zero, suc, ◌<◌, Bool, true, false, cond, eqb, List, Some, None, Option, Ordering, Less, Equal, Greater, sym, refl, ap, ◌∙◌, subst, inl, inr, true≢false, arith, lt-ltb}
use Rattle.std.specs.Cmp.{IsTotalOrder}
use Rattle.std.specs.Option.{option_map}
use Rattle.std.specs.Ordering.{is_lt, ordering_reverse, ordering_then, nat_cmp}
use Rattle.std.specs.List.{ContainsAt as Has}
use Rattle.std.proofs.Permutation.{which}
use Rattle.model.specs.FirstBest.{first_best, better}
use Rattle.model.specs.Limits.{stops}
use Rattle.heap.specs.Heaps.{Least}
use Rattle.agenda.specs.Orders.{slot_order, slot_total, late}
use Rattle.agenda.specs.Slots.{held, Single}
use Rattle.agenda.specs.declared.slot.Slot.{Slot}
use Rattle.agenda.proofs.Holding.{held_of, slot_of, known}

some_same : {X : Type 0} (x y : X) → Some x ≡ Some y → x ≡ y
some_same x y e = cc

module _ {X : Type 0} (beats : X → X → Bool) (at : ℕ → Option X) where
  pub best_none : (n : ℕ) → ((q : ℕ) → q < n → at q ≡ None) → first_best beats at n ≡ None
  unfolding first_best
  best_none zero h = refl
  best_none (suc n) h = (λ k. better beats (best_none n (λ q l. h q (omega arith)) k) n (h n (omega arith) k))

  taken : (n : ℕ) (b : ℕ × X) (x : X) → (n, x) ≡ b → at n ≡ Some x → (b.0 < suc n) × (at b.0 ≡ Some b.1)
  taken n b x e a =
      let m : n ≡ b.0 = ap (λ (t : ℕ × X). t.0) e in
      (omega arith, ap at (sym m) ∙ a ∙ ap (λ (t : ℕ × X). Some t.1) e)

  -- what was chosen is there
  pub best_from : (n : ℕ) (b : ℕ × X) → first_best beats at n ≡ Some b → (b.0 < n) × (at b.0 ≡ Some b.1)
  unfolding first_best
  best_from zero b e = let z : ◌≡◌ {A = ℕ} 0 1 = cc in absurd (omega arith)
  best_from (suc n) b e = go (first_best beats at n) (at n) refl (best_from n) e
    where
      go : (was : Option (ℕ × X)) (new : Option X) → at n ≡ new → ((c : ℕ × X) → was ≡ Some c → (c.0 < n) × (at c.0 ≡ Some c.1)) →
          better beats was n new ≡ Some b → (b.0 < suc n) × (at b.0 ≡ Some b.1)
      go was None a ih p = let r = ih b p in (omega (arith, r.0), r.1)
      go None (Some x) a ih p = taken n b x (some_same (n, x) b p) a
      go (Some c) (Some x) a ih p = by_test (beats x c.1) p
        where
          by_test : (t : Bool) → cond t (Some (n, x)) (Some c) ≡ Some b → (b.0 < suc n) × (at b.0 ≡ Some b.1)
          by_test true q = taken n b x (some_same (n, x) b q) a
          by_test false q = let r = ih b q in (omega (arith, r.0), r.1)

  -- what is better than all before it and not worse than any after it is chosen
  pub best_is : (n s : ℕ) (x : X) → s < n → at s ≡ Some x → ((q : ℕ) (y : X) → q < s → at q ≡ Some y → beats x y ≡ true) →
      ((q : ℕ) (y : X) → s < q → q < n → at q ≡ Some y → beats y x ≡ false) → first_best beats at n ≡ Some (s, x)
  unfolding first_best
  best_is zero s x l a before after = absurd (omega arith)
  best_is (suc n) s x l a before after =
      elim (which s n) [
        | inl e ↦
            ap (better beats (first_best beats at n) n) (ap at (sym e) ∙ a) ∙ last (first_best beats at n) (best_from n) (λ q y b. before q y (omega arith))
            ∙ ap (λ (m : ℕ). Some (m, x)) (sym e)
        | inr u ↦ (λ k. better beats (best_is n s x (omega arith) a before (λ q y b c. after q y b (omega arith)) k) n (at n)) ∙ stays (omega arith) (at n) refl (after n)
      ]
    where
      last : (was : Option (ℕ × X)) → ((c : ℕ × X) → was ≡ Some c → (c.0 < n) × (at c.0 ≡ Some c.1)) →
          ((q : ℕ) (y : X) → q < n → at q ≡ Some y → beats x y ≡ true) → better beats was n (Some x) ≡ Some (n, x)
      last None from beaten = refl
      last (Some c) from beaten =
          let r = from c refl in
          ap (λ t. cond t (Some (n, x)) (Some c)) (beaten c.0 c.1 r.0 r.1)

      stays : s < n → (new : Option X) → at n ≡ new → ((y : X) → s < n → n < suc n → at n ≡ Some y → beats y x ≡ false) → better beats (Some (s, x)) n new ≡ Some (s, x)
      stays b None e later = refl
      stays b (Some y) e later = ap (λ t. cond t (Some (n, y)) (Some (s, x))) (later y b (omega arith) e)

-- only what the stops below n have counts
pub best_same : {X : Type 0} (beats : X → X → Bool) (at to : ℕ → Option X) (n : ℕ) → ((q : ℕ) → q < n → at q ≡ to q) → first_best beats at n ≡ first_best beats to n
unfolding first_best
best_same beats at to zero h = refl
best_same beats at to (suc n) h = λ k. better beats (best_same beats at to n (λ q l. h q (omega arith)) k) n (h n (omega arith) k)

-- the best of what a function makes of all
pub best_mapped : {X Y : Type 0} (f : X → Y) (beats : Y → Y → Bool) (at : ℕ → Option X) (n : ℕ) →
    option_map (λ b. (b.0, f b.1)) (first_best (λ x y. beats (f x) (f y)) at n) ≡ first_best beats (λ q. option_map f (at q)) n
unfolding first_best
best_mapped f beats at zero = refl
best_mapped {X} {Y} f beats at (suc n) = go (first_best (λ x y. beats (f x) (f y)) at n) (at n) ∙ (λ k. better beats (best_mapped f beats at n k) n (option_map f (at n)))
  where
    go : (was : Option (ℕ × X)) (new : Option X) →
        option_map (λ b. (b.0, f b.1)) (better (λ x y. beats (f x) (f y)) was n new) ≡ better beats (option_map (λ b. (b.0, f b.1)) was) n (option_map f new)
    go was None = refl
    go None (Some x) = refl
    go (Some c) (Some x) = by_test (beats (f x) (f c.1))
      where
        by_test : (t : Bool) → option_map {U = ℕ × Y} (λ (b : ℕ × X). (b.0, f b.1)) (cond t (Some (n, x)) (Some c)) ≡ cond t (Some (n, f x)) (Some (c.0, f c.1))
        by_test true = refl
        by_test false = refl

-- the first slot of a heap
module _ {V : Type 0} {R : V → V → Ordering} (o : IsTotalOrder R) (xs : List (Slot V)) (one : Single xs) (t : Slot V) (has : Has xs t)
    (least : Least (slot_total o) t xs) where
  -- no slot is below it
  least_of : (z : Slot V) → Has xs z → is_lt (slot_order R z t) ≡ false
  least_of z h = subst (λ (y : Slot V). is_lt (slot_order R y t) ≡ false) (h.2 z) (least h.0 z h.1)

  -- the slot of a stop that has a value
  slot_with : (q : ℕ) (y : V) → q < stops → held xs q ≡ Some y → (z : Slot V) × Has xs z × (z.stop ≡ q) × (z.value ≡ Some y)
  slot_with q y l e =
      let r = slot_of xs q (one.0 q l) in
      let n : r.0.stop < stops = omega (arith, r.2) in
      (r.0, r.1, r.2, sym (held_of xs r.0 (one.0 r.0.stop n) r.1) ∙ ap (held xs) r.2 ∙ e)

  not_below : (q : ℕ) (y : V) → q < stops → held xs q ≡ Some y → is_lt (ordering_then (late R (Some y) t.value) (nat_cmp q t.stop)) ≡ false
  not_below q y l e =
      let z = slot_with q y l e in
      (λ k. is_lt (ordering_then (late R (sym z.3 k) t.value) (nat_cmp (sym z.2 k) t.stop))) ∙ least_of z.0 z.1

  pub first_none : t.value ≡ None → first_best (λ x y. is_lt (R x y)) (held xs) stops ≡ None
  first_none e = best_none (λ x y. is_lt (R x y)) (held xs) stops (λ q l. go q l (held xs q) refl)
    where
      go : (q : ℕ) → q < stops → (v : Option V) → held xs q ≡ v → held xs q ≡ None
      go q l None h = h
      go q l (Some y) h = absurd (true≢false (ap (λ v. is_lt (ordering_then (late R (Some y) v) (nat_cmp q t.stop))) (sym e) ∙ not_below q y l h))

  pub first_some : (x : V) → t.value ≡ Some x → first_best (λ x y. is_lt (R x y)) (held xs) stops ≡ Some (t.stop, x)
  first_some x e =
      let n = known xs t one has in
      best_is (λ x y. is_lt (R x y)) (held xs) stops t.stop x n (held_of xs t (one.0 t.stop n) has ∙ e)
      (λ q y b h. before (R y x) (o.antisymm x y) (said q y (omega arith) h) (ltb_rank q t.stop b))
      (λ q y b l h. after (R y x) (nat_cmp q t.stop) (said q y l h))
    where
      said : (q : ℕ) (y : V) → q < stops → held xs q ≡ Some y → is_lt (ordering_then (R y x) (nat_cmp q t.stop)) ≡ false
      said q y l h = ap (λ v. is_lt (ordering_then (late R (Some y) v) (nat_cmp q t.stop))) (sym e) ∙ not_below q y l h

      ltb_rank : (a b : ℕ) → a < b → nat_cmp a b ≡ Less
      ltb_rank a b l = ap (λ (c : Bool). cond c Less (cond (eqb a b) Equal Greater)) (lt-ltb a b l)

      before : {r k' : Ordering} (k : Ordering) → r ≡ ordering_reverse k → is_lt (ordering_then k k') ≡ false → k' ≡ Less → is_lt r ≡ true
      before Less p h l = absurd (true≢false h)
      before {k' = k'} Equal p h l = absurd (true≢false (ap is_lt (sym l) ∙ h))
      before Greater p h l = ap is_lt p

      after : (k k' : Ordering) → is_lt (ordering_then k k') ≡ false → is_lt k ≡ false
      after Less k' h = h
      after Equal k' h = refl
      after Greater k' h = refl
