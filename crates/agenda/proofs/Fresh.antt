-- Empty slots, one for each stop: a heap in which each stop has one slot and nothing in it.
use Rattle.std.proofs.Common.{◌≡◌, ℕ, zero, suc, ◌+◌, ◌<◌, ◌≤◌, Bool, true, false, cond, eqb, List, map, get_or, None, count_by, Option, Ordering, Less, Equal, Greater, sym, refl, ap, ◌∙◌, subst, inl, inr, arith, le-ltb, eq-eqb, ne_eqb}
use Rattle.std.specs.List.{range_with_len}
use Rattle.std.specs.Cmp.{IsTotalOrder}
use Rattle.std.specs.Ordering.{is_lt, nat_cmp}
use Rattle.std.proofs.Permutation.{which}
use Rattle.std.proofs.lemmas.List.FromFn.{get_or-map-range_with_len, length-map-range_with_len}
use Rattle.std.proofs.lemmas.List.Sums.{sum_by-cons}
use Rattle.model.specs.Limits.{stops}
use Rattle.heap.specs.Heaps.{Heaped, parent}
use Rattle.agenda.specs.Orders.{slot_order, slot_total}
use Rattle.agenda.specs.Slots.{empty_slot, held, Single}
use Rattle.agenda.specs.declared.slot.Slot.{Slot}

not_less : (k p : ℕ) → p ≤ k → is_lt (nat_cmp k p) ≡ false
not_less k p l = ap (λ (b : Bool). is_lt (cond b Less (cond (eqb k p) Equal Greater))) (le-ltb k p l) ∙ go (eqb k p)
  where
    go : (b : Bool) → is_lt (cond b Equal Greater) ≡ false
    go true = refl
    go false = refl

module _ (V : Type 0) where
  fresh : ℕ → ℕ → List (Slot V)
  fresh a n = map empty_slot (range_with_len a n)

  counted_before : (n a s : ℕ) → s < a → count_by (λ (x : Slot V). eqb x.stop s) (fresh a n) ≡ 0
  unfolding fresh
  counted_before zero a s l = refl
  counted_before (suc n) a s l =
      sum_by-cons (λ (x : Slot V). cond (eqb x.stop s) 1 0) (empty_slot a) (map empty_slot (range_with_len (a + 1) n))
      ∙ (λ k. cond {A = ℕ} (ne_eqb a s (omega arith) k) 1 0 + counted_before n (a + 1) s (omega arith) k)

  counted_once : (n a s : ℕ) → a ≤ s → s < a + n → count_by (λ (x : Slot V). eqb x.stop s) (fresh a n) ≡ 1
  unfolding fresh
  counted_once zero a s p l = absurd (omega arith)
  counted_once (suc n) a s p l =
      sum_by-cons (λ (x : Slot V). cond (eqb x.stop s) 1 0) (empty_slot a) (map empty_slot (range_with_len (a + 1) n))
      ∙ elim (which a s) [
        | inl e ↦ (λ k. cond {A = ℕ} (eq-eqb a s e k) 1 0 + counted_before n (a + 1) s (omega arith) k)
        | inr u ↦ (λ k. cond {A = ℕ} (ne_eqb a s u k) 1 0 + counted_once n (a + 1) s (omega arith) (omega arith) k)
      ]

  fresh_at : (n k : ℕ) (d : Slot V) → k < n → get_or (fresh 0 n) k d ≡ empty_slot k
  unfolding fresh
  fresh_at n k d l = get_or-map-range_with_len empty_slot 0 n k k d l (omega arith)

  fresh_single : (n : ℕ) → n ≡ stops → Single (fresh 0 n)
  unfolding fresh
  fresh_single n e = (
    λ s l. counted_once n 0 s (omega arith) (omega arith),
    λ k d l.
        let m = length-map-range_with_len (empty_slot {V = V}) 0 n in
        subst (λ (x : Slot V). x.stop < stops) (sym (fresh_at n k d (omega arith))) (omega arith),
  )

  fresh_heaped : {R : V → V → Ordering} (o : IsTotalOrder R) (n : ℕ) → Heaped (slot_total o) (fresh 0 n)
  unfolding fresh
  fresh_heaped {R} o n k d a b l =
      let m = length-map-range_with_len (empty_slot {V = V}) 0 n in
      (λ i. is_lt (slot_order R (fresh_at n k d (omega arith) i) (fresh_at n (parent k) d (omega arith) i))) ∙ not_less k (parent k) (omega arith)

  fresh_held : (n a q : ℕ) → held (fresh a n) q ≡ None
  unfolding fresh
  fresh_held zero a q = refl
  fresh_held (suc n) a q = (λ k. cond (eqb a q) None (fresh_held n (a + 1) q k)) ∙ go (eqb a q)
    where
      go : (b : Bool) → ◌≡◌ {A = Option V} (cond b None None) None
      go true = refl
      go false = refl

  -- the same of a list that is so made
  pub empty_single : (n : ℕ) (xs : List (Slot V)) → n ≡ stops → xs ≡ map empty_slot (range_with_len 0 n) → Single xs
  unfolding fresh
  empty_single n xs e i = subst (Single {V = V}) (sym i) (fresh_single n e)

  pub empty_heaped : {R : V → V → Ordering} (o : IsTotalOrder R) (n : ℕ) (xs : List (Slot V)) → xs ≡ map empty_slot (range_with_len 0 n) → Heaped (slot_total o) xs
  unfolding fresh
  empty_heaped o n xs i = subst (Heaped (slot_total o)) (sym i) (fresh_heaped o n)

  pub empty_held : (n : ℕ) (xs : List (Slot V)) (q : ℕ) → xs ≡ map empty_slot (range_with_len 0 n) → held xs q ≡ None
  unfolding fresh
  empty_held n xs q i = ap (λ (ys : List (Slot V)). held ys q) i ∙ fresh_held n 0 q
