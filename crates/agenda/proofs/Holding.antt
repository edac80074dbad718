-- What each stop has, where each stop has one slot: in any order of the slots, and after one is changed.
use Rattle.std.proofs.Common.{◌≡◌, ℕ, zero, suc, ◌+◌, ◌<◌, ◌≤◌, Bool, true, false, cond, eqb, ◌⊎◌, List, [], ◌∷◌, length, get_or, set, count_by, Option, sym, refl, ap, ◌∙◌, subst, inl, inr, true≢false, arith, eq-eqb, ne_eqb, eqb-true}
use Rattle.std.specs.List.Sorted.{IsPermutation}
use Rattle.std.specs.List.{ContainsAt as Has}
use Rattle.std.proofs.Permutation.{which}
use Rattle.std.proofs.lemmas.List.{get_or-set_same, get_or-set_other, length-set, get_or_default}
use Rattle.std.proofs.lemmas.List.Sorted.{sum_by-IsPermutation, IsPermutation-sym}
use Rattle.std.proofs.ByRecursion.{has_shuffled}
use Rattle.std.proofs.lemmas.List.Sums.{sum_by-cons, sum_by-set, get_or-le-sum_by}
use Rattle.model.specs.Limits.{stops}
use Rattle.agenda.specs.Slots.{held, Single, updated}
use Rattle.agenda.specs.declared.slot.Slot.{Slot}

module _ {V : Type 0} where
  counted_cons : (s : ℕ) (x : Slot V) (xs : List (Slot V)) (b : Bool) → eqb x.stop s ≡ b → count_by (λ y. eqb y.stop s) (x ∷ xs) ≡ cond b 1 0 + count_by (λ y. eqb y.stop s) xs
  counted_cons s x xs b e = sum_by-cons (λ y. cond (eqb y.stop s) 1 0) x xs ∙ ap (λ t. cond t 1 0 + count_by (λ y. eqb y.stop s) xs) e

  counted_some : (s : ℕ) (x : Slot V) (xs : List (Slot V)) → x.stop ≡ s → Has xs x → 1 ≤ count_by (λ y. eqb y.stop s) xs
  counted_some s x xs e h =
      let g : get_or xs h.0 x ≡ x = h.2 x in
      let t : cond {A = ℕ} (eqb (get_or xs h.0 x).stop s) 1 0 ≡ 1 = ap (λ (b : Bool). cond {A = ℕ} b 1 0) (eq-eqb (get_or xs h.0 x).stop s (ap (λ (z : Slot V). z.stop) g ∙ e)) in
      omega (arith, get_or-le-sum_by (λ (y : Slot V). cond (eqb y.stop s) 1 0) xs h.0 x h.1)

  has_tail : (x y : Slot V) (ys : List (Slot V)) → Has (y ∷ ys) x → (y ≡ x) ⊎ Has ys x
  has_tail x y ys (zero, l, e) = inl (e x)
  has_tail x y ys (suc k, l, e) = inr (k, omega arith, e)

  -- a slot that is there says what its stop has
  pub held_of : (xs : List (Slot V)) (x : Slot V) → count_by (λ y. eqb y.stop x.stop) xs ≡ 1 → Has xs x → held xs x.stop ≡ x.value
  held_of [] x n h = absurd (omega (arith, h.1))
  held_of (y ∷ ys) x n h = go (eqb y.stop x.stop) refl (held_of ys x)
    where
      go : (b : Bool) → eqb y.stop x.stop ≡ b → (count_by (λ y. eqb y.stop x.stop) ys ≡ 1 → Has ys x → held ys x.stop ≡ x.value) →
          held (y ∷ ys) x.stop ≡ x.value
      go true e ih =
          let c = counted_cons x.stop y ys true e in
          ap (λ b. cond b y.value (held ys x.stop)) e ∙
          elim (has_tail x y ys h) [ inl q ↦ ap (λ (z : Slot V). z.value) q | inr q ↦ absurd (omega (arith, counted_some x.stop x ys refl q)) ]
      go false e ih =
          let c = counted_cons x.stop y ys false e in
          ap (λ b. cond b y.value (held ys x.stop)) e ∙
          elim (has_tail x y ys h) [
            | inl q ↦ absurd (true≢false (sym (eq-eqb y.stop x.stop (ap (λ (z : Slot V). z.stop) q)) ∙ e))
            | inr q ↦ ih (omega arith) q
          ]

  -- a stop that is counted has a slot
  pub slot_of : (xs : List (Slot V)) (s : ℕ) → count_by (λ y. eqb y.stop s) xs ≡ 1 → (x : Slot V) × Has xs x × (x.stop ≡ s)
  slot_of [] s n = absurd (omega arith)
  slot_of (y ∷ ys) s n = go (eqb y.stop s) refl (slot_of ys s)
    where
      go : (b : Bool) → eqb y.stop s ≡ b → (count_by (λ y. eqb y.stop s) ys ≡ 1 → (x : Slot V) × Has ys x × (x.stop ≡ s)) →
          (x : Slot V) × Has (y ∷ ys) x × (x.stop ≡ s)
      go true e ih = (y, (0, omega arith, λ d. refl), eqb-true y.stop s e)
      go false e ih =
          let c = counted_cons s y ys false e in
          let r = ih (omega arith) in
          (r.0, (suc r.1.0, omega (arith, r.1.1), r.1.2), r.2)

  -- what is found at a place is there
  pub has_at : (xs : List (Slot V)) (k : ℕ) (d : Slot V) → k < length xs → Has xs (get_or xs k d)
  has_at xs k d l = (k, l, λ e. get_or_default xs k e d l)

  pub known : (xs : List (Slot V)) (x : Slot V) → Single xs → Has xs x → x.stop < stops
  known xs x one h = subst (λ (z : Slot V). z.stop < stops) (h.2 x) (one.1 h.0 x h.1)

  pub single_shuffled : (xs ys : List (Slot V)) → IsPermutation xs ys → Single xs → Single ys
  single_shuffled xs ys h one = (
    λ s l. sum_by-IsPermutation (λ x. cond (eqb x.stop s) 1 0) xs ys h ∙ one.0 s l,
    λ k d l. known xs (get_or ys k d) one (has_shuffled ys xs (get_or ys k d) (IsPermutation-sym xs ys h) (has_at ys k d l)),
  )

  pub held_shuffled : (xs ys : List (Slot V)) → IsPermutation xs ys → Single xs → (q : ℕ) → q < stops → held ys q ≡ held xs q
  held_shuffled xs ys h one q l =
      let r = slot_of xs q (one.0 q l) in
      let x = r.0 in
      let e = r.2 in
      let n : x.stop < stops = omega arith in
      ap (held ys) (sym e) ∙ held_of ys x ((single_shuffled xs ys h one).0 x.stop n) (has_shuffled xs ys x h r.1)
      ∙ sym (held_of xs x (one.0 x.stop n) r.1) ∙ ap (held xs) e

  -- another value in the slot at i
  module _ (xs : List (Slot V)) (i s : ℕ) (value : Option V) (within : i < length xs) (is : (d : Slot V) → (get_or xs i d).stop ≡ s) (one : Single xs) where
    new : Slot V
    new = record { value = value; stop = s }

    pub single_set : Single (set xs i (record { value = value; stop = s }))
    unfolding new
    single_set = (
      λ q l.
          let e = sum_by-set (λ (x : Slot V). cond {A = ℕ} (eqb x.stop q) 1 0) xs i new new within in
          let same : cond {A = ℕ} (eqb (get_or xs i new).stop q) 1 0 ≡ cond (eqb s q) 1 0 = ap (λ (t : ℕ). cond {A = ℕ} (eqb t q) 1 0) (is new) in
          omega (arith, one.0 q l),
      λ k d l.
          let n = length-set xs i new in
          elim (which k i) [
            | inl e ↦
                let g : get_or (set xs i new) k d ≡ new = ap (λ (m : ℕ). get_or (set xs i new) m d) e ∙ get_or-set_same xs i new d within in
                subst (λ (z : Slot V). z.stop < stops) (sym g) (subst (λ (m : ℕ). m < stops) (is new) (one.1 i new within))
            | inr u ↦ subst (λ (z : Slot V). z.stop < stops) (sym (get_or-set_other xs i k new d u)) (one.1 k d (omega arith))
          ],
    )

    pub held_set : (q : ℕ) → q < stops → held (set xs i (record { value = value; stop = s })) q ≡ updated s value (held xs) q
    unfolding new
    held_set q l =
        elim (which q s) [
          | inl e ↦
              let n : s < stops = omega arith in
              let at : Has (set xs i new) new = (i, subst (λ (m : ℕ). i < m) (sym (length-set xs i new)) within, λ d. get_or-set_same xs i new d within) in
              ap (held (set xs i new)) e ∙ held_of (set xs i new) new (single_set.0 s n) at ∙ sym (ap (λ (b : Bool). cond b value (held xs q)) (eq-eqb q s e))
          | inr u ↦
              let r = slot_of xs q (one.0 q l) in
              let x = r.0 in
              let k = r.1.0 in
              let n : x.stop < stops = omega (arith, r.2) in
              let apart : (k ≡ i → ⊥) = λ e. u (sym r.2 ∙ ap (λ (z : Slot V). z.stop) (sym (r.1.2 x)) ∙ ap (λ (m : ℕ). (get_or xs m x).stop) e ∙ is x) in
              let at : Has (set xs i new) x =
              (k, subst (λ (m : ℕ). k < m) (sym (length-set xs i new)) r.1.1, λ d. get_or-set_other xs i k new d apart ∙ r.1.2 d) in
              ap (held (set xs i new)) (sym r.2) ∙ held_of (set xs i new) x (single_set.0 x.stop n) at
              ∙ sym (held_of xs x (one.0 x.stop n) r.1) ∙ ap (held xs) r.2 ∙ sym (ap (λ (b : Bool). cond b value (held xs q)) (ne_eqb q s u))
        ]

  -- a stop without a slot has no number
  pub held_absent : (xs : List (Slot V)) (s : ℕ) (value : Option V) → ((k : ℕ) (d : Slot V) → k < length xs → (get_or xs k d).stop ≡ s → ⊥) → Single xs →
      (q : ℕ) → q < stops → held xs q ≡ updated s value (held xs) q
  held_absent xs s value none one q l =
      let r = slot_of xs q (one.0 q l) in
      let apart : (q ≡ s → ⊥) = λ e. none r.1.0 r.0 r.1.1 (ap (λ (z : Slot V). z.stop) (r.1.2 r.0) ∙ r.2 ∙ e) in
      sym (ap (λ (b : Bool). cond b value (held xs q)) (ne_eqb q s apart))
