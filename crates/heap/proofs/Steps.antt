-- One step of a sift, over elements by place: f before the swap, g after it.
use Rattle.std.proofs.Common.{◌≡◌, ℕ, ◌<◌, ◌≤◌, sym, refl, ap, ◌∙◌, subst, inl, inr, arith}
use Rattle.std.proofs.Permutation.{which}
use Rattle.std.proofs.lemmas.List.Edits.{Swapped}
use Rattle.heap.specs.Heaps.{parent}

module _ {X : Type 0} (Le : X → X → Type 0) (chain : (x y z : X) → Le x y → Le y z → Le x z) where
  by : (a b x y : X) → a ≡ x → b ≡ y → Le x y → Le a b
  by a b x y p q h = subst (λ v. Le v b) (sym p) (subst (Le x) (sym q) h)

  -- what the contracts say of lists, at one default
  abbrev pub Ordered : (ℕ → X) → ℕ → ℕ → Type 0
  Ordered f low n = (k : ℕ) → 0 < k → k < n → low ≤ parent k → Le (f (parent k)) (f k)

  abbrev pub Rest : (ℕ → X) → ℕ → ℕ → ℕ → Type 0
  Rest f low n j = (k : ℕ) → 0 < k → k < n → low ≤ parent k → (k ≡ j → ⊥) → (parent k ≡ j → ⊥) → Le (f (parent k)) (f k)

  abbrev pub Across : (ℕ → X) → ℕ → ℕ → ℕ → Type 0
  Across f low n j = (k : ℕ) → 0 < k → k < n → parent k ≡ j → 0 < j → low ≤ parent j → Le (f (parent j)) (f k)

  abbrev pub Over : (ℕ → X) → ℕ → ℕ → Type 0
  Over f n j = (k : ℕ) → 0 < k → k < n → parent k ≡ j → Le (f j) (f k)

  abbrev pub Under : (ℕ → X) → ℕ → ℕ → Type 0
  Under f low j = 0 < j → low ≤ parent j → Le (f (parent j)) (f j)

  pub closes : (f : ℕ → X) (low n j : ℕ) → Rest f low n j → Over f n j → Under f low j → Ordered f low n
  closes f low n j rest over under k a b l =
      elim (which k j) [
        | inl e ↦ subst (λ m. Le (f (parent m)) (f m)) (sym e) (under (omega arith) (subst (λ m. low ≤ parent m) e l))
        | inr u ↦ elim (which (parent k) j) [ inl e ↦ by _ _ _ _ (ap f e) refl (over k a b e) | inr v ↦ rest k a b l u v ]
      ]

  -- the element at j goes up to its parent's place
  module _ (f g : ℕ → X) (n j : ℕ) (up : 0 < j) (within : j < n) (s : Swapped f g j (parent j)) (less : Le (f j) (f (parent j)))
      (rest : Rest f 0 n j) (across : Across f 0 n j) where
    lower : parent j < j
    lower = omega arith

    same : (m : ℕ) → (m ≡ j → ⊥) → (m ≡ parent j → ⊥) → g m ≡ f m
    same m = s.2 m

    sibling : (k : ℕ) → 0 < k → k < n → parent k ≡ parent j → (k ≡ j → ⊥) → Le (f (parent j)) (f k)
    sibling k a b e u = by _ _ _ _ (ap f (sym e)) refl (rest k a b (omega arith) u (omega (arith, lower)))

    pub up_rest : Rest g 0 n (parent j)
    up_rest k a b l u v =
        let w : k ≡ j → ⊥ = λ e. v (ap parent e) in
        elim (which (parent k) j) [
          | inl e ↦ by _ _ _ _ (ap g e ∙ s.0) (same k w u) (across k a b e up (omega arith))
          | inr z ↦ by _ _ _ _ (same (parent k) z v) (same k w u) (rest k a b (omega arith) w z)
        ]

    pub up_across : Across g 0 n (parent j)
    up_across k a b e z l =
        let top : Le (f (parent (parent j))) (f (parent j)) = rest (parent j) z (omega (arith, lower)) (omega arith) (omega (arith, lower)) (omega (arith, lower)) in
        let ends = same (parent (parent j)) (omega (arith, lower)) (omega arith) in
        elim (which k j) [
          | inl q ↦ by _ _ _ _ ends (ap g q ∙ s.0) top
          | inr q ↦ by _ _ _ _ ends (same k q (omega arith)) (chain _ _ _ top (sibling k a b e q))
        ]

    pub up_over : Over g n (parent j)
    up_over k a b e =
        elim (which k j) [
          | inl q ↦ by _ _ _ _ s.1 (ap g q ∙ s.0) less
          | inr q ↦ by _ _ _ _ s.1 (same k q (omega arith)) (chain _ _ _ less (sibling k a b e q))
        ]

  -- the element at j goes down to the place of its least child
  module _ (f g : ℕ → X) (low n j c : ℕ) (first : 0 < c) (within : c < n) (child : parent c ≡ j) (s : Swapped f g j c) (less : Le (f c) (f j))
      (least : (k : ℕ) → 0 < k → k < n → parent k ≡ j → Le (f c) (f k)) (rest : Rest f low n j) (across : Across f low n j) where
    below : j < c
    below = omega arith

    kept : (m : ℕ) → (m ≡ j → ⊥) → (m ≡ c → ⊥) → g m ≡ f m
    kept m = s.2 m

    pub down_rest : Rest g low n c
    down_rest k a b l u v =
        elim (which k j) [
          | inl e ↦
              by _ _ _ _ (ap (λ m. g (parent m)) e ∙ kept (parent j) (omega arith) (omega (arith, below))) (ap g e ∙ s.0)
              (across c first within child (omega arith) (subst (λ m. low ≤ parent m) e l))
          | inr w ↦ elim (which (parent k) j) [
            | inl e ↦ by _ _ _ _ (ap g e ∙ s.0) (kept k w u) (least k a b e)
            | inr z ↦ by _ _ _ _ (kept (parent k) z v) (kept k w u) (rest k a b l w z)
          ]
        ]

    pub down_across : Across g low n c
    down_across k a b e z l =
        let q : Le (f (parent k)) (f k) = rest k a b (omega (arith, below)) (omega (arith, below)) (omega (arith, below)) in
        by _ _ _ _ (ap g child ∙ s.0) (kept k (omega (arith, below)) (omega arith)) (by _ _ _ _ (ap f (sym e)) refl q)

    pub down_under : Under g low c
    down_under z l = by _ _ _ _ (ap g child ∙ s.0) s.1 less
