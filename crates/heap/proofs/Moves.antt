-- What the two sifts keep from swap to swap, and how they end.
use Rattle.std.proofs.Common.{◌≡◌, ℕ, ◌+◌, ◌*◌, ◌/◌, ◌<◌, ◌≤◌, Bool, true, false, List, length, get_or, Ordering, refl, subst, inl, inr, arith}
use Rattle.std.specs.Cmp.{IsTotalOrder}
use Rattle.std.specs.Ordering.{is_lt}
use Rattle.std.proofs.Permutation.{which}
use Rattle.std.proofs.lemmas.List.MinMax.{ranks_by}
use Rattle.std.proofs.lemmas.List.Edits.{Swapped}
use Rattle.std.specs.List.{SwappedAt}
use Rattle.heap.specs.Heaps.{parent, AtMost, HeapedFrom, Heaped, HeapedBut, OverChildren, UnderParent, Tells, LeastChild}
use Rattle.heap.proofs.Steps.{closes, up_rest, up_across, up_over, down_rest, down_across, down_under}

module _ {X : Type 0} {R : X → X → Ordering} (o : IsTotalOrder R) where
  pub chain : (x y z : X) → AtMost o x y → AtMost o y z → AtMost o x z
  chain x y z h k = (ranks_by o (λ (v : X). v)).chain z y x k h

  pub one_way : (x y : X) → is_lt (R x y) ≡ true → AtMost o x y
  one_way x y h = (ranks_by o (λ (v : X). v)).one_way x y h

  pub itself : (x : X) → AtMost o x x
  itself x = go (is_lt (R x x)) refl
    where
      go : (b : Bool) → is_lt (R x x) ≡ b → AtMost o x x
      go true e = one_way x x e
      go false e = e

  pub closed : (low j : ℕ) (xs : List X) → HeapedBut o low j xs → OverChildren o j xs → UnderParent o low j xs → HeapedFrom o low xs
  closed low j xs h over under k d =
      closes (AtMost o) chain (λ i. get_or xs i d) low (length xs) j (λ m. h.rest m d) (λ m. over m d) (under d) k

swapped : {X : Type 0} (xs ys : List X) (a b : ℕ) → SwappedAt xs ys a b → (d : X) → Swapped (λ i. get_or xs i d) (λ i. get_or ys i d) a b
swapped xs ys a b s d = (s.0 d, s.1 d, λ m. s.2 m d)

module _ {X : Type 0} (R : X → X → Ordering) where
  -- the element that stood at j₀ in xs stands at j in ys, and is not above its children
  abbrev pub Rising : List X → ℕ → List X → ℕ → Type 0
  Rising xs j₀ ys j = (o : IsTotalOrder R) → j₀ < length xs → HeapedBut o 0 j₀ xs → OverChildren o j₀ xs → HeapedBut o 0 j ys × OverChildren o j ys

  pub rise_more : (xs ys zs : List X) (j₀ j : ℕ) → 0 < j → j < length ys → length zs ≡ length ys → SwappedAt ys zs j (parent j) → Tells R ys j (parent j) true →
      Rising xs j₀ ys j → Rising xs j₀ zs (parent j)
  rise_more xs ys zs j₀ j up within long s t was o in' h over =
      let w = was o in' h over in
      let f : X → ℕ → X = λ d i. get_or ys i d in
      let g : X → ℕ → X = λ d i. get_or zs i d in
      let less = λ (d : X). one_way o (f d j) (f d (parent j)) (t o d) in (
        record {
          rest = λ k d a b. up_rest (AtMost o) (chain o) (f d) (g d) (length ys) j up within (swapped ys zs j (parent j) s d) (less d) (λ m. w.0.rest m d) (λ m. w.0.across m d) k a (omega arith);
          across = λ k d a b. up_across (AtMost o) (chain o) (f d) (g d) (length ys) j up within (swapped ys zs j (parent j) s d) (less d) (λ m. w.0.rest m d) (λ m. w.0.across m d) k a (omega arith);
        },
        λ k d a b. up_over (AtMost o) (chain o) (f d) (g d) (length ys) j up within (swapped ys zs j (parent j) s d) (less d) (λ m. w.0.rest m d) (λ m. w.0.across m d) k a (omega arith),
      )

  pub rise_tops : (xs ys : List X) (j₀ j : ℕ) → j ≡ 0 → Rising xs j₀ ys j → (o : IsTotalOrder R) → j₀ < length xs → HeapedBut o 0 j₀ xs → OverChildren o j₀ xs → Heaped o ys
  rise_tops xs ys j₀ j z was o in' h over =
      let w = was o in' h over in
      closed o 0 j ys w.0 w.1 (λ d a. absurd (omega arith))

  pub rise_rests : (xs ys : List X) (j₀ j : ℕ) → Tells R ys j (parent j) false → Rising xs j₀ ys j → (o : IsTotalOrder R) → j₀ < length xs → HeapedBut o 0 j₀ xs → OverChildren o j₀ xs → Heaped o ys
  rise_rests xs ys j₀ j t was o in' h over =
      let w = was o in' h over in
      closed o 0 j ys w.0 w.1 (λ d a l. t o d)

  -- the element that stood at j₀ in xs stands at j in ys, and is not below its parent
  abbrev pub Sinking : List X → ℕ → List X → ℕ → Type 0
  Sinking xs j₀ ys j = (o : IsTotalOrder R) (low : ℕ) → HeapedBut o low j₀ xs → UnderParent o low j₀ xs → HeapedBut o low j ys × UnderParent o low j ys

  pub sink_more : (xs ys zs : List X) (j₀ j c : ℕ) → length zs ≡ length ys → SwappedAt ys zs j c → LeastChild R ys j c → Tells R ys c j true →
      Sinking xs j₀ ys j → Sinking xs j₀ zs c
  sink_more xs ys zs j₀ j c long s best t was o low h under =
      let w = was o low h under in
      let f : X → ℕ → X = λ d i. get_or ys i d in
      let g : X → ℕ → X = λ d i. get_or zs i d in
      let less = λ (d : X). one_way o (f d c) (f d j) (t o d) in (
        record {
          rest = λ k d a b. down_rest (AtMost o) (chain o) (f d) (g d) low (length ys) j c best.first best.within best.child (swapped ys zs j c s d) (less d) (λ m. best.least o m d) (λ m. w.0.rest m d) (λ m. w.0.across m d) k a (omega arith);
          across = λ k d a b. down_across (AtMost o) (chain o) (f d) (g d) low (length ys) j c best.first best.within best.child (swapped ys zs j c s d) (less d) (λ m. best.least o m d) (λ m. w.0.rest m d) (λ m. w.0.across m d) k a (omega arith);
        },
        λ d. down_under (AtMost o) (chain o) (f d) (g d) low (length ys) j c best.first best.within best.child (swapped ys zs j c s d) (less d) (λ m. best.least o m d) (λ m. w.0.rest m d) (λ m. w.0.across m d),
      )

  pub sink_rests : (xs ys : List X) (j₀ j c : ℕ) → LeastChild R ys j c → Tells R ys c j false → Sinking xs j₀ ys j →
      (o : IsTotalOrder R) (low : ℕ) → HeapedBut o low j₀ xs → UnderParent o low j₀ xs → HeapedFrom o low ys
  sink_rests xs ys j₀ j c best t was o low h under =
      let w = was o low h under in
      closed o low j ys w.0 (λ k d a b e. chain o _ _ _ (t o d) (best.least o k d a b e)) w.1

  pub sink_ends : (xs ys : List X) (j₀ j : ℕ) → length ys / 2 ≤ j → Sinking xs j₀ ys j →
      (o : IsTotalOrder R) (low : ℕ) → HeapedBut o low j₀ xs → UnderParent o low j₀ xs → HeapedFrom o low ys
  sink_ends xs ys j₀ j leaf was o low h under =
      let w = was o low h under in
      closed o low j ys w.0 (λ k d a b e. absurd (omega arith)) w.1

  -- the least of one or two children
  pub left_only : (xs : List X) (j : ℕ) → 2 * j + 1 < length xs → length xs ≤ 2 * j + 1 + 1 → LeastChild R xs j (2 * j + 1)
  left_only xs j a b =
      record {
        within = a;
        first = omega arith;
        child = omega arith;
        least = λ o k d z n e. let q : 2 * j + 1 ≡ k = omega arith in subst (λ m. AtMost o (get_or xs (2 * j + 1) d) (get_or xs m d)) q (itself o _);
      }

  pub left_least : (xs : List X) (j : ℕ) → 2 * j + 1 < length xs → Tells R xs (2 * j + 1 + 1) (2 * j + 1) false → LeastChild R xs j (2 * j + 1)
  left_least xs j a t =
      record {
        within = a;
        first = omega arith;
        child = omega arith;
        least = λ o k d z n e. elim (which (2 * j + 1) k) [
          | inl q ↦ subst (λ m. AtMost o (get_or xs (2 * j + 1) d) (get_or xs m d)) q (itself o _)
          | inr u ↦ let q : 2 * j + 1 + 1 ≡ k = omega arith in subst (λ m. AtMost o (get_or xs (2 * j + 1) d) (get_or xs m d)) q (t o d)
        ];
      }

  pub right_least : (xs : List X) (j : ℕ) → 2 * j + 1 + 1 < length xs → Tells R xs (2 * j + 1 + 1) (2 * j + 1) true → LeastChild R xs j (2 * j + 1 + 1)
  right_least xs j a t =
      record {
        within = a;
        first = omega arith;
        child = omega arith;
        least = λ o k d z n e. elim (which (2 * j + 1 + 1) k) [
          | inl q ↦ subst (λ m. AtMost o (get_or xs (2 * j + 1 + 1) d) (get_or xs m d)) q (itself o _)
          | inr u ↦ let q : 2 * j + 1 ≡ k = omega arith in subst (λ m. AtMost o (get_or xs (2 * j + 1 + 1) d) (get_or xs m d)) q (one_way o _ _ (t o d))
        ];
      }
