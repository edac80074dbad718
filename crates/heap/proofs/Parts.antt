-- From a heap to a heap but for one place, and from its parts to its least element.
use Rattle.std.proofs.Common.{◌≡◌, ℕ, zero, suc, ◌+◌, ◌-◌, ◌/◌, ◌<◌, ◌≤◌, true, false, List, [], ◌∷◌, ◌++◌, length, get_or, take, drop, set, IfSome, Some, None, Option, Ordering, sym, refl, ap, ◌∙◌, subst, inl, inr, zero-le, arith, Bor}
use Rattle.std.specs.Cmp.{IsTotalOrder}
use Rattle.std.specs.Slice.{IsGetResult}
use Rattle.std.specs.List.Sorted.{IsPermutation}
use Rattle.std.proofs.Permutation.{which}
use Rattle.std.specs.List.{SwappedAt}
use Rattle.std.proofs.lemmas.List.{get_or-take, get_or-drop, get_or-set_other, get_or-append-add, length-set, length-take-le, length-drop, take-append-drop, take_at}
use Rattle.std.proofs.lemmas.List.Sorted.{IsPermutation-cons, IsPermutation-to_front, IsPermutation-sym, IsPermutation-trans, length_permutation}
use Rattle.heap.specs.Heaps.{parent, AtMost, HeapedFrom, Heaped, HeapedBut, OverChildren, UnderParent, Tells, Least}
use Rattle.heap.proofs.Moves.{chain, one_way, itself}

module _ {X : Type 0} {R : X → X → Ordering} (o : IsTotalOrder R) where
  by : (a b x y : X) → a ≡ x → b ≡ y → AtMost o x y → AtMost o a b
  by a b x y p q h = subst (λ v. AtMost o v b) (sym p) (subst (AtMost o x) (sym q) h)

  -- all but the last are a heap
  pub but_last : (xs : List X) → Heaped o (take (length xs - 1) xs) → HeapedBut o 0 (length xs - 1) xs
  but_last xs h =
      record {
        rest = λ k d a b l u v.
            let t : length (take (length xs - 1) xs) ≡ length xs - 1 = length-take-le (length xs - 1) xs (omega arith) in
            by _ _ _ _ (sym (get_or-take (length xs - 1) xs (parent k) d (omega arith))) (sym (get_or-take (length xs - 1) xs k d (omega arith)))
            (h k d a (omega arith) l);
        across = λ k d a b e z l. absurd (omega arith);
      }

  pub last_over : (xs : List X) → OverChildren o (length xs - 1) xs
  last_over xs k d a b e = absurd (omega arith)

  -- nothing stands past the end
  pub but_past : (xs : List X) (j : ℕ) → length xs ≤ j → HeapedBut o 0 j xs → Heaped o xs
  but_past xs j p h k d a b l = h.rest k d a b l (omega arith) (omega arith)

  -- where an element is below its parent, so it is below its children
  pub over_children : (xs : List X) (j : ℕ) → 0 < j → Tells R xs j (parent j) true → HeapedBut o 0 j xs → OverChildren o j xs
  over_children xs j z t h k d a b e = chain o _ _ _ (one_way o _ _ (t o d)) (h.across k d a b e z zero-le)

  pub under_parent : (xs : List X) (j : ℕ) → (0 < j → Tells R xs j (parent j) false) → UnderParent o 0 j xs
  under_parent xs j t d z l = t z o d

  -- another element in a place's stead
  pub but_changed : (xs : List X) (j : ℕ) (x : X) → Heaped o xs → HeapedBut o 0 j (set xs j x)
  but_changed xs j x h =
      let n = length-set xs j x in
      record {
        rest = λ k d a b l u v. by _ _ _ _ (get_or-set_other xs j (parent k) x d v) (get_or-set_other xs j k x d u) (h k d a (omega arith) l);
        across = λ k d a b e z l.
            by _ _ _ _ (get_or-set_other xs j (parent j) x d (omega arith)) (get_or-set_other xs j k x d (omega arith))
            (chain o _ _ _ (h j d z (omega arith) zero-le) (by _ _ _ _ (ap (λ m. get_or xs m d) (sym e)) refl (h k d a (omega arith) zero-le)));
      }

  -- the last element in a place's stead, and the end cut off
  pub but_swapped : (xs ys zs : List X) (j : ℕ) → j < length xs → length ys ≡ length xs → SwappedAt xs ys j (length xs - 1) → zs ≡ take (length xs - 1) ys →
      Heaped o xs → HeapedBut o 0 j zs
  but_swapped xs ys zs j in' long s e h =
      let n : length zs ≡ length xs - 1 = ap length e ∙ length-take-le (length xs - 1) ys (omega arith) in
      let same : (m : ℕ) (d : X) → m < length xs - 1 → (m ≡ j → ⊥) → get_or zs m d ≡ get_or xs m d =
      λ m d l u. ap (λ q. get_or q m d) e ∙ get_or-take (length xs - 1) ys m d l ∙ s.2 m d u (omega arith) in
      record {
        rest = λ k d a b l u v. by _ _ _ _ (same (parent k) d (omega arith) v) (same k d (omega arith) u) (h k d a (omega arith) l);
        across = λ k d a b q z l.
            by _ _ _ _ (same (parent j) d (omega arith) (omega arith)) (same k d (omega arith) (omega arith))
            (chain o _ _ _ (h j d z in' zero-le) (by _ _ _ _ (ap (λ m. get_or xs m d) (sym q)) refl (h k d a (omega arith) zero-le)));
      }

  -- the first is the least
  pub top : (xs : List X) (d : X) → Heaped o xs → (fuel k : ℕ) → k ≤ fuel → k < length xs → AtMost o (get_or xs 0 d) (get_or xs k d)
  top xs d h zero k a b = let e : k ≡ 0 = omega arith in by _ _ _ _ refl (ap (λ m. get_or xs m d) e) (itself o (get_or xs 0 d))
  top xs d h (suc fuel) k a b =
      elim (which k 0) [
        | inl e ↦ by _ _ _ _ refl (ap (λ m. get_or xs m d) e) (itself o (get_or xs 0 d))
        | inr u ↦ chain o _ _ _ (top xs d h fuel (parent k) (omega arith) (omega arith)) (h k d (omega arith) b zero-le)
      ]

  pub first_least : (xs : List X) (x : X) → ((d : X) → x ≡ get_or xs 0 d) → Heaped o xs → Least o x xs
  first_least xs x e h k d b = by _ _ _ _ (e d) refl (top xs d h k k (omega arith) b)

  pub found_least : (r : Option (Bor X)) (xs : List X) → IsGetResult xs 0 0 r → Heaped o xs → IfSome r (λ x. Least o x.now xs)
  found_least None xs i h = tt
  found_least (Some x) xs i h = first_least xs x.now i.3.1 h

  -- building: the parents from j on are in order
  pub built_none : (xs : List X) → HeapedFrom o (length xs / 2) xs
  built_none xs k d a b l = absurd (omega arith)

  pub built_but : (xs : List X) (j : ℕ) → 0 < j → HeapedFrom o j xs → HeapedBut o (j - 1) (j - 1) xs
  built_but xs j z h =
      record {
        rest = λ k d a b l u v. h k d a b (omega arith);
        across = λ k d a b e p l. absurd (omega arith);
      }

  pub built_under : (xs : List X) (j : ℕ) → UnderParent o j j xs
  built_under xs j d z l = absurd (omega arith)

-- one more element behind lists with the same elements
pub shuffled_behind : {X : Type 0} (xs ys zs : List X) → length zs ≡ 1 → IsPermutation xs ys → IsPermutation (xs ++ zs) (ys ++ zs)
shuffled_behind xs ys [] n h = absurd (omega arith)
shuffled_behind xs ys (z ∷ []) n h =
    IsPermutation-trans (xs ++ z ∷ []) (z ∷ xs) (ys ++ z ∷ []) (IsPermutation-to_front xs z)
    (IsPermutation-trans (z ∷ xs) (z ∷ ys) (ys ++ z ∷ []) (IsPermutation-cons z xs ys h) (IsPermutation-sym (ys ++ z ∷ []) (z ∷ ys) (IsPermutation-to_front ys z)))
shuffled_behind xs ys (z ∷ w ∷ zs) n h = absurd (omega arith)

-- the element at j stands last in ys; the others became ws
module _ {X : Type 0} (xs ys ws : List X) (j m : ℕ) (in' : j < length xs) (end : m ≡ length xs - 1) (long : length ys ≡ length xs)
    (s : SwappedAt xs ys j (length xs - 1)) (moved : IsPermutation xs ys) (mended : IsPermutation (take m ys) ws) where
  front_long : length ws ≡ length xs - 1
  front_long = length_permutation (take m ys) ws mended ∙ length-take-le m ys (omega arith) ∙ end

  pub out_shuffled : IsPermutation xs (ws ++ drop m ys)
  out_shuffled =
      let one : length (drop m ys) ≡ 1 = length-drop m ys ∙ omega arith in
      let whole = shuffled_behind (take m ys) ws (drop m ys) one mended in
      IsPermutation-trans xs ys (ws ++ drop m ys) moved (subst (λ l. IsPermutation l (ws ++ drop m ys)) (take-append-drop m ys) whole)

  pub out_last : (d : X) → get_or (ws ++ drop m ys) (length xs - 1) d ≡ get_or xs j d
  out_last d =
      let at : length xs - 1 ≡ length ws + 0 = omega (arith, front_long) in
      let back : m + 0 ≡ length xs - 1 = omega arith in
      ap (λ k. get_or (ws ++ drop m ys) k d) at ∙ get_or-append-add ws (drop m ys) 0 d ∙ get_or-drop m ys 0 d ∙ ap (λ k. get_or ys k d) back ∙ s.1 d

  pub out_front : take (length xs - 1) (ws ++ drop m ys) ≡ ws
  out_front = take_at ws (drop m ys) (length xs - 1) front_long

module _ {X : Type 0} {R : X → X → Ordering} (o : IsTotalOrder R) where
  -- what was taken out of the first place is the least
  pub taken_least : (xs ys : List X) (d : X) → ((b : X) → get_or ys (length xs - 1) b ≡ get_or xs 0 b) → Heaped o xs → Least o (get_or ys (length xs - 1) d) xs
  taken_least [] ys d e h = λ k b l. absurd (omega arith)
  taken_least (x ∷ xs) ys d e h = first_least o (x ∷ xs) (get_or ys (length (x ∷ xs) - 1) d) (λ b. e d) h

  -- an empty list is a heap without its last
  pub short_heap : (xs ys : List X) → (0 < length xs → Heaped o (take (length xs - 1) ys)) → IsPermutation xs ys → Heaped o (take (length xs - 1) ys)
  short_heap [] ys h s = λ k d a b l. absurd (omega arith)
  short_heap (x ∷ xs) ys h s = h (omega arith)
