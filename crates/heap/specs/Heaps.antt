-- What a heap is: a list in which no element is below its parent, under a total order. Assumes nothing.
use Rattle.std.specs.Prelude.{◌≡◌, ℕ, ◌-◌, ◌/◌, ◌<◌, ◌≤◌, Bool, false, List, length, ◌≢◌, slice_index_or}
use Rattle.std.specs.declared.cmp.Ordering.{Ordering}
use Rattle.std.specs.Cmp.{IsTotalOrder}
use Rattle.std.specs.Ordering.{is_lt}

-- the place of the parent
abbrev pub parent : ℕ → ℕ
parent k = (k - 1) / 2

module _ {X : Type 0} {R : X → X → Ordering} (o : IsTotalOrder R) where
  -- y is not below x
  abbrev pub AtMost : X → X → Type 0
  AtMost x y = is_lt (R y x) ≡ false

  -- from a place on, no parent has a child below it
  abbrev pub HeapedFrom : ℕ → List X → Type 0
  HeapedFrom low xs = (k : ℕ) (d : X) → 0 < k → k < length xs → low ≤ parent k → AtMost (slice_index_or xs (parent k) d) (slice_index_or xs k d)

  abbrev pub Heaped : List X → Type 0
  Heaped xs = HeapedFrom 0 xs

  -- x is below no element, and no element is below x
  abbrev pub Least : X → List X → Type 0
  Least x xs = (k : ℕ) (d : X) → k < length xs → AtMost x (slice_index_or xs k d)

  -- a heap, were the element at j not there: the others are in order, and its children are not below its parent
  pub record HeapedBut (low j : ℕ) (xs : List X) : Type 0 where
    pub rest : (k : ℕ) (d : X) → 0 < k → k < length xs → low ≤ parent k → (k ≢ j) → (parent k ≢ j) → AtMost (slice_index_or xs (parent k) d) (slice_index_or xs k d)
    pub across : (k : ℕ) (d : X) → 0 < k → k < length xs → parent k ≡ j → 0 < j → low ≤ parent j → AtMost (slice_index_or xs (parent j) d) (slice_index_or xs k d)

  -- the element at j has no child below it
  abbrev pub OverChildren : ℕ → List X → Type 0
  OverChildren j xs = (k : ℕ) (d : X) → 0 < k → k < length xs → parent k ≡ j → AtMost (slice_index_or xs j d) (slice_index_or xs k d)

  -- the element at j is not below its parent
  abbrev pub UnderParent : ℕ → ℕ → List X → Type 0
  UnderParent low j xs = (d : X) → 0 < j → low ≤ parent j → AtMost (slice_index_or xs (parent j) d) (slice_index_or xs j d)

module _ {X : Type 0} (R : X → X → Ordering) where
  -- whether the element at a is below the one at b
  abbrev pub Tells : List X → ℕ → ℕ → Bool → Type 0
  Tells xs a b r = (o : IsTotalOrder R) (d : X) → is_lt (R (slice_index_or xs a d) (slice_index_or xs b d)) ≡ r

  -- the element at c is a child of the one at j, and no child is below it
  pub record LeastChild (xs : List X) (j c : ℕ) : Type 0 where
    pub within : c < length xs
    pub first : 0 < c
    pub child : parent c ≡ j
    pub least : (o : IsTotalOrder R) (k : ℕ) (d : X) → 0 < k → k < length xs → parent k ≡ j → AtMost o (slice_index_or xs c d) (slice_index_or xs k d)
