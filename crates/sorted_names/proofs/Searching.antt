-- What the library's searches find in a list that climbs.
use Rattle.std.proofs.Common.{◌≡◌, ℕ, ◌≤◌, true, false, List, length, get_or, Result, Ok, Err, MatchResult, sym, refl, ap, ◌∙◌, subst, inl, inr, arith}
use Rattle.std.specs.Cmp.{IsTotalOrder}
use Rattle.std.specs.Ordering.{is_lt, ordering_index}
use Rattle.std.specs.List.Sorted.{IsNonDecreasingBy, IsPartitionedBy, IsPartitionPoint, IsSearchInRange, IsBinarySearchResult}
use Rattle.std.specs.declared.cmp.Ordering.{Ordering}
use Rattle.std.specs.declared.cmp.Ordering.TheVariants.{Less, Equal, Greater}
use Rattle.std.proofs.lemmas.Bool.{cases_Bool, both_ways, cases_eq, cases_lt}
use Rattle.std.proofs.lemmas.Cmp.{nat_cmp_total, on_total, then_total, alike_right, tied_back, tied_itself}
use Rattle.names.specs.declared.taken.Taken.{Taken}
use Rattle.names.specs.Held.{listed}
use Rattle.names.specs.Order.{taken_cmp}
use Rattle.names.proofs.Listing.{listed_at, at_listed}
use Rattle.sorted_names.specs.Order.{before, Climbs, Splits, Absent}
use Rattle.sorted_names.proofs.Ordered.{before_cmp, before_trans, before_total}

order : IsTotalOrder taken_cmp
order =
    then_total (on_total (λ p. p.stop) nat_cmp_total)
    (then_total (on_total (λ p. p.name.time) nat_cmp_total)
    (then_total (on_total (λ p. p.name.serial) nat_cmp_total) (on_total (λ p. p.name.sender) nat_cmp_total)))

less : (o : Ordering) → is_lt o ≡ true → o ≡ Less
less Less e = refl
less Equal e = absurd (both_ways false refl e)
less Greater e = absurd (both_ways false refl e)

-- the comparisons with a name rise along the list
index_rises : (a b q : Taken) → taken_cmp a b ≡ Less → ordering_index (taken_cmp a q) ≤ ordering_index (taken_cmp b q)
index_rises a b q ab = go (taken_cmp b q) refl
  where
    most : (o : Ordering) → ordering_index o ≤ 2
    most Less = omega arith
    most Equal = omega arith
    most Greater = omega arith

    go : (o : Ordering) → taken_cmp b q ≡ o → ordering_index (taken_cmp a q) ≤ ordering_index o
    go Less e = let is = ap ordering_index (order.trans a b q ab e) in omega (arith, is)
    go Equal e = let is = ap ordering_index (sym (alike_right order b q a e) ∙ ab) in omega (arith, is)
    go Greater e = most (taken_cmp a q)

same : (p q : Taken) → taken_cmp p q ≡ Equal → p ≡ q
same p q e = before_total p q (before_cmp p q ∙ ap is_lt e) (before_cmp q p ∙ ap is_lt (tied_back order p q e))

module _ (xs : List Taken) (up : Climbs xs) (q : Taken) where
  pub parted : IsPartitionedBy (λ y. before y q) xs
  parted i j d le l h =
      elim (cases_eq i j) [
        | inl e ↦ subst (λ k. before (get_or xs k d) q ≡ true) (sym e) h
        | inr ne ↦ before_trans (get_or xs i d) (get_or xs j d) q (up i j d (omega arith) l) h
      ]

  pub splits_at : (i : ℕ) → i ≤ length xs → IsPartitionPoint (λ y. before y q ≡ true) (λ y. before y q ≡ false) xs i → Splits xs q i
  splits_at i l w = record { within = l; below = λ k d h. w.0 k d (omega arith) h; above = w.1 }

  rises : IsNonDecreasingBy (λ y. ordering_index (taken_cmp y q)) xs
  rises i j d le l =
      elim (cases_eq i j) [
        | inl e ↦ let is = ap (λ k. ordering_index (taken_cmp (get_or xs k d) q)) e in omega (arith, is)
        | inr ne ↦ index_rises (get_or xs i d) (get_or xs j d) q (less _ (sym (before_cmp (get_or xs i d) (get_or xs j d)) ∙ up i j d (omega arith) l))
      ]

  pub searched : (r : Result ℕ ℕ) → IsSearchInRange r (length xs) → IsBinarySearchResult (λ y. taken_cmp y q) xs r → MatchResult r (λ _. listed xs q.stop q.name ≡ true) (λ i. Absent xs q.stop q.name i)
  searched (Ok i) l here = at_listed xs q.stop q.name i q l (same (get_or xs i q) q (here q))
  searched (Err i) l parts = record {
    none = none;
    splits = record {
      within = l;
      below = λ k d h. before_cmp (get_or xs k d) q ∙ ap is_lt (w.0 k d (omega arith) h);
      above = λ k d h m. before_cmp (get_or xs k d) q ∙ ap is_lt (w.1 k d h m);
    };
  }
    where
      w : IsPartitionPoint (λ y. taken_cmp y q ≡ Less) (λ y. taken_cmp y q ≡ Greater) xs i
      w = parts rises

      none : listed xs q.stop q.name ≡ false
      none =
          elim (cases_Bool (listed xs q.stop q.name)) [
            | inr e ↦ e
            | inl e ↦
                let at = listed_at xs q.stop q.name e in
                let self : taken_cmp (get_or xs at.0 q) q ≡ Equal = ap (λ p. taken_cmp p q) (at.2 q) ∙ tied_itself order q in
                absurd (elim (cases_lt at.0 i) [
                  | inl lt ↦ never (sym (w.0 at.0 q (omega arith) lt) ∙ self)
                  | inr ge ↦ never' (sym (w.1 at.0 q ge at.1) ∙ self)
                ])
          ]
        where
          never : Less ≡ Equal → ⊥
          never e = let z : ◌≡◌ {A = ℕ} 0 1 = ap ordering_index e in omega arith

          never' : Greater ≡ Equal → ⊥
          never' e = let z : ◌≡◌ {A = ℕ} 2 1 = ap ordering_index e in omega arith
