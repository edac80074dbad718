-- A stop's names below a floor stand side by side, between two places.
use Rattle.std.proofs.Common.{◌≡◌, ℕ, ◌+◌, ◌-◌, ◌<◌, ◌≤◌, Bool, true, false, not, ◌&&◌, ◌||◌, List, ◌++◌, length, get_or, take, drop, sym, refl, ap, ◌∙◌, inl, inr, arith, length-drop}
use mathlib.Core.Path.{fun_ext}
use Rattle.std.specs.List.{between}
use Rattle.std.proofs.lemmas.List.{get_or-take, get_or-drop, length-take, length-append}
use Rattle.std.proofs.lemmas.List.Edits.{split_between}
use Rattle.std.proofs.lemmas.Bool.{both_ways, cases_lt}
use Rattle.std.proofs.lemmas.Bool.Decides.{nat_tests}
use Rattle.model.specs.declared.record.Name.{Name}
use Rattle.names.specs.declared.taken.Taken.{Taken}
use Rattle.names.specs.Held.{listed}
use Rattle.names.specs.Changes.{is_below, without_below}
use Rattle.names.proofs.Listing.{taken, listed_append, all_pass, none_pass}
use Rattle.sorted_names.specs.Order.{before, first_at, Splits}

-- not one of the stop's names below the floor
abbrev keep : ℕ → ℕ → Taken → Bool
keep s floor p = not (is_below s floor p)

keep_below : (s floor : ℕ) (p : Taken) → before p (first_at s 0) ≡ true → keep s floor p ≡ true
keep_below s floor p h = grind (arith, nat_tests)

keep_above : (s floor : ℕ) (p : Taken) → before p (first_at s floor) ≡ false → keep s floor p ≡ true
keep_above s floor p h = grind (arith, nat_tests)

keep_between : (s floor : ℕ) (p : Taken) → before p (first_at s 0) ≡ false → before p (first_at s floor) ≡ true → keep s floor p ≡ false
keep_between s floor p h k = grind (arith, nat_tests)

module _ (xs : List Taken) (s floor a b : ℕ) (low : Splits xs (first_at s 0) a) (high : Splits xs (first_at s floor) b) where
  pub closed_holds : a ≤ b → listed (take a xs ++ drop b xs) ≡ without_below (listed xs) s floor
  closed_holds ab = fun_ext (λ t. fun_ext (λ n. at t n))
    where
      front : (t : ℕ) (n : Name) → listed (take a xs) t n ≡ (listed (take a xs) t n && keep s floor (taken t n))
      front = all_pass (keep s floor) (take a xs) (λ k d l.
          let short = length-take a xs in
          let lt : k < a = omega arith in
          ap (keep s floor) (get_or-take a xs k d lt) ∙ keep_below s floor (get_or xs k d) (low.below k d lt))

      gap : (t : ℕ) (n : Name) → (listed (between a b xs) t n && keep s floor (taken t n)) ≡ false
      gap = none_pass (keep s floor) (between a b xs) (λ k d l.
          let size = length-take (b - a) (drop a xs) in
          let left = length-drop a xs in
          let lt : k < b - a = omega arith in
          let is : get_or (between a b xs) k d ≡ get_or xs (a + k) d = get_or-take (b - a) (drop a xs) k d lt ∙ get_or-drop a xs k d in
          ap (keep s floor) is
          ∙ keep_between s floor (get_or xs (a + k) d) (low.above (a + k) d (omega arith) (omega arith)) (high.below (a + k) d (omega arith)))

      back : (t : ℕ) (n : Name) → listed (drop b xs) t n ≡ (listed (drop b xs) t n && keep s floor (taken t n))
      back = all_pass (keep s floor) (drop b xs) (λ k d l.
          let left = length-drop b xs in
          ap (keep s floor) (get_or-drop b xs k d) ∙ keep_above s floor (get_or xs (b + k) d) (high.above (b + k) d (omega arith) (omega arith)))

      joined : (x y z q : Bool) → x ≡ (x && q) → (y && q) ≡ false → z ≡ (z && q) → (x || z) ≡ ((x || (y || z)) && q)
      joined true y z true f g h = refl
      joined true y z false f g h = f
      joined false true z true f g h = absurd (let e : ◌≡◌ {A = ℕ} 0 1 = cc in omega arith)
      joined false true z false f g h = h ∙ and_no z
        where
          and_no : (w : Bool) → (w && false) ≡ false
          and_no true = refl
          and_no false = refl
      joined false false z q f g h = h

      at : (t : ℕ) (n : Name) → listed (take a xs ++ drop b xs) t n ≡ (listed xs t n && keep s floor (taken t n))
      at t n =
          listed_append (take a xs) (drop b xs) t n
          ∙ joined (listed (take a xs) t n) (listed (between a b xs) t n) (listed (drop b xs) t n) (keep s floor (taken t n)) (front t n) (gap t n) (back t n)
          ∙ ap (λ w. w && keep s floor (taken t n))
          (sym (ap (λ zs. listed zs t n) (split_between xs a b ab)
          ∙ listed_append (take a xs) (between a b xs ++ drop b xs) t n
          ∙ ap (λ w. listed (take a xs) t n || w) (listed_append (between a b xs) (drop b xs) t n)))

  -- the first place at a floor is not below the stop's first
  pub in_turn : a ≤ b
  in_turn =
      elim (cases_lt b a) [
        | inr le ↦ le
        | inl lt ↦
            let p = get_or xs b (first_at s 0) in
            absurd (both_ways (before p (first_at s floor)) (high.above b (first_at s 0) (omega arith) (omega (arith, low.within)))
            (floor_after p (low.below b (first_at s 0) lt)))
      ]
    where
      floor_after : (p : Taken) → before p (first_at s 0) ≡ true → before p (first_at s floor) ≡ true
      floor_after p h = grind (arith, nat_tests)

  pub closed_short : length (take a xs ++ drop b xs) ≤ length xs
  closed_short =
      let both = length-append (take a xs) (drop b xs) in
      let front = length-take a xs in
      let back = length-drop b xs in
      omega (arith, both, front, back, in_turn, low.within)
