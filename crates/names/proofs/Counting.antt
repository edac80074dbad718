-- How many names a set holds: as many as a list of them has, and no more than any list that covers them.
use Rattle.std.proofs.Common.{◌≡◌, ℕ, zero, suc, ◌+◌, ◌*◌, ◌<◌, ◌≤◌, true, false, cond, ◌||◌, eqb, ltb, ◌⊎◌, List, [], ◌∷◌, ◌++◌, map, length, sym, refl, ap, ◌∙◌, subst, inl, inr, zero-le, arith, length-append}
use Rattle.std.proofs.lemmas.List.{length-map}
use Rattle.std.proofs.lemmas.Bool.{or_cases, or_left, or_right, cases_Bool, both_ways, and_from, eq-eqb, cond-true, cond-false, lt-ltb, cases_eq}
use Rattle.model.specs.declared.answer.Answer.TheVariants.{Done, Seen, Full}
use Rattle.model.specs.declared.record.Name.{Name}
use Rattle.names.specs.declared.taken.Taken.{Taken}
use Rattle.model.specs.Names.{same_name}
use Rattle.names.specs.Held.{Meaning, Counted, Apart, same_taken, listed, most_taken}
use Rattle.names.specs.Changes.{grown}
use Rattle.model.specs.Names.{named}
use Rattle.names.specs.Rows.{Covered, Room, Sized}
use Rattle.names.proofs.Listing.{taken, same_is, is_same, listed_append}

-- the list without the first place at which p stands
strike : Taken → List Taken → List Taken
strike p [] = []
strike p (q ∷ qs) = cond (same_taken q p.stop p.name) qs (q ∷ strike p qs)

strike_length : (p : Taken) (qs : List Taken) → listed qs p.stop p.name ≡ true → suc (length (strike p qs)) ≡ length qs
unfolding strike
strike_length p [] h = absurd (both_ways false refl h)
strike_length p (q ∷ qs) h =
    elim (cases_Bool (same_taken q p.stop p.name)) [
      | inl e ↦ ap (λ zs. suc (length zs)) (cond-true _ qs (q ∷ strike p qs) e)
      | inr e ↦
          ap (λ zs. suc (length zs)) (cond-false _ qs (q ∷ strike p qs) e)
          ∙ ap suc (strike_length p qs (elim (or_cases _ _ h) [ inl t ↦ absurd (both_ways _ e t) | inr t ↦ t ]))
    ]

strike_keeps : (p : Taken) (qs : List Taken) (s : ℕ) (n : Name) → same_taken p s n ≡ false → listed qs s n ≡ true → listed (strike p qs) s n ≡ true
unfolding strike
strike_keeps p [] s n o h = h
strike_keeps p (q ∷ qs) s n o h =
    elim (cases_Bool (same_taken q p.stop p.name)) [
      | inl e ↦
          let is : q ≡ p = same_is q p.stop p.name e in
          subst (λ zs. listed zs s n ≡ true) (sym (cond-true _ qs (q ∷ strike p qs) e))
          (elim (or_cases _ _ h) [ inl t ↦ absurd (both_ways (same_taken p s n) o (subst (λ z. same_taken z s n ≡ true) is t)) | inr t ↦ t ])
      | inr e ↦
          subst (λ zs. listed zs s n ≡ true) (sym (cond-false _ qs (q ∷ strike p qs) e))
          (elim (or_cases (same_taken q s n) (listed qs s n) h) [
            | inl t ↦ or_left (same_taken q s n) (listed (strike p qs) s n) t
            | inr t ↦ or_right (same_taken q s n) (listed (strike p qs) s n) (strike_keeps p qs s n o t)
          ])
    ]

-- names that are apart and stand in a list are no more than the list has
pub covers : (ps qs : List Taken) → Apart ps → ((s : ℕ) (n : Name) → listed ps s n ≡ true → listed qs s n ≡ true) → length ps ≤ length qs
covers [] qs a c = zero-le
covers (p ∷ ps) qs a c =
    let here = c p.stop p.name (or_left _ _ (is_same p.stop p.name)) in
    let long = strike_length p qs here in
    let rest =
    covers ps (strike p qs) a.1
    (λ s n t. elim (cases_Bool (same_taken p s n)) [
      | inl e ↦
          absurd (both_ways (listed ps s n) (subst (λ z. listed ps z.stop z.name ≡ false) (same_is p s n e) a.0) t)
      | inr e ↦ strike_keeps p qs s n e (c s n (or_right _ _ t))
    ])
    in omega (arith, long, rest)

pub covered : Covered
covered m k ps c =
    let fewer = covers k.names ps k.apart (λ s n t. c s n (k.same s n ∙ t)) in
    omega (arith, fewer, k.long)

pub sized : Sized
sized m k a b e =
    let up = covered m a b.names (λ s n t. sym (b.same s n) ∙ ap (λ h. h s n) (sym e) ∙ t) in
    let down = covered k b a.names (λ s n t. sym (a.same s n) ∙ ap (λ h. h s n) e ∙ t) in
    omega (arith, up, down, a.long, b.long)

-- one name more, that was not held
pub counted_grown : (m : Meaning) (s : ℕ) (n : Name) → Counted m → m.holds s n ≡ false → Counted (grown m s n)
counted_grown m s n k f = record {
  names = taken s n ∷ k.names;
  apart = (sym (k.same s n) ∙ f, k.apart);
  long = omega (arith, k.long);
  same = λ t j. ap (λ b. same_taken (taken s n) t j || b) (k.same t j);
}

-- the names of the stops below k, from their rows
of_rows : (ℕ → List Name) → ℕ → List Taken
of_rows rows zero = []
of_rows rows (suc k) = map (taken k) (rows k) ++ of_rows rows k

of_rows_length : (rows : ℕ → List Name) (most : ℕ) → ((s : ℕ) → length (rows s) ≤ most) → (k : ℕ) → length (of_rows rows k) ≤ k * most
unfolding of_rows
of_rows_length rows most short zero = zero-le
of_rows_length rows most short (suc k) =
    let ih = of_rows_length rows most short k in
    let l = length-append (map (taken k) (rows k)) (of_rows rows k) in
    let n = length-map (rows k) (taken k) in
    omega (arith, ih, l, n, short k, suc_mul k most)
  where
    suc_mul : (a b : ℕ) → suc a * b ≡ a * b + b
    suc_mul a b = omega arith

named_listed : (ks : List Name) (s : ℕ) (n : Name) → named ks n ≡ true → listed (map (taken s) ks) s n ≡ true
named_listed [] s n h = h
named_listed (k ∷ ks) s n h =
    elim (or_cases (same_name k n) (named ks n) h) [
      | inl e ↦ or_left _ _ (and_from (eqb s s) (same_name k n) (eq-eqb s s refl) e)
      | inr e ↦ or_right (same_taken (taken s k) s n) _ (named_listed ks s n e)
    ]

of_rows_lists : (rows : ℕ → List Name) (k s : ℕ) (n : Name) → s < k → named (rows s) n ≡ true → listed (of_rows rows k) s n ≡ true
unfolding of_rows
of_rows_lists rows zero s n l h = absurd (omega arith)
of_rows_lists rows (suc k) s n l h =
    let both = listed_append (map (taken k) (rows k)) (of_rows rows k) s n in
    both ∙ elim (last s k) [
      | inl e ↦ or_left _ _ (subst (λ j. listed (map (taken j) (rows j)) s n ≡ true) e (named_listed (rows s) s n h))
      | inr b ↦ or_right (listed (map (taken k) (rows k)) s n) _ (of_rows_lists rows k s n (b l) h)
    ]
  where
    last : (s k : ℕ) → (s ≡ k) ⊎ (s < suc k → s < k)
    last s k = elim (cases_eq s k) [ inl e ↦ inl e | inr ne ↦ inr (λ b. omega arith) ]

-- room in the rows is room in the set
pub room : Room
room m k rows s n f h =
    let all =
    covered (grown m s n) (counted_grown m s n k f) (of_rows rows 32)
    (λ t j e. of_rows_lists rows 32 t j (h.stop t j e) (h.row t j e))
    in
    let few = of_rows_length rows 40 h.short 32 in
    let less : m.size < most_taken = omega (arith, all, few) in
    cond-false (m.holds s n) Seen (cond (ltb m.size most_taken) Done Full) f
    ∙ cond-true (ltb m.size most_taken) Done Full (lt-ltb m.size most_taken less)
