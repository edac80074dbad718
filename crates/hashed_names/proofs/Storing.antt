-- What is stored in places, as one of them is taken, and place by place.
use Rattle.std.proofs.Common.{◌≡◌, ℕ, zero, suc, ◌+◌, ◌<◌, ◌≤◌, true, false, ◌||◌, List, [], ◌∷◌, ◌++◌, length, set, replicate, is_some, Some, None, Option, sym, refl, ap, ◌∙◌, subst, inl, inr, arith}
use Rattle.std.proofs.lemmas.Bool.{or_cases, or_left, or_right, or_from, or_parts, both_ways, cases_Bool}
use Rattle.model.specs.declared.record.Name.{Name}
use Rattle.names.specs.declared.taken.Taken.{Taken}
use Rattle.names.specs.Held.{Apart, same_taken, listed}
use Rattle.names.proofs.Listing.{or_swap, taken, same_is, is_same}
use Rattle.hashed_names.specs.Probing.{stored, at}

-- what is stored stands at some place
pub stored_at : (xs : List (Option Taken)) (s : ℕ) (n : Name) → listed (stored xs) s n ≡ true → (i : ℕ) × (i < length xs) × (at xs i ≡ Some (taken s n))
stored_at [] s n h = absurd (both_ways false refl h)
stored_at (None ∷ xs) s n h = let r = stored_at xs s n h in (suc r.0, omega (arith, r.1), r.2)
stored_at (Some p ∷ xs) s n h =
    elim (or_cases (same_taken p s n) (listed (stored xs) s n) h) [
      | inl e ↦ (0, omega arith, ap Some (same_is p s n e))
      | inr e ↦ let r = stored_at xs s n e in (suc r.0, omega (arith, r.1), r.2)
    ]

-- what stands at a place is stored
pub at_stored : (xs : List (Option Taken)) (s : ℕ) (n : Name) (i : ℕ) (p : Taken) → at xs i ≡ Some p → same_taken p s n ≡ true → listed (stored xs) s n ≡ true
at_stored [] s n i p e h = absurd (let z : ◌≡◌ {A = ℕ} 0 1 = cc in omega arith)
at_stored (None ∷ xs) s n zero p e h = absurd (let z : ◌≡◌ {A = ℕ} 0 1 = cc in omega arith)
at_stored (None ∷ xs) s n (suc i) p e h = at_stored xs s n i p e h
at_stored (Some q ∷ xs) s n zero p e h =
    let is : q ≡ p = cc in
    or_left _ _ (subst (λ z. same_taken z s n ≡ true) (sym is) h)
at_stored (Some q ∷ xs) s n (suc i) p e h = or_right (same_taken q s n) _ (at_stored xs s n i p e h)

-- a free place is taken
pub listed_put : (xs : List (Option Taken)) (i : ℕ) (p : Taken) → i < length xs → at xs i ≡ None → (s : ℕ) (n : Name) → listed (stored (set xs i (Some p))) s n ≡ (same_taken p s n || listed (stored xs) s n)
listed_put [] i p l e s n = absurd (omega arith)
listed_put (None ∷ xs) zero p l e s n = refl
listed_put (None ∷ xs) (suc i) p l e s n = listed_put xs i p (omega arith) e s n
listed_put (Some q ∷ xs) zero p l e s n = absurd (let z : ◌≡◌ {A = ℕ} 0 1 = cc in omega arith)
listed_put (Some q ∷ xs) (suc i) p l e s n =
    ap (λ b. same_taken q s n || b) (listed_put xs i p (omega arith) e s n) ∙ or_swap (same_taken q s n) (same_taken p s n) (listed (stored xs) s n)

pub length-put : (xs : List (Option Taken)) (i : ℕ) (p : Taken) → i < length xs → at xs i ≡ None → length (stored (set xs i (Some p))) ≡ length (stored xs) + 1
length-put [] i p l e = absurd (omega arith)
length-put (None ∷ xs) zero p l e = omega arith
length-put (None ∷ xs) (suc i) p l e = length-put xs i p (omega arith) e
length-put (Some q ∷ xs) zero p l e = absurd (let z : ◌≡◌ {A = ℕ} 0 1 = cc in omega arith)
length-put (Some q ∷ xs) (suc i) p l e = let ih = length-put xs i p (omega arith) e in omega (arith, ih)

pub apart_put : (xs : List (Option Taken)) (i : ℕ) (p : Taken) → i < length xs → at xs i ≡ None → listed (stored xs) p.stop p.name ≡ false → Apart (stored xs) → Apart (stored (set xs i (Some p)))
apart_put [] i p l e none a = absurd (omega arith)
apart_put (None ∷ xs) zero p l e none a = (none, a)
apart_put (None ∷ xs) (suc i) p l e none a = apart_put xs i p (omega arith) e none a
apart_put (Some q ∷ xs) zero p l e none a = absurd (let z : ◌≡◌ {A = ℕ} 0 1 = cc in omega arith)
apart_put (Some q ∷ xs) (suc i) p l e none a =
    let parts = or_parts (same_taken q p.stop p.name) (listed (stored xs) p.stop p.name) none in (
      listed_put xs i p (omega arith) e q.stop q.name
          ∙ or_from _ _ (other q p parts.0) a.0,
      apart_put xs i p (omega arith) e parts.1 a.1,
    )
  where
    other : (q p : Taken) → same_taken q p.stop p.name ≡ false → same_taken p q.stop q.name ≡ false
    other q p f =
        elim (cases_Bool (same_taken p q.stop q.name)) [
          | inl t ↦
              let is : p ≡ q = same_is p q.stop q.name t in
              absurd (both_ways _ f (subst (λ z. same_taken z p.stop p.name ≡ true) is (is_same p.stop p.name)))
          | inr g ↦ g
        ]

-- where no place is free, as many names are stored as there are places
pub length-crowded : (xs : List (Option Taken)) → ((i : ℕ) → i < length xs → is_some (at xs i) ≡ true) → length (stored xs) ≡ length xs
length-crowded [] f = refl
length-crowded (None ∷ xs) f = absurd (both_ways false refl (f 0 (omega arith)))
length-crowded (Some p ∷ xs) f = ap suc (length-crowded xs (λ i l. f (suc i) (omega arith)))

-- nothing is stored in free places
pub stored_none : (k : ℕ) → stored (replicate k None) ≡ []
stored_none zero = refl
stored_none (suc k) = stored_none k

pub at_none : (k i : ℕ) → at (replicate k None) i ≡ None
at_none zero i = refl
at_none (suc k) zero = refl
at_none (suc k) (suc i) = at_none k i

-- the names in the first places
pub stored_push_none : (xs : List (Option Taken)) → stored (xs ++ None ∷ []) ≡ stored xs
stored_push_none [] = refl
stored_push_none (None ∷ xs) = stored_push_none xs
stored_push_none (Some p ∷ xs) = ap (λ ps. p ∷ ps) (stored_push_none xs)

pub stored_push_some : (xs : List (Option Taken)) (p : Taken) → stored (xs ++ Some p ∷ []) ≡ stored xs ++ p ∷ []
stored_push_some [] p = refl
stored_push_some (None ∷ xs) p = stored_push_some xs p
stored_push_some (Some q ∷ xs) p = ap (λ ps. q ∷ ps) (stored_push_some xs p)

pub length-stored : (xs : List (Option Taken)) → length (stored xs) ≤ length xs
length-stored [] = omega arith
length-stored (None ∷ xs) = let ih = length-stored xs in omega (arith, ih)
length-stored (Some p ∷ xs) = let ih = length-stored xs in omega (arith, ih)
