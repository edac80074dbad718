-- Why the search finds what is stored.
use Rattle.std.proofs.Common.{◌≡◌, ℕ, ◌+◌, ◌-◌, ◌%◌, ◌<◌, ◌≤◌, true, false, List, length, get_or, set, replicate, is_some, Some, None, Option, sym, refl, ap, ◌∙◌, subst, inl, inr, arith}
use Rattle.std.proofs.lemmas.List.{get_or-set_same, get_or-set_other, get_or_default, length-set}
use Rattle.std.proofs.lemmas.Bool.{both_ways, cases_Bool, cases_eq, cases_order, cases_lt}
use Rattle.model.specs.declared.record.Name.{Name}
use Rattle.names.specs.declared.taken.Taken.{Taken}
use Rattle.names.specs.Held.{same_taken, listed}
use Rattle.names.proofs.Listing.{taken, is_same}
use Rattle.hashed_names.specs.Probing.{home_of, place_of, stored, at, Reached, Chained}
use Rattle.hashed_names.specs.declared.places.Places.{Places}
use Rattle.hashed_names.specs.Places.{slots_of, FreeAt, Crowded}
use Rattle.hashed_names.proofs.Storing.{stored_at, at_stored, length-crowded, at_none}

pub long : (p : Places) → length (slots_of p) ≡ 2048
long p = sym p.slots.ok.0 ∙ p.long

-- a place that another name has taken
abbrev pub Other : Option Taken → ℕ → Name → Type 0
Other None s n = ⊥
Other (Some p) s n = same_taken p s n ≡ false

-- the search has passed k places
abbrev pub Passed : List (Option Taken) → ℕ → Name → ℕ → Type 0
Passed xs s n k = (j : ℕ) → j < k → Other (at xs (place_of s n j)) s n

other_some : (o : Option Taken) (s : ℕ) (n : Name) → Other o s n → is_some o ≡ true
other_some None s n h = absurd h
other_some (Some p) s n h = refl

not_it : (o : Option Taken) (s : ℕ) (n : Name) → Other o s n → o ≡ Some (taken s n) → ⊥
not_it o s n h e = both_ways (same_taken (taken s n) s n) (subst (λ p. Other p s n) e h) (is_same s n)

never : {p : Taken} (o : Option Taken) → o ≡ None → o ≡ Some p → ⊥
never o a b = let z : ◌≡◌ {A = ℕ} 0 1 = cc in omega arith

vacant : (o : Option Taken) → o ≡ None → is_some o ≡ true → ⊥
vacant o e h = both_ways (is_some o) (ap is_some e) h

-- the search ends at a free place
pub ends_free : (xs : List (Option Taken)) (s : ℕ) (n : Name) (k : ℕ) → Passed xs s n k → place_of s n k < length xs → length xs ≡ 2048 → at xs (place_of s n k) ≡ None → FreeAt xs s n (place_of s n k)
ends_free xs s n k passed l size e = record {
  within = omega arith;
  empty = e;
  reached = record { steps = k; place = refl; taken = λ j h. other_some _ s n (passed j h) };
  absent = none;
}
  where
    none : Chained xs → listed (stored xs) s n ≡ false
    none chained =
        elim (cases_Bool (listed (stored xs) s n)) [
          | inr f ↦ f
          | inl t ↦
              let found = stored_at xs s n t in
              let way = chained found.0 (taken s n) found.1 found.2 in
              let here : at xs (place_of s n way.steps) ≡ Some (taken s n) = ap (at xs) (sym way.place) ∙ found.2 in
              absurd (elim (cases_order way.steps k) [
                | inl same ↦ never _ e (ap (λ j. at xs (place_of s n j)) (sym same) ∙ here)
                | inr apart ↦
                    elim apart [
                      | inl less ↦ not_it _ s n (passed way.steps less) here
                      | inr more ↦ vacant _ e (way.taken k more)
                    ]
              ])
        ]

-- every place comes up in the search
all_places : (h i : ℕ) → h < 2048 → i < 2048 → (k : ℕ) × (k < 2048) × ((h + k) % 2048 ≡ i)
all_places h i a b =
    elim (cases_lt i h) [
      | inl less ↦ (i + 2048 - h, omega arith, omega arith)
      | inr more ↦ (i - h, omega arith, omega arith)
    ]

-- the search has passed every place
pub ends_nowhere : (xs : List (Option Taken)) (s : ℕ) (n : Name) → home_of s n < 2048 → Passed xs s n 2048 → length xs ≡ 2048 → Crowded xs s n
ends_nowhere xs s n home passed size = record { absent = none; full = length-crowded xs (λ i l. other_some _ s n (each i l)) ∙ size }
  where
    each : (i : ℕ) → i < length xs → Other (at xs i) s n
    each i l =
        let k = all_places (home_of s n) i home (omega arith) in
        subst (λ j. Other (at xs j) s n) k.2 (passed k.0 k.1)

    none : listed (stored xs) s n ≡ false
    none =
        elim (cases_Bool (listed (stored xs) s n)) [
          | inr f ↦ f
          | inl t ↦ let found = stored_at xs s n t in absurd (not_it _ s n (each found.0 found.1) found.2)
        ]

-- what is taken stays taken
taken_put : (xs : List (Option Taken)) (i : ℕ) (p : Taken) (j : ℕ) → i < length xs → is_some (at xs j) ≡ true → is_some (at (set xs i (Some p)) j) ≡ true
taken_put xs i p j l h =
    elim (cases_eq j i) [
      | inl e ↦ ap (λ k. is_some (at (set xs i (Some p)) k)) e ∙ ap is_some (get_or-set_same xs i (Some p) None l)
      | inr ne ↦ ap is_some (get_or-set_other xs i j (Some p) None ne) ∙ h
    ]

reached_put : {xs : List (Option Taken)} {s : ℕ} {n : Name} {k : ℕ} (i : ℕ) (p : Taken) → i < length xs → Reached xs s n k → Reached (set xs i (Some p)) s n k
reached_put {xs} {s} {n} {k} i p l r = record { steps = r.steps; place = r.place; taken = λ j h. taken_put xs i p (place_of s n j) l (r.taken j h) }

-- a name that takes the free place at the end of its search is found, and all others still are
pub chained_put : (xs : List (Option Taken)) (i s : ℕ) (n : Name) → i < length xs → Reached xs s n i → Chained xs → Chained (set xs i (Some (taken s n)))
chained_put xs i s n l reached chained j p m e =
    elim (cases_eq j i) [
      | inl same ↦
          let put : Some (taken s n) ≡ Some p = sym (get_or-set_same xs i (Some (taken s n)) None l) ∙ ap (at (set xs i (Some (taken s n)))) (sym same) ∙ e in
          let is : taken s n ≡ p = cc in
          let way : Reached (set xs i (Some (taken s n))) s n i = reached_put i (taken s n) l reached in
          let here : Reached (set xs i (Some (taken s n))) s n j = subst (λ k. Reached (set xs i (Some (taken s n))) s n k) (sym same) way in
          subst (λ (q : Taken). Reached (set xs i (Some (taken s n))) q.stop q.name j) is here
      | inr ne ↦
          reached_put i (taken s n) l
          (chained j p (omega (arith, length-set xs i (Some (taken s n)))) (sym (get_or-set_other xs i j (Some (taken s n)) None ne) ∙ e))
    ]

pub chained_none : (k : ℕ) → Chained (replicate k None)
chained_none k i p l e = absurd (never _ (at_none k i) e)

-- the same of a place as the code has it: from the home h, with what was read there
module _ (xs : List (Option Taken)) (s : ℕ) (n : Name) (h k : ℕ) (size : length xs ≡ 2048) (home : h ≡ home_of s n) (o : Option Taken) (read : o ≡ get_or xs ((h + k) % 2048) o) where
  looked : o ≡ at xs ((h + k) % 2048)
  looked = let within : (h + k) % 2048 < length xs = omega arith in read ∙ get_or_default xs ((h + k) % 2048) o None within

  pub free_here : Passed xs s n k → o ≡ None → FreeAt xs s n ((h + k) % 2048)
  free_here passed e =
      let is : (h + k) % 2048 ≡ place_of s n k = ap (λ x. (x + k) % 2048) home in
      subst (FreeAt xs s n) (sym is)
      (ends_free xs s n k passed (omega arith) size (ap (at xs) (sym is) ∙ sym looked ∙ e))

  pub stored_here : (p : Taken) → o ≡ Some p → same_taken p s n ≡ true → listed (stored xs) s n ≡ true
  stored_here p e same = at_stored xs s n ((h + k) % 2048) p (sym looked ∙ e) same

  pub passed_more : (p : Taken) → Passed xs s n k → o ≡ Some p → same_taken p s n ≡ false → Passed xs s n (k + 1)
  passed_more p passed e other j l =
      elim (cases_eq j k) [
        | inl is ↦ subst (λ i. Other (at xs (place_of s n i)) s n) (sym is) (subst (λ x. Other x s n) (sym here) other)
        | inr ne ↦ passed j (omega arith)
      ]
    where
      here : at xs (place_of s n k) ≡ Some p
      here = sym (ap (λ x. at xs ((x + k) % 2048)) home) ∙ sym looked ∙ e

pub all_passed : (xs : List (Option Taken)) (s : ℕ) (n : Name) (k : ℕ) → 2048 ≤ k → Passed xs s n k → length xs ≡ 2048 → Crowded xs s n
all_passed xs s n k l passed size = ends_nowhere xs s n home (λ j m. passed j (omega arith)) size
  where
    home : home_of s n < 2048
    home = omega arith
