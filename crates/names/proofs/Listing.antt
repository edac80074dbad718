-- What it means that a name is listed: by places, and over lists that are joined.
use Rattle.std.proofs.Common.{◌≡◌, ℕ, zero, suc, ◌<◌, Bool, true, false, ◌&&◌, ◌||◌, eqb, List, [], ◌∷◌, ◌++◌, length, get_or, sym, refl, ap, ◌∙◌, subst, inl, inr, arith}
use Rattle.std.proofs.lemmas.Bool.{and_parts, and_from, and_left, and_right, or_cases, or_left, or_right, eqb-true, eq-eqb, cases_Bool, both_ways}
use Rattle.model.specs.declared.record.Name.{Name}
use Rattle.names.specs.declared.taken.Taken.{Taken}
use Rattle.model.specs.Names.{same_name}
use Rattle.names.specs.Held.{same_taken, listed}

pub or_swap : (a b c : Bool) → (a || (b || c)) ≡ (b || (a || c))
or_swap true true c = refl
or_swap true false c = refl
or_swap false b c = refl

-- a name taken at a stop
abbrev pub taken : ℕ → Name → Taken
taken s n = record { stop = s; name = n }

same_name_lem : (a b : Name) → same_name a b ≡ true → a ≡ b
same_name_lem a b h =
    let p = and_parts (eqb a.serial b.serial) (eqb a.time b.time && eqb a.sender b.sender) h in
    let q = and_parts (eqb a.time b.time) (eqb a.sender b.sender) p.1 in
    let serial : a.serial ≡ b.serial = eqb-true _ _ p.0 in
    let time : a.time ≡ b.time = eqb-true _ _ q.0 in
    let sender : a.sender ≡ b.sender = eqb-true _ _ q.1 in
    λ i. record { sender = sender i; serial = serial i; time = time i }

pub same_is : (p : Taken) (s : ℕ) (n : Name) → same_taken p s n ≡ true → p ≡ taken s n
same_is p s n h =
    let q = and_parts (eqb p.stop s) (same_name p.name n) h in
    let stop : p.stop ≡ s = eqb-true _ _ q.0 in
    let name : p.name ≡ n = same_name_lem p.name n q.1 in
    λ i. record { stop = stop i; name = name i }

pub is_same : (s : ℕ) (n : Name) → same_taken (taken s n) s n ≡ true
is_same s n =
    and_from _ _ (eq-eqb s s refl)
    (and_from _ _ (eq-eqb n.serial n.serial refl) (and_from _ _ (eq-eqb n.time n.time refl) (eq-eqb n.sender n.sender refl)))

-- names are equal, part by part in the order of the fields, where they are the same
pub equal_same : (p q : Taken) → same_taken p q.stop q.name ≡ (eqb p.stop q.stop && (eqb p.name.sender q.name.sender && (eqb p.name.serial q.name.serial && eqb p.name.time q.name.time)))
equal_same p q = turned (eqb p.stop q.stop) (eqb p.name.sender q.name.sender) (eqb p.name.serial q.name.serial) (eqb p.name.time q.name.time)
  where
    turned : (a b c d : Bool) → (a && (c && (d && b))) ≡ (a && (b && (c && d)))
    turned false b c d = refl
    turned true true false d = refl
    turned true true true true = refl
    turned true true true false = refl
    turned true false false d = refl
    turned true false true true = refl
    turned true false true false = refl

pub listed_append : (xs ys : List Taken) (s : ℕ) (n : Name) → listed (xs ++ ys) s n ≡ (listed xs s n || listed ys s n)
listed_append [] ys s n = refl
listed_append (x ∷ xs) ys s n =
    let ih = listed_append xs ys s n in
    ap (λ b. same_taken x s n || b) ih ∙ or_assoc (same_taken x s n) (listed xs s n) (listed ys s n)
  where
    or_assoc : (a b c : Bool) → (a || (b || c)) ≡ ((a || b) || c)
    or_assoc true b c = refl
    or_assoc false b c = refl

-- what is listed stands at some place
pub listed_at : (xs : List Taken) (s : ℕ) (n : Name) → listed xs s n ≡ true → (k : ℕ) × (k < length xs) × ((d : Taken) → get_or xs k d ≡ taken s n)
listed_at [] s n h = absurd (both_ways false refl h)
listed_at (x ∷ xs) s n h =
    elim (or_cases (same_taken x s n) (listed xs s n) h) [
      | inl e ↦ (0, omega arith, λ d. same_is x s n e)
      | inr e ↦ let r = listed_at xs s n e in (suc r.0, omega (arith, r.1), r.2)
    ]

pub at_listed : (xs : List Taken) (s : ℕ) (n : Name) (k : ℕ) (d : Taken) → k < length xs → get_or xs k d ≡ taken s n → listed xs s n ≡ true
at_listed [] s n k d l e = absurd (omega arith)
at_listed (x ∷ xs) s n zero d l e =
    or_left _ _ (subst (λ y. same_taken y s n ≡ true) (sym e) (is_same s n))
at_listed (x ∷ xs) s n (suc k) d l e = or_right _ _ (at_listed xs s n k d (omega arith) e)

-- names that all pass a test, or all fail it, as a filter by the test sees them
pub all_pass : (keep : Taken → Bool) (xs : List Taken) → ((k : ℕ) (d : Taken) → k < length xs → keep (get_or xs k d) ≡ true) → (s : ℕ) (n : Name) → listed xs s n ≡ (listed xs s n && keep (taken s n))
all_pass keep xs f s n =
    elim (cases_Bool (listed xs s n)) [
      | inl e ↦
          let at = listed_at xs s n e in
          let pass : keep (taken s n) ≡ true = subst (λ p. keep p ≡ true) (at.2 (taken s n)) (f at.0 (taken s n) at.1) in
          e ∙ sym (and_from _ _ e pass)
      | inr e ↦ e ∙ sym (and_left _ (keep (taken s n)) e)
    ]

pub none_pass : (keep : Taken → Bool) (xs : List Taken) → ((k : ℕ) (d : Taken) → k < length xs → keep (get_or xs k d) ≡ false) → (s : ℕ) (n : Name) → (listed xs s n && keep (taken s n)) ≡ false
none_pass keep xs f s n =
    elim (cases_Bool (listed xs s n)) [
      | inl e ↦
          let at = listed_at xs s n e in
          and_right (listed xs s n) _ (subst (λ p. keep p ≡ false) (at.2 (taken s n)) (f at.0 (taken s n) at.1))
      | inr e ↦ and_left _ (keep (taken s n)) e
    ]
