-- Sums over the stops. Assumes nothing.
use Rattle.std.proofs.Common.{◌≡◌, ℕ, zero, suc, ◌+◌, ◌<◌, ◌≤◌, Bool, true, false, cond, eqb, List, [], ◌∷◌, map, filter, refl, ap, inl, inr, arith}
use Rattle.std.proofs.lemmas.Bool.{cases_eq, eq-eqb, ne_eqb}
use Rattle.model.specs.declared.record.Record.{Record}
use Rattle.law.specs.Lists.{Mem, total}
use Rattle.law.specs.Stops.{sum_below}

pub sum_same : (f g : ℕ → ℕ) (n : ℕ) → ((s : ℕ) → s < n → f s ≡ g s) → sum_below f n ≡ sum_below g n
unfolding sum_below
sum_same f g zero same = refl
sum_same f g (suc n) same =
    let below = sum_same f g n (λ s h. same s (omega arith)) in
    let here = same n (omega arith) in
    omega arith

pub sum_plus : (f g : ℕ → ℕ) (n : ℕ) → sum_below (λ s. f s + g s) n ≡ sum_below f n + sum_below g n
unfolding sum_below
sum_plus f g zero = refl
sum_plus f g (suc n) = let below = sum_plus f g n in omega arith

sum_none : (n : ℕ) → sum_below (λ s. 0) n ≡ 0
unfolding sum_below
sum_none zero = refl
sum_none (suc n) = let below = sum_none n in omega arith

-- an amount that stands at one stop
sum_above : (k a n : ℕ) → n ≤ k → sum_below (λ s. cond (eqb k s) a 0) n ≡ 0
unfolding sum_below
sum_above k a zero h = refl
sum_above k a (suc n) h =
    let below = sum_above k a n (omega arith) in
    let ne : k ≡ n → ⊥ = λ e. wrong e in
    let here : cond (eqb k n) a 0 ≡ 0 = ap (λ b. cond b a 0) (ne_eqb k n ne) in
    omega arith
  where
    wrong : k ≡ n → ⊥
    wrong e = omega arith

sum_one : (k a n : ℕ) → k < n → sum_below (λ s. cond (eqb k s) a 0) n ≡ a
unfolding sum_below
sum_one k a zero h = absurd (wrong h)
  where
    wrong : k < 0 → ⊥
    wrong l = omega arith
sum_one k a (suc n) h = elim (cases_eq k n) [ inl e ↦ last e | inr ne ↦ before ne (sum_one k a n (earlier ne)) ]
  where
    earlier : (k ≡ n → ⊥) → k < n
    earlier ne = omega arith

    last : k ≡ n → sum_below (λ s. cond (eqb k s) a 0) n + cond (eqb k n) a 0 ≡ a
    last e =
        let below = sum_above k a n (omega arith) in
        let here : cond (eqb k n) a 0 ≡ a = ap (λ b. cond b a 0) (eq-eqb k n e) in
        omega arith

    before
        : (k ≡ n → ⊥)
        → sum_below (λ s. cond (eqb k s) a 0) n ≡ a → sum_below (λ s. cond (eqb k s) a 0) n + cond (eqb k n) a 0 ≡ a
    before ne below =
        let here : cond (eqb k n) a 0 ≡ 0 = ap (λ b. cond b a 0) (ne_eqb k n ne) in
        omega arith

-- the amounts of records
abbrev pub amounts : List Record → ℕ
amounts rs = total (map (λ r. r.amount) rs)

abbrev at : ℕ → List Record → List Record
at s rs = filter (λ r. eqb r.stop s) rs

-- records by their stops are all the records
pub sum_by_stop
    : (n : ℕ) (rs : List Record)
    → ((r : Record) → Mem r rs → r.stop < n) → sum_below (λ s. amounts (at s rs)) n ≡ amounts rs
sum_by_stop n [] f = sum_none n
sum_by_stop n (r ∷ rs) f =
    let below = sum_by_stop n rs (λ x m. f x (inr m)) in
    let here = sum_one r.stop r.amount n (f r (inl refl)) in
    let both = sum_plus (λ s. cond (eqb r.stop s) r.amount 0) (λ s. amounts (at s rs)) n in
    let split =
    sum_same
    (λ s. amounts (at s (r ∷ rs))) (λ s. cond (eqb r.stop s) r.amount 0 + amounts (at s rs)) n
    (λ s h. parts s (eqb r.stop s)) in
    omega arith
  where
    parts : (s : ℕ) (b : Bool) → amounts (cond b (r ∷ at s rs) (at s rs)) ≡ cond b r.amount 0 + amounts (at s rs)
    parts s true = refl
    parts s false = omega arith
