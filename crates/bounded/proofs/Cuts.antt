-- Lists that grow up to a bound. Assumes nothing.
use Rattle.std.proofs.Common.{◌≡◌, ℕ, ◌+◌, ◌-◌, ◌<◌, ◌≤◌, min, Bool, true, false, not, filter, cond, ltb, List, [], ◌∷◌, ◌++◌, length, get_or, take, drop, sym, refl, ap, ◌∙◌, append_assoc, append-nil, add-one, arith, length-append, length-drop, lt-ltb, ltb-false, ltb-true}
use native.Mathlib.Nat.{sub-zero}
use Rattle.std.specs.List.{remove}
use Rattle.std.proofs.lemmas.List.{take_more, take_all, take-append-le, length-take, length-take-le, length_push}
use Rattle.std.proofs.lemmas.List.Elements.{filter_more}
use Rattle.std.proofs.lemmas.List.Filters.{length-filter_both}
use Rattle.bounded.specs.Lists.{pushed}

-- one more item, if there is room, of a list that is cut at n
pub cut_push : {X : Type 0} (n : ℕ) (zs ys : List X) (x : X) → ys ≡ take n zs → pushed n x ys ≡ take n (zs ++ x ∷ [])
cut_push {X} n zs ys x e = go (ltb (length ys) n) refl
  where
    long : length ys ≡ min n (length zs)
    long = ap length e ∙ length-take n zs

    go : (b : Bool) → ltb (length ys) n ≡ b → cond b (ys ++ x ∷ []) ys ≡ take n (zs ++ x ∷ [])
    go true t =
        let l : length ys < n = ltb-true _ _ t in
        let m : length zs ≤ n = omega (arith, long) in
        let p : length (zs ++ x ∷ []) ≤ n = rw length_push (omega (arith, long)) in
        ap (λ (ws : List X). ws ++ x ∷ []) (e ∙ take_all n zs m) ∙ sym (take_all n _ p)
    go false t =
        let l : n ≤ length ys = ltb-false _ _ t in
        let m : n ≤ length zs = omega (arith, long) in
        e ∙ sym (take-append-le n zs (x ∷ []) m)

-- the same, of an item that was read from xs
pub pushed_more : {X : Type 0} (n : ℕ) (base xs ys : List X) (i : ℕ) (x : X) → i < length xs → x ≡ get_or xs i x →
    ys ≡ take n (base ++ take i xs) → pushed n x ys ≡ take n (base ++ take (i + 1) xs)
pushed_more {X} n base xs ys i x h is e =
    cut_push n (base ++ take i xs) ys x e
    ∙ ap (take n) (append_assoc base (take i xs) (x ∷ []) ∙ ap (λ (ws : List X). base ++ ws) (ap (λ (y : X). take i xs ++ y ∷ []) is ∙ sym (take_more xs i x h)))

-- nothing is cut from a list that is short enough
pub uncut : {X : Type 0} (n : ℕ) (ys : List X) → length ys ≤ n → ys ≡ take n (ys ++ [])
uncut n ys h = sym (ap (take n) (append-nil ys) ∙ take_all n ys h)

-- what stands before a place, and then what stands behind it, is all but the item at the place
pub without
    : {X : Type 0} (n i : ℕ) (xs none front rest : List X)
    → i < length xs
    → length xs ≤ n
    → none ≡ []
    → front ≡ take n (none ++ take (i - 0) xs)
    → rest ≡ take n (front ++ take (length xs - (i + 1)) (drop (i + 1) xs))
    → rest ≡ remove xs i
without {X} n i xs none front rest h short e f r =
    let behind : take (length xs - (i + 1)) (drop (i + 1) xs) ≡ drop (i + 1) xs = take_all (length xs - (i + 1)) (drop (i + 1) xs) (rw length-drop (omega arith)) in
    let before : front ≡ take i xs =
    f ∙ ap (λ (ys : List X). take n (ys ++ take (i - 0) xs)) e ∙ ap (λ (k : ℕ). take n (take k xs)) (sub-zero i) ∙ take_all n (take i xs) (rw length-take (omega arith)) in
    let fits : length (take i xs ++ drop (i + 1) xs) ≤ n = rw (length-append, length-take, length-drop) (omega arith) in
    r ∙ ap (λ (ys : List X). take n (ys ++ take (length xs - (i + 1)) (drop (i + 1) xs))) before
    ∙ ap (λ (ys : List X). take n (take i xs ++ ys)) behind
    ∙ take_all n _ fits
    ∙ ap (λ (k : ℕ). take i xs ++ drop k xs) (add-one i)

-- of the first items those are kept that pass a test, and one more is read
pub kept_more : {X : Type 0} (n : ℕ) (test : X → Bool) (xs ys : List X) (i : ℕ) (x : X) → i < length xs → length xs ≤ n → x ≡ get_or xs i x →
    ys ≡ filter test (take i xs) → (b : Bool) → b ≡ test x → cond b (pushed n x ys) ys ≡ filter test (take (i + 1) xs)
kept_more {X} n test xs ys i x h fits is e b said = go b ∙ ap (λ (ws : List X). ws ++ cond b (x ∷ []) []) e ∙ sym more
  where
    more : filter test (take (i + 1) xs) ≡ filter test (take i xs) ++ cond b (x ∷ []) []
    more =
        filter_more test xs i x h
        ∙ sym (ap (λ (y : X). filter test (take i xs) ++ cond (test y) (y ∷ []) []) is)
        ∙ sym (ap (λ (a : Bool). filter test (take i xs) ++ cond a (x ∷ []) []) said)

    room : ltb (length ys) n ≡ true
    room = lt-ltb _ _ (omega (arith, ap length e, length-filter_both test (λ y. not (test y)) (λ y. refl) (take i xs), length-take-le i xs (omega arith)))

    go : (a : Bool) → cond a (pushed n x ys) ys ≡ ys ++ cond a (x ∷ []) []
    go true = ap (λ (a : Bool). cond a (ys ++ x ∷ []) ys) room
    go false = sym (append-nil ys)
