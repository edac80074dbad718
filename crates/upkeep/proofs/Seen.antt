-- Which names are seen among names that some fall from and one comes to. Assumes nothing.
use Rattle.std.proofs.Common.{◌≡◌, ℕ, ◌<◌, ◌≤◌, Bool, true, false, not, ◌&&◌, ◌||◌, eqb, ltb, leb, List, [], ◌∷◌, ◌++◌, sym, refl, ap, ◌∙◌, subst, inl, inr}
use Rattle.std.proofs.lemmas.Bool.{cases_Bool, cond-true, cond-false, eqb-true, and_parts, leb-true, leb-false, lt-ltb, le-ltb}
use Rattle.model.specs.declared.record.Name.{Name}
use Rattle.model.specs.Names.{same_name, kept}
use Rattle.law.specs.Rows.{seen}

-- two tests that say the same
pub alike : (a b : Bool) → (a ≡ true → b ≡ true) → (b ≡ true → a ≡ true) → a ≡ b
alike true true f g = refl
alike true false f g = sym (f refl)
alike false true f g = g refl
alike false false f g = refl

pub seen_append : (k : Name) (xs ys : List Name) → seen k (xs ++ ys) ≡ (seen k xs || seen k ys)
seen_append k [] ys = refl
seen_append k (x ∷ xs) ys = ap (λ (b : Bool). same_name x k || b) (seen_append k xs ys) ∙ or_assoc (same_name x k) (seen k xs) (seen k ys)
  where
    or_assoc : (a b c : Bool) → (a || (b || c)) ≡ ((a || b) || c)
    or_assoc true b c = refl
    or_assoc false b c = refl

-- equal names have one time
same_time : (n k : Name) → same_name n k ≡ true → k.time ≡ n.time
same_time n k h =
    let later = (and_parts (eqb n.serial k.serial) (eqb n.time k.time && eqb n.sender k.sender) h).1 in
    sym (eqb-true n.time k.time (and_parts (eqb n.time k.time) (eqb n.sender k.sender) later).0)

-- a name is seen among those that stay if it was seen and is not below the floor
pub seen_kept : (floor : ℕ) (k : Name) (ns : List Name) → seen k (kept floor ns) ≡ (seen k ns && not (ltb k.time floor))
seen_kept floor k [] = refl
seen_kept floor k (n ∷ ns) =
    elim (cases_Bool (leb floor n.time)) [
      | inl stays ↦
          ap (seen k) (cond-true _ (n ∷ kept floor ns) (kept floor ns) stays)
          ∙ ap (λ (b : Bool). same_name n k || b) (seen_kept floor k ns)
          ∙ step (same_name n k) (seen k ns) (not (ltb k.time floor))
          (λ same. ap not (le-ltb k.time floor (subst (λ (t : ℕ). floor ≤ t) (sym (same_time n k same)) (leb-true floor n.time stays))))
      | inr falls ↦
          ap (seen k) (cond-false _ (n ∷ kept floor ns) (kept floor ns) falls)
          ∙ seen_kept floor k ns
          ∙ fall (same_name n k) (seen k ns) (not (ltb k.time floor))
          (λ same. ap not (lt-ltb k.time floor (subst (λ (t : ℕ). t < floor) (sym (same_time n k same)) (leb-false floor n.time falls))))
    ]
  where
    step : (a b c : Bool) → (a ≡ true → c ≡ true) → (a || (b && c)) ≡ ((a || b) && c)
    step true b c f = sym (f refl)
    step false b c f = refl

    fall : (a b c : Bool) → (a ≡ true → c ≡ false) → (b && c) ≡ ((a || b) && c)
    fall true b c f = ap (λ (x : Bool). b && x) (f refl) ∙ gone b ∙ sym (f refl)
      where
        gone : (x : Bool) → (x && false) ≡ false
        gone true = refl
        gone false = refl
    fall false b c f = refl
