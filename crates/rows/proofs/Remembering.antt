-- A name that is remembered: those below a floor fall, and it is put in behind the others, if there is room.
use Rattle.std.proofs.Common.{◌≡◌, ℕ, ◌+◌, ◌≤◌, Bool, true, false, not, filter, cond, ltb, List, [], ◌∷◌, ◌++◌, length, refl, ap, ◌∙◌, arith, ltb-false}
use Rattle.std.proofs.lemmas.List.Filters.{length-filter_both}
use Rattle.model.specs.Names.{kept}
use Rattle.model.specs.Row.{Row}
use Rattle.model.specs.declared.record.Name.{Name}
use Rattle.bounded.specs.Lists.{pushed}
use Rattle.rows.specs.Edits.{forgetting, remembering}

-- a list of which as many pass as there are is as it was
stay_more
    : {X : Type 0} (p : X → Bool) (x : X) (xs : List X) → (length xs ≤ length (filter p xs) → filter p xs ≡ xs) →
    length (x ∷ xs) ≤ length (filter p (x ∷ xs)) → filter p (x ∷ xs) ≡ x ∷ xs
stay_more p x xs rest = go (p x)
  where
    few : length (filter p xs) + length (filter (λ y. not (p y)) xs) ≡ length xs
    few = length-filter_both p (λ y. not (p y)) (λ y. refl) xs

    go : (b : Bool) → length (x ∷ xs) ≤ length (cond b (x ∷ filter p xs) (filter p xs)) → cond b (x ∷ filter p xs) (filter p xs) ≡ x ∷ xs
    go true h = ap (λ ys. x ∷ ys) (rest (omega (arith, h)))
    go false h = absurd (omega (arith, h, few))

all_stay : {X : Type 0} (p : X → Bool) (xs : List X) → length xs ≤ length (filter p xs) → filter p xs ≡ xs
all_stay p [] h = refl
all_stay p (x ∷ xs) h = stay_more p x xs (all_stay p xs) h

module _ (floor : ℕ) (n : Name) (old : Row) where
  abbrev with_names : List Name → Row
  with_names ys = record { next = old.next; state = old.state; pending = old.pending; names = ys }

  pub remembered : (r : Row) (ys : List Name) → r ≡ forgetting floor old → length old.names ≤ 40 → ys ≡ pushed 40 n r.names →
      record { next = r.next; state = r.state; pending = r.pending; names = ys }
      ≡ cond (ltb (length (kept floor old.names)) 40) (remembering floor n old) old
  remembered r ys e few is =
      ap (λ (q : Row). record { next = q.next; state = q.state; pending = q.pending; names = ys }) e
      ∙ ap with_names (is ∙ ap (λ (q : Row). pushed 40 n q.names) e)
      ∙ go (ltb (length (kept floor old.names)) 40) refl
    where
      go : (b : Bool) → ltb (length (kept floor old.names)) 40 ≡ b →
          with_names (cond b (kept floor old.names ++ n ∷ []) (kept floor old.names)) ≡ cond b (remembering floor n old) old
      go true t = refl
      go false t =
          let full = ltb-false _ _ t in
          ap with_names (all_stay _ old.names (omega (arith, full, few)))
