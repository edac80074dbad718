-- Lists that climb: what is found in one, what goes in, and what is taken out.
use Rattle.std.specs.Prelude.{◌≡◌, ℕ, ◌+◌, ◌-◌, ◌<◌, ◌≤◌, true, ◌||◌, ◌⊎◌, List, ◌∷◌, ◌++◌, length, get_or, take, drop, ◌≢◌, slice_index_or}
use Rattle.std.proofs.Common.{sym, ap, subst, ◌∙◌, inl, inr, arith, length-drop}
use Rattle.std.proofs.Math.Path.{fun_ext}
use Rattle.std.specs.List.{insert}
use Rattle.std.proofs.lemmas.List.{get_or-take, get_or-drop, get_or_append_left, get_or-append_right, take-append-drop, length-take-le, length-append}
use Rattle.std.proofs.lemmas.List.Edits.{length-insert, get_or-insert_below, get_or-insert_at, get_or-insert_above}
use Rattle.std.proofs.lemmas.Bool.{cases_Bool, both_ways, cases_eq, cases_lt}
use Rattle.model.specs.declared.answer.Answer.TheVariants.{Done}
use Rattle.model.specs.declared.record.Name.{Name}
use Rattle.names.specs.declared.taken.Taken.{Taken}
use Rattle.names.specs.Held.{same_taken, listed, most_taken}
use Rattle.names.specs.Changes.{with_name, Added}
use Rattle.names.proofs.Adding.{added_done}
use Rattle.names.proofs.Listing.{or_swap, taken, listed_append, at_listed}
use Rattle.sorted_names.specs.Order.{before, Climbs, Splits, Absent}
use Rattle.sorted_names.proofs.Ordered.{before_total}

moved : {u v p q : Taken} → u ≡ p → v ≡ q → before p q ≡ true → before u v ≡ true
moved {u} {v} {p} {q} a b h = ap (λ x. before x v) a ∙ ap (λ y. before p y) b ∙ h

-- a name that belongs at the place goes in there
pub climbs_inserted : (xs : List Taken) (i s : ℕ) (n : Name) → Climbs xs → Absent xs s n i → Climbs (insert xs i (taken s n))
climbs_inserted xs i s n up w a b d lt l = go (cases_lt b i) (cases_lt a i) (cases_eq a i) (cases_eq b i)
  where
    q : Taken
    q = taken s n

    in_reach : i ≤ length xs
    in_reach = w.splits.within

    size : length (insert xs i q) ≡ length xs + 1
    size = length-insert xs i q in_reach

    above : (k : ℕ) → i < k → slice_index_or (insert xs i q) k d ≡ slice_index_or xs (k - 1) d
    above k h =
        let back : k - 1 + 1 ≡ k = omega arith in
        ap (λ j. get_or (insert xs i q) j d) (sym back) ∙ get_or-insert_above xs i q d (k - 1) (omega arith) in_reach

    past : (k : ℕ) → i ≤ k → k < length xs → before q (slice_index_or xs k d) ≡ true
    past k h m =
        elim (cases_Bool (before q (slice_index_or xs k d))) [
          | inl e ↦ e
          | inr e ↦
              absurd (both_ways (listed xs s n) w.none
              (at_listed xs s n k d m (before_total (slice_index_or xs k d) q (w.splits.above k d h m) e)))
        ]

    go : (b < i) ⊎ (i ≤ b) → (a < i) ⊎ (i ≤ a) → (a ≡ i) ⊎ (a ≢ i) → (b ≡ i) ⊎ (b ≢ i) → before (slice_index_or (insert xs i q) a d) (slice_index_or (insert xs i q) b d) ≡ true
    go (inl bi) al ae be =
        moved (get_or-insert_below xs i q d a (omega arith) in_reach) (get_or-insert_below xs i q d b bi in_reach) (up a b d lt (omega arith))
    go (inr bi) (inl ai) ae (inl be) =
        moved (get_or-insert_below xs i q d a ai in_reach) (ap (λ j. get_or (insert xs i q) j d) be ∙ get_or-insert_at xs i q d in_reach) (w.splits.below a d ai)
    go (inr bi) (inl ai) ae (inr be) =
        moved (get_or-insert_below xs i q d a ai in_reach) (above b (omega arith)) (up a (b - 1) d (omega arith) (omega (arith, size)))
    go (inr bi) (inr ai) (inl ae) be =
        moved (ap (λ j. get_or (insert xs i q) j d) ae ∙ get_or-insert_at xs i q d in_reach) (above b (omega arith)) (past (b - 1) (omega arith) (omega (arith, size)))
    go (inr bi) (inr ai) (inr ae) be =
        moved (above a (omega arith)) (above b (omega arith)) (up (a - 1) (b - 1) d (omega arith) (omega (arith, size)))

pub listed_inserted : (xs : List Taken) (i s : ℕ) (n : Name) → listed (insert xs i (taken s n)) ≡ with_name (listed xs) s n
listed_inserted xs i s n = fun_ext (λ t. fun_ext (λ k. at t k))
  where
    at : (t : ℕ) (k : Name) → listed (take i xs ++ taken s n ∷ drop i xs) t k ≡ (same_taken (taken s n) t k || listed xs t k)
    at t k =
        listed_append (take i xs) (taken s n ∷ drop i xs) t k
        ∙ or_swap (listed (take i xs) t k) (same_taken (taken s n) t k) (listed (drop i xs) t k)
        ∙ ap (λ b. same_taken (taken s n) t k || b) (sym (listed_append (take i xs) (drop i xs) t k) ∙ ap (λ zs. listed zs t k) (take-append-drop i xs))

-- a stretch is taken out
pub climbs_closed : (xs : List Taken) (a b : ℕ) → a ≤ b → b ≤ length xs → Climbs xs → Climbs (take a xs ++ drop b xs)
climbs_closed xs a b ab bl up i j d lt l = go (cases_lt i a) (cases_lt j a)
  where
    front : length (take a xs) ≡ a
    front = length-take-le a xs (omega arith)

    size : length (take a xs ++ drop b xs) ≡ a + (length xs - b)
    size = length-append (take a xs) (drop b xs) ∙ (let e = front in let f = length-drop b xs in omega arith)

    low : (k : ℕ) → k < a → slice_index_or (take a xs ++ drop b xs) k d ≡ slice_index_or xs k d
    low k h = get_or_append_left (take a xs) (drop b xs) d k (omega (arith, front)) ∙ get_or-take a xs k d h

    high : (k : ℕ) → a ≤ k → slice_index_or (take a xs ++ drop b xs) k d ≡ slice_index_or xs (b + (k - a)) d
    high k h = get_or-append_right (take a xs) (drop b xs) a k d front h ∙ get_or-drop b xs (k - a) d

    go : (i < a) ⊎ (a ≤ i) → (j < a) ⊎ (a ≤ j) → before (slice_index_or (take a xs ++ drop b xs) i d) (slice_index_or (take a xs ++ drop b xs) j d) ≡ true
    go (inl ia) (inl ja) = moved (low i ia) (low j ja) (up i j d lt (omega arith))
    go (inl ia) (inr ja) = moved (low i ia) (high j ja) (up i (b + (j - a)) d (omega arith) (omega (arith, size)))
    go (inr ia) (inl ja) = absurd (omega arith)
    go (inr ia) (inr ja) = moved (high i ia) (high j ja) (up (b + (i - a)) (b + (j - a)) d (omega arith) (omega (arith, size)))

-- a split of what was lent is a split of the table
pub splits_lent : {xs ys : List Taken} {p q : Taken} {i : ℕ} → ys ≡ xs → p ≡ q → Splits ys p i → Splits xs q i
splits_lent {xs} {ys} {p} {q} {i} e f h = subst (λ zs. Splits zs q i) e (subst (λ r. Splits ys r i) f h)

pub absent_lent : {xs ys : List Taken} {s : ℕ} {n : Name} {i : ℕ} → ys ≡ xs → Absent ys s n i → Absent xs s n i
absent_lent {xs} {ys} {s} {n} {i} e h = subst (λ zs. Absent zs s n i) e h

-- the table after a name has gone in at its place
pub put_in : {xs ys : List Taken} {i s count after : ℕ} {n : Name} → Absent xs s n i → ys ≡ insert xs i (taken s n) → count < most_taken → after ≡ count + 1 → Added (record { holds = listed xs; size = count }) s n Done (record { holds = listed ys; size = after })
put_in {xs} {ys} {i} {s} {count} {after} {n} away e few one =
    added_done (record { holds = listed xs; size = count }) (record { holds = listed ys; size = after }) s n
    away.none few (ap listed e ∙ listed_inserted xs i s n) one
