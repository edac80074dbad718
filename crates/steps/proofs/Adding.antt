-- Least times and sums, in the order in which a fold meets them. Assumes nothing.
use Rattle.std.proofs.Common.{◌≡◌, ℕ, ◌+◌, min, List, [], ◌∷◌, sym, refl, ap, ◌∙◌, add-zero, add_assoc, zero-add, arith}
use Rattle.std.specs.List.{fold, sum}
use Rattle.model.specs.declared.record.Production.{Production}
use Rattle.law.specs.Lists.{total}
use Rattle.law.specs.Stops.{least_time}

least_min : (ps : List Production) (t b : ℕ) → least_time ps (min t b) ≡ min t (least_time ps b)
least_min [] t b = refl
least_min (p ∷ ps) t b = ap (min p.time) (least_min ps t b) ∙ swap p.time t (least_time ps b)
  where
    swap : (x y z : ℕ) → min x (min y z) ≡ min y (min x z)
    swap x y z = omega arith

-- the least time, in the order in which a fold meets the productions
pub least_fold : (ps : List Production) (b : ℕ) → fold (λ a p. min p.time a) b ps ≡ least_time ps b
least_fold [] b = refl
least_fold (p ∷ ps) b = least_fold ps (min p.time b) ∙ least_min ps p.time b

-- a sum, in the order in which an iterator adds the numbers
total_from : (ns : List ℕ) (a : ℕ) → fold (λ b n. b + n) a ns ≡ a + total ns
total_from [] a = sym (add-zero a)
total_from (n ∷ ns) a = total_from ns (a + n) ∙ add_assoc a n (total ns)

pub total_sum : (ns : List ℕ) → sum ns ≡ total ns
total_sum ns = total_from ns 0 ∙ zero-add (total ns)
