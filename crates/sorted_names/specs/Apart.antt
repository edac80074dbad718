-- Why a list that climbs has nothing twice.
use Rattle.std.specs.Prelude.{◌≡◌, ℕ, suc, Bool, true, false, List, [], ◌∷◌}
use Rattle.std.proofs.Common.{subst, inl, inr, arith}
use Rattle.std.proofs.lemmas.Bool.{cases_Bool, both_ways}
use Rattle.std.proofs.lemmas.Bool.Decides.{nat_tests}
use Rattle.names.specs.declared.taken.Taken.{Taken}
use Rattle.names.specs.Held.{Apart, listed}
use Rattle.names.proofs.Listing.{listed_at}
use Rattle.sorted_names.specs.Order.{first, before, Climbs}

first_self : (x : ℕ) (p : Bool) → p ≡ false → first x x p ≡ false
first_self x p e = grind (arith, nat_tests)

pub before_self : (p : Taken) → before p p ≡ false
before_self p =
    first_self p.stop _
    (first_self p.name.time _ (first_self p.name.serial _ (grind (arith, nat_tests))))

-- what climbs lists nothing twice
pub climbs_apart : (xs : List Taken) → Climbs xs → Apart xs
climbs_apart [] up = tt
climbs_apart (x ∷ xs) up = (alone, climbs_apart xs (λ i j d l h. up (suc i) (suc j) d (omega arith) (omega arith)))
  where
    alone : listed xs x.stop x.name ≡ false
    alone =
        elim (cases_Bool (listed xs x.stop x.name)) [
          | inl e ↦
              let at = listed_at xs x.stop x.name e in
              absurd (both_ways (before x x) (before_self x)
              (subst (λ p. before x p ≡ true) (at.2 x) (up 0 (suc at.0) x (omega arith) (omega (arith, at.1)))))
          | inr e ↦ e
        ]
