-- Which stops stand in a queue. Assumes nothing.
use Rattle.std.proofs.Common.{◌≡◌, ℕ, Bool, List, [], ◌∷◌, ◌||◌, eqb, refl, ap}
use Rattle.std.specs.List.{list_any}
use Rattle.law.specs.Node.{stands}

-- a stop that some place holds stands in the line
pub stands_any : (s : ℕ) (xs : List ℕ) → stands s xs ≡ list_any (λ q. eqb q s) xs
stands_any s [] = refl
stands_any s (x ∷ xs) = ap (λ (b : Bool). eqb x s || b) (stands_any s xs)
