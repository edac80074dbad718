-- A write that power fails at puts something into its page: what was there, the new bytes, or junk.
use Rattle.std.proofs.Common.{◌≡◌, ℕ, Bool, true, false, cond, not, ◌&&◌, eqb, List, [], get_or, set, sym, refl, ap}
use Rattle.std.proofs.lemmas.List.{set-get_or}
use Rattle.std.proofs.lemmas.Bool.{cond-false, and_right}
use Rattle.stores.specs.Cards.{Medium, failed}

-- what is in the page
abbrev pub torn : Medium → ℕ → List ℕ → List ℕ
torn m page bytes = cond (eqb m.tear 1) bytes (cond (eqb m.tear 2 && not (eqb page 0)) m.junk (get_or m.pages page []))

abbrev pub torn_at : Medium → ℕ → List ℕ → Medium
torn_at m page bytes = record { pages = set m.pages page (torn m page bytes); junk = m.junk; left = m.left; tear = m.tear; on = false; node = m.node }

one_of_three : (a b : Bool) (pages : List (List ℕ)) (page : ℕ) (x y : List ℕ) →
    cond a (set pages page x) (cond b (set pages page y) pages) ≡ set pages page (cond a x (cond b y (get_or pages page [])))
one_of_three true b pages page x y = refl
one_of_three false true pages page x y = refl
one_of_three false false pages page x y = sym (set-get_or pages page [])

pub failed_is : (m : Medium) (page : ℕ) (bytes : List ℕ) → failed m page bytes ≡ torn_at m page bytes
failed_is m page bytes =
    ap (λ (ps : List (List ℕ)). record { pages = ps; junk = m.junk; left = m.left; tear = m.tear; on = false; node = m.node })
    (one_of_three (eqb m.tear 1) (eqb m.tear 2 && not (eqb page 0)) m.pages page bytes m.junk)

-- page 0 is never junk
pub torn_zero : (m : Medium) (bytes : List ℕ) → torn m 0 bytes ≡ cond (eqb m.tear 1) bytes (get_or m.pages 0 [])
torn_zero m bytes = ap (cond (eqb m.tear 1) bytes) (cond-false _ _ _ (and_right (eqb m.tear 2) false refl))
