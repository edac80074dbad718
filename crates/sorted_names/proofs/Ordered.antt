-- The order of the table is total, and what that says of lists that climb.
use Rattle.std.specs.Prelude.{◌≡◌, ℕ, Bool, true, false}
use Rattle.std.proofs.Common.{arith}
use Rattle.std.proofs.lemmas.Bool.Decides.{nat_tests}
use Rattle.std.specs.Ordering.{nat_cmp, is_lt, ordering_then}
use Rattle.std.specs.declared.cmp.Ordering.{Ordering}
use Rattle.names.specs.declared.taken.Taken.{Taken}
use Rattle.names.specs.Order.{taken_cmp}
use Rattle.sorted_names.specs.Order.{first, before}

first_trans : (x y z : ℕ) (p q r : Bool) → (p ≡ true → q ≡ true → r ≡ true) → first x y p ≡ true → first y z q ≡ true → first x z r ≡ true
first_trans x y z p q r f a b = grind (arith, nat_tests)

first_equal : (x y : ℕ) (p q : Bool) → first x y p ≡ false → first y x q ≡ false → (x ≡ y) × (p ≡ false) × (q ≡ false)
first_equal x y p q a b = (grind (arith, nat_tests), grind (arith, nat_tests), grind (arith, nat_tests))

pub before_trans : (p q r : Taken) → before p q ≡ true → before q r ≡ true → before p r ≡ true
before_trans p q r =
    first_trans p.stop q.stop r.stop _ _ _
    (first_trans p.name.time q.name.time r.name.time _ _ _
    (first_trans p.name.serial q.name.serial r.name.serial _ _ _ (λ a b. grind (arith, nat_tests))))

-- of two names one stands before the other, or they are the same
pub before_total : (p q : Taken) → before p q ≡ false → before q p ≡ false → p ≡ q
before_total p q a b =
    let s = first_equal p.stop q.stop _ _ a b in
    let t = first_equal p.name.time q.name.time _ _ s.1 s.2 in
    let n = first_equal p.name.serial q.name.serial _ _ t.1 t.2 in
    let e : p.name.sender ≡ q.name.sender = grind (arith, nat_tests, n.1, n.2) in
    λ i. record { stop = s.0 i; name = record { sender = e i; serial = n.0 i; time = t.0 i } }

-- `before` is the order of the library's searches
first_cmp : (x y : ℕ) (p : Bool) (o : Ordering) → p ≡ is_lt o → first x y p ≡ is_lt (ordering_then (nat_cmp x y) o)
first_cmp x y p o e = grind (arith, nat_tests, e)

pub before_cmp : (p q : Taken) → before p q ≡ is_lt (taken_cmp p q)
before_cmp p q =
    first_cmp p.stop q.stop _ _
    (first_cmp p.name.time q.name.time _ _
    (first_cmp p.name.serial q.name.serial _ _ (grind (arith, nat_tests))))
