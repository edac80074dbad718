-- From what the slots hold to what the timers and the panel hold, for every number.
use Rattle.std.proofs.Common.{◌≡◌, ℕ, ◌<◌, Bool, true, false, cond, eqb, ltb, List, None, Option, Ordering, Less, Equal, Greater, sym, refl, ap, ◌∙◌, zero-le, arith, ltb-false, ltb-true, lt-ltb, ne_eqb}
use mathlib.Core.Path.{fun_ext}
use Rattle.std.specs.Cmp.{IsTotalOrder}
use Rattle.std.specs.Option.{option_map}
use Rattle.std.specs.Ordering.{is_lt, nat_cmp}
use Rattle.model.specs.FirstBest.{first_best}
use Rattle.model.specs.Limits.{stops}
use Rattle.heap.specs.Heaps.{Heaped}
use Rattle.agenda.specs.Slots.{held, held_below, updated, changed, Placed}
use Rattle.agenda.specs.declared.slot.Slot.{Slot}
use Rattle.agenda.proofs.Choosing.{best_same}

module _ {V : Type 0} {R : Slot V → Slot V → Ordering} (o : IsTotalOrder R) (xs : List (Slot V)) where
  pub placed : Heaped o xs → Placed o xs
  placed h k d p = h k d p.0 p.1 zero-le

  pub heaped : Placed o xs → Heaped o xs
  heaped h k d a b l = h k d (a, b)

pub held_is : {V : Type 0} (xs : List (Slot V)) (q : ℕ) → q < stops → held_below xs q ≡ held xs q
held_is xs q l = ap (λ (b : Bool). cond b (held xs q) None) (lt-ltb q stops l)

pub none_below : {V : Type 0} (xs : List (Slot V)) (q : ℕ) → held xs q ≡ None → held_below xs q ≡ None
none_below {V} xs q e = ap (λ v. cond (ltb q stops) v None) e ∙ go (ltb q stops)
  where
    go : (b : Bool) → ◌≡◌ {A = Option V} (cond b None None) None
    go true = refl
    go false = refl

-- one stop's value was set
pub changed_below : {V : Type 0} (xs ys : List (Slot V)) (s : ℕ) (value : Option V) → ((q : ℕ) → q < stops → held ys q ≡ updated s value (held xs) q) →
    held_below ys ≡ changed s value (held_below xs)
changed_below {V} xs ys s value h = fun_ext (λ q. go q (ltb q stops) (ltb s stops) refl refl)
  where
    go : (q : ℕ) (b c : Bool) → ltb q stops ≡ b → ltb s stops ≡ c → cond (ltb q stops) (held ys q) None ≡ cond (ltb s stops) (updated s value (held_below xs)) (held_below xs) q
    go q true true p r =
        ap (λ (t : Bool). cond t (held ys q) None) p ∙ h q (ltb-true q stops p)
        ∙ sym ((λ k. cond (r k) (updated s value (held_below xs)) (held_below xs) q) ∙ ap (λ (t : Bool). cond (eqb q s) value (cond t (held xs q) None)) p)
    go q true false p r =
        let apart : (q ≡ s → ⊥) = omega (arith, ltb-true q stops p, ltb-false s stops r) in
        ap (λ (t : Bool). cond t (held ys q) None) p ∙ h q (ltb-true q stops p) ∙ ap (λ (t : Bool). cond t value (held xs q)) (ne_eqb q s apart)
        ∙ sym ((λ k. cond (r k) (updated s value (held_below xs)) (held_below xs) q) ∙ ap (λ (t : Bool). cond t (held xs q) None) p)
    go q false true p r =
        let apart : (q ≡ s → ⊥) = omega (arith, ltb-false q stops p, ltb-true s stops r) in
        ap (λ (t : Bool). cond t (held ys q) None) p
        ∙ sym ((λ k. cond (r k) (updated s value (held_below xs)) (held_below xs) q)
        ∙ (λ k. cond (ne_eqb q s apart k) value (cond (p k) (held xs q) None)))
    go q false false p r =
        ap (λ (t : Bool). cond t (held ys q) None) p
        ∙ sym ((λ k. cond (r k) (updated s value (held_below xs)) (held_below xs) q) ∙ ap (λ (t : Bool). cond t (held xs q) None) p)

pub less_is : (x y : ℕ) → is_lt (nat_cmp x y) ≡ ltb x y
less_is x y = go (ltb x y) (eqb x y)
  where
    go : (a b : Bool) → is_lt (cond a Less (cond b Equal Greater)) ≡ a
    go true b = refl
    go false true = refl
    go false false = refl

-- the first of the slots, by a test of the values
pub first_below : {V : Type 0} (beats : V → V → Bool) (xs : List (Slot V)) → first_best beats (held xs) stops ≡ first_best beats (held_below xs) stops
first_below beats xs = best_same beats (held xs) (held_below xs) stops (λ q l. sym (held_is xs q l))

-- the panel's slots hold productions in a wrapping of their own
pub changed_mapped : {V W : Type 0} (f : V → W) (s : ℕ) (value : Option V) (at : ℕ → Option V) → (λ (q : ℕ). option_map f (changed s value at q)) ≡ changed s (option_map f value) (λ q. option_map f (at q))
changed_mapped {V} {W} f s value at = fun_ext (λ q. go q (ltb s stops))
  where
    set : (q : ℕ) (c : Bool) → option_map f (cond c value (at q)) ≡ cond c (option_map f value) (option_map f (at q))
    set q true = refl
    set q false = refl

    go : (q : ℕ) (b : Bool) → option_map f (cond {A = ℕ → Option V} b (updated s value at) at q) ≡ cond {A = ℕ → Option W} b (updated s (option_map f value) (λ p. option_map f (at p))) (λ p. option_map f (at p)) q
    go q true = set q (eqb q s)
    go q false = refl
