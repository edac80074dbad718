-- What happens to a stop's line of productions: it grows, its head lands, its head is cleared. Assumes nothing.
use Rattle.std.proofs.Common.{◌≡◌, ℕ, ◌<◌, ◌≤◌, List, [], ◌∷◌, ◌++◌, map, sym, refl, ap, ◌∙◌, subst, inl, inr, append_assoc, arith}
use Rattle.model.specs.Limits.{last_time}
use Rattle.model.specs.declared.record.Production.{Production}
use Rattle.law.specs.Lists.{Mem, Apart}
use Rattle.law.proofs.Lists.{mem_split, mem_last, mem_is, mem_map, mem_unmap, map-++, apart_join, apart_split}
use Rattle.law.proofs.Rows.{Adds}
use Rattle.law.proofs.World.{Line, Front, Rising, Times, serial_of}

pub rising_join
    : (xs ys : List Production)
    → Rising xs → Rising ys → ((x y : Production) → Mem x xs → Mem y ys → x.time ≤ y.time) → Rising (xs ++ ys)
rising_join [] ys a b f = b
rising_join (x ∷ xs) ys a b f = (
  λ q m. elim (mem_split q xs ys m) [ inl k ↦ a.0 q k | inr k ↦ f x q (inl refl) k ],
  rising_join xs ys a.1 b (λ p q m n. f p q (inr m) n),
)

module _ (made landed waits pending new : List Production) (next then start after : ℕ) (a : Adds next start after new then) where
  front_grows : Front pending waits landed → Front (pending ++ new) (waits ++ new) landed
  front_grows (inl e) = inl (ap (λ xs. xs ++ new) e)
  front_grows (inr f) = inr (f.0, ap (λ xs. xs ++ new) f.1, f.2)

  -- a made serial is below the next one, and so is none of the new ones
  serials_apart
      : ((p : Production) → Mem p made → p.serial < next)
      → (n : ℕ) → Mem n (map serial_of made) → Mem n (map serial_of new) → ⊥
  serials_apart below n m k =
      let x = mem_unmap serial_of n made m in
      let y = mem_unmap serial_of n new k in
      omega (arith, below x.0 x.1, a.serial y.0 y.1, x.2, y.2)

  pub line_grows
      : after ≤ last_time
      → Line made landed waits pending next
      → Line (made ++ new) landed (waits ++ new) (pending ++ new) then
  line_grows last l = record {
    order = ap (λ xs. xs ++ new) l.order ∙ append_assoc landed waits new;
    front = front_grows l.front;
    serials =
        subst (λ ns. Apart ns) (sym (map-++ serial_of made new)) (apart_join (map serial_of made) (map serial_of new) l.serials a.apart (serials_apart l.below));
    below = λ p m. elim (mem_split p made new m) [ inl k ↦ omega (arith, l.below p k, a.grows) | inr k ↦ a.below p k ];
    ranged = λ p m. elim (mem_split p made new m) [
      | inl k ↦ l.ranged p k
      | inr k ↦ record { time = omega (arith, a.time p k); some = (a.amounts p k).0; few = (a.amounts p k).1 }
    ];
  }

  pub times_grow
      : (sw cmark smark : ℕ)
      → Times sw cmark smark waits → cmark ≤ after → after ≤ last_time → sw ≤ start → Times sw after smark (waits ++ new)
  times_grow sw cmark smark t rises last passed = record {
    rise = rising_join waits new t.rise a.rise (λ x y m n. omega (arith, t.marked x m, a.time y n));
    marked = λ p m. elim (mem_split p waits new m) [ inl k ↦ omega (arith, t.marked p k) | inr k ↦ omega (arith, a.time p k) ];
    passed = λ p m. elim (mem_split p waits new m) [ inl k ↦ t.passed p k | inr k ↦ omega (arith, a.reached p k) ];
    spotted = λ p m. elim (mem_split p waits new m) [
      | inl k ↦ t.spotted p k
      | inr k ↦ omega (arith, a.reached p k, a.time p k, t.bound)
    ];
    bound = omega (arith, t.bound);
    last = last;
  }

-- a production that is pending and has not landed is the first that waits
pub first_waits
    : (p : Production) (rest pending waits landed : List Production)
    → Front pending waits landed → pending ≡ p ∷ rest → (Mem p landed → ⊥) → waits ≡ p ∷ rest
first_waits p rest pending waits landed (inl e) h f = sym e ∙ h
first_waits p rest pending waits landed (inr x) h f =
    let heads : x.0 ∷ waits ≡ p ∷ rest = sym x.1 ∙ h in
    let same : p ≡ x.0 = cc in
    absurd (f (subst (λ q. Mem q landed) (sym same) x.2))

pub line_lands
    : (p : Production) (made landed waits rest pending : List Production) (next : ℕ)
    → pending ≡ p ∷ rest → waits ≡ p ∷ rest → Line made landed waits pending next
    → Line made (landed ++ (p ∷ [])) rest pending next
line_lands p made landed waits rest pending next head first l = record {
  order = l.order ∙ (ap (λ xs. landed ++ xs) first ∙ sym (append_assoc landed (p ∷ []) rest));
  front = inr (p, head, mem_last p landed);
  serials = l.serials;
  below = l.below;
  ranged = l.ranged;
}

-- what is acknowledged and stands first among the pending is the landed production in front
pub line_clears
    : (p : Production) (made landed waits rest pending : List Production) (next : ℕ)
    → pending ≡ p ∷ rest → Mem p.serial (map serial_of landed) → Line made landed waits pending next
    → (rest ≡ waits) × Mem p landed
line_clears p made landed waits rest pending next head acked l = at l.front
  where
    parted : Apart (map serial_of landed ++ map serial_of waits)
    parted = subst (λ ns. Apart ns) (ap (λ xs. map serial_of xs) l.order ∙ map-++ serial_of landed waits) l.serials

    at : Front pending waits landed → (rest ≡ waits) × Mem p landed
    at (inl e) =
        absurd (apart_split p.serial (map serial_of landed) (map serial_of waits) parted acked (mem_map serial_of p waits (mem_is p (p ∷ rest) waits (sym head ∙ e) (inl refl))))
    at (inr x) =
        let heads : x.0 ∷ waits ≡ p ∷ rest = sym x.1 ∙ head in
        let same : x.0 ≡ p = cc in
        (cc, subst (λ q. Mem q landed) same x.2)

pub line_cleared
    : (made landed waits pending : List Production) (next : ℕ)
    → Line made landed waits pending next → Line made landed waits waits next
line_cleared made landed waits pending next l =
    record { order = l.order; front = inl refl; serials = l.serials; below = l.below; ranged = l.ranged }

-- the first that waits has landed, and the spotter's mark is at most its time
pub times_land
    : (p : Production) (rest waits : List Production) (sw cmark smark after : ℕ)
    → waits ≡ p ∷ rest → after ≤ p.time → Times sw cmark smark waits → Times sw cmark after rest
times_land p rest waits sw cmark smark after first most t = at (subst (λ xs. Times sw cmark smark xs) first t)
  where
    at : Times sw cmark smark (p ∷ rest) → Times sw cmark after rest
    at u = record {
      rise = u.rise.1;
      marked = λ q m. u.marked q (inr m);
      passed = λ q m. u.passed q (inr m);
      spotted = λ q m. omega (arith, u.rise.0 q m);
      bound = omega (arith, u.marked p (inl refl));
      last = u.last;
    }
