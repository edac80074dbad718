-- The four bits of a name stay set, and are set once it is in.
use Rattle.std.proofs.Common.{◌≡◌, ℕ, Bool, true, ◌||◌, eqb, sym, refl, ap, ◌∙◌, subst, inl, inr, arith}
use Rattle.std.proofs.lemmas.Bool.{and_parts, and_from, or_cases, or_left, or_right, eq-eqb}
use Rattle.model.specs.declared.answer.Answer.{Answer}
use Rattle.model.specs.declared.answer.Answer.TheVariants.{Done, Full}
use Rattle.model.specs.declared.record.Name.{Name}
use Rattle.names.specs.declared.taken.Taken.{Taken}
use Rattle.names.specs.Held.{Meaning, same_taken}
use Rattle.names.specs.Changes.{Added}
use Rattle.names.proofs.Listing.{taken, same_is}
use Rattle.names.proofs.Adding.{added_holds}
use Rattle.bloom.specs.Bits.{bit_of, all_set, with_four}
use Rattle.bloom.specs.Marked.{Marked}

-- bits that are set stay set
four_stay : (bits : ℕ → Bool) (s : ℕ) (n : Name) (q : ℕ) → bits q ≡ true → with_four bits s n q ≡ true
four_stay bits s n q e =
    or_right (eqb (bit_of s n 3) q) _
    (or_right (eqb (bit_of s n 2) q) _ (or_right (eqb (bit_of s n 1) q) _ (or_right (eqb (bit_of s n 0) q) (bits q) e)))

pub all_stay : (bits : ℕ → Bool) (s : ℕ) (n : Name) (t : ℕ) (k : Name) → all_set bits t k ≡ true → all_set (with_four bits s n) t k ≡ true
all_stay bits s n t k e =
    let a = and_parts (bits (bit_of t k 0)) _ e in
    let b = and_parts (bits (bit_of t k 1)) _ a.1 in
    let c = and_parts (bits (bit_of t k 2)) (bits (bit_of t k 3)) b.1 in
    let on : (q : ℕ) → bits q ≡ true → with_four bits s n q ≡ true = four_stay bits s n in
    and_from _ _ (on _ a.0) (and_from _ _ (on _ b.0) (and_from _ _ (on _ c.0) (on _ c.1)))

pub all_set_lem : (bits : ℕ → Bool) (s : ℕ) (n : Name) → all_set (with_four bits s n) s n ≡ true
all_set_lem bits s n =
    let own : (p : ℕ) (b : Bool) → (eqb p p || b) ≡ true = λ p b. or_left (eqb p p) b (eq-eqb p p refl) in
    let past : (p q : ℕ) (b : Bool) → b ≡ true → (eqb p q || b) ≡ true = λ p q b e. or_right (eqb p q) b e in
    and_from _ _
    (past (bit_of s n 3) (bit_of s n 0) _ (past (bit_of s n 2) (bit_of s n 0) _ (past (bit_of s n 1) (bit_of s n 0) _ (own (bit_of s n 0) _))))
    (and_from _ _
    (past (bit_of s n 3) (bit_of s n 1) _ (past (bit_of s n 2) (bit_of s n 1) _ (own (bit_of s n 1) _)))
    (and_from _ _ (past (bit_of s n 3) (bit_of s n 2) _ (own (bit_of s n 2) _)) (own (bit_of s n 3) _)))

-- an add that was done, with the bits set after it
pub added_marked : {m after : Meaning} {s : ℕ} {n : Name} {r : Answer} (bits lit : ℕ → Bool) → Marked m bits → Added m s n r after → r ≡ Done → lit ≡ with_four bits s n → Marked after lit
added_marked {m} {after} {s} {n} {r} bits lit f a done e t k h = subst (λ bs. all_set bs t k ≡ true) (sym e) (marked t k (sym (ap (λ hs. hs t k) held) ∙ h))
  where
    held : after.holds ≡ (λ t k. same_taken (taken s n) t k || m.holds t k)
    held = ap (λ (x : Meaning). x.holds) a.means ∙ added_holds m s n (λ full. never (sym done ∙ a.answer ∙ full))
      where
        never : Done ≡ Full → ⊥
        never p = let z : ◌≡◌ {A = ℕ} 0 1 = cc in omega arith

    marked : (t : ℕ) (k : Name) → (same_taken (taken s n) t k || m.holds t k) ≡ true → all_set (with_four bits s n) t k ≡ true
    marked t k h =
        elim (or_cases (same_taken (taken s n) t k) (m.holds t k) h) [
          | inl same ↦
              subst (λ (p : Taken). all_set (with_four bits s n) p.stop p.name ≡ true) (same_is (taken s n) t k same) (all_set_lem bits s n)
          | inr old ↦ all_stay bits s n t k (f t k old)
        ]
