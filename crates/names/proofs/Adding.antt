-- What a set holds after one add, and after a list of them.
use Rattle.std.proofs.Common.{◌≡◌, ℕ, ◌+◌, ◌<◌, ◌≤◌, Bool, true, false, cond, ◌&&◌, ◌||◌, eqb, ltb, List, [], ◌∷◌, ◌++◌, length, get_or, take, sym, refl, ap, ◌∙◌, subst, inl, inr, arith}
use mathlib.Core.Path.{fun_ext}
use Rattle.std.proofs.lemmas.List.{take_more, take_all}
use Rattle.std.proofs.lemmas.Bool.{or_left, cases_Bool, cond-true, cond-false, lt-ltb}
use Rattle.model.specs.declared.answer.Answer.{Answer}
use Rattle.model.specs.declared.answer.Answer.TheVariants.{Done, Seen, Full}
use Rattle.model.specs.declared.record.Name.{Name}
use Rattle.names.specs.declared.taken.Taken.{Taken}
use Rattle.model.specs.Names.{same_name}
use Rattle.names.specs.Held.{Meaning, same_taken, most_taken}
use Rattle.names.specs.Changes.{add_answer, after_add, with_name, grown, Added}
use Rattle.model.specs.Names.{named}
use Rattle.names.specs.Fill.{with_names, AddedAll}
use Rattle.names.proofs.Listing.{or_swap, taken, same_is}

-- to put in what is held changes nothing
pub with_held : (h : ℕ → Name → Bool) (s : ℕ) (n : Name) → h s n ≡ true → with_name h s n ≡ h
with_held h s n e = fun_ext (λ t. fun_ext (λ k. at t k))
  where
    at : (t : ℕ) (k : Name) → (same_taken (taken s n) t k || h t k) ≡ h t k
    at t k =
        elim (cases_Bool (same_taken (taken s n) t k)) [
          | inl same ↦
              let is : taken s n ≡ taken t k = same_is (taken s n) t k same in
              let held : h t k ≡ true = subst (λ (p : Taken). h p.stop p.name ≡ true) is e in
              or_left _ (h t k) same ∙ sym held
          | inr other ↦ ap (λ b. b || h t k) other
        ]

-- a table that has put in what it did not hold
pub added_done : (m after : Meaning) (s : ℕ) (n : Name) → m.holds s n ≡ false → m.size < most_taken → after.holds ≡ with_name m.holds s n → after.size ≡ m.size + 1 → Added m s n Done after
added_done m after s n none few held one =
    let below = lt-ltb m.size most_taken few in
    record {
      answer = sym (cond-false (m.holds s n) Seen (cond (ltb m.size most_taken) Done Full) none ∙ cond-true (ltb m.size most_taken) Done Full below);
      means =
          (λ i. record { holds = held i; size = one i })
          ∙ sym (cond-false (m.holds s n) m (cond (ltb m.size most_taken) (grown m s n) m) none ∙ cond-true (ltb m.size most_taken) (grown m s n) m below);
    }

-- an add that found room, or the name
pub added_holds : (m : Meaning) (s : ℕ) (n : Name) → (add_answer m s n ≡ Full → ⊥) → (after_add m s n).holds ≡ with_name m.holds s n
added_holds m s n room =
    elim (cases_Bool (m.holds s n)) [
      | inl e ↦ ap (λ (k : Meaning). k.holds) (cond-true (m.holds s n) m (cond (ltb m.size most_taken) (grown m s n) m) e) ∙ sym (with_held m.holds s n e)
      | inr e ↦
          elim (cases_Bool (ltb m.size most_taken)) [
            | inl l ↦ ap (λ (k : Meaning). k.holds) (cond-false (m.holds s n) m _ e ∙ cond-true (ltb m.size most_taken) (grown m s n) m l)
            | inr l ↦ absurd (room (cond-false (m.holds s n) Seen _ e ∙ cond-false (ltb m.size most_taken) Done Full l))
          ]
    ]

pub added_size : (m : Meaning) (s : ℕ) (n : Name) → (after_add m s n).size ≤ m.size + 1
added_size m s n =
    elim (cases_Bool (m.holds s n)) [
      | inl e ↦ let same = ap (λ (k : Meaning). k.size) (cond-true (m.holds s n) m (cond (ltb m.size most_taken) (grown m s n) m) e) in omega (arith, same)
      | inr e ↦
          elim (cases_Bool (ltb m.size most_taken)) [
            | inl l ↦ let one = ap (λ (k : Meaning). k.size) (cond-false (m.holds s n) m _ e ∙ cond-true (ltb m.size most_taken) (grown m s n) m l) in omega (arith, one)
            | inr l ↦ let none = ap (λ (k : Meaning). k.size) (cond-false (m.holds s n) m _ e ∙ cond-false (ltb m.size most_taken) (grown m s n) m l) in omega (arith, none)
          ]
    ]

-- below the bound no add is refused for want of room
pub room_below : (m : Meaning) (s : ℕ) (n : Name) → m.size < most_taken → add_answer m s n ≡ Full → ⊥
room_below m s n l full =
    elim (cases_Bool (m.holds s n)) [
      | inl e ↦ let seen = cond-true (m.holds s n) Seen (cond (ltb m.size most_taken) Done Full) e in never (sym seen ∙ full)
      | inr e ↦
          let answer = cond-false (m.holds s n) Seen (cond (ltb m.size most_taken) Done Full) e in
          let done = cond-true (ltb m.size most_taken) Done Full (lt-ltb m.size most_taken l) in
          never' (sym done ∙ sym answer ∙ full)
    ]
  where
    never : Seen ≡ Full → ⊥
    never e = let z : ◌≡◌ {A = ℕ} 0 1 = cc in omega arith

    never' : Done ≡ Full → ⊥
    never' e = let z : ◌≡◌ {A = ℕ} 0 1 = cc in omega arith

-- the first i names of the list are in
pub record Filling (m : Meaning) (s : ℕ) (ns : List Name) (i : ℕ) (after : Meaning) : Type 0 where
  pub held : after.holds ≡ with_names m.holds s (take i ns)
  pub few : after.size ≤ m.size + i

named_push : (ks : List Name) (n k : Name) → named (ks ++ n ∷ []) k ≡ (same_name n k || named ks k)
named_push [] n k = refl
named_push (x ∷ xs) n k = ap (λ b. same_name x k || b) (named_push xs n k) ∙ or_swap (same_name x k) (same_name n k) (named xs k)

one_more : (h : ℕ → Name → Bool) (s : ℕ) (ns : List Name) (i : ℕ) (n d : Name) → i < length ns → n ≡ get_or ns i d → with_name (with_names h s (take i ns)) s n ≡ with_names h s (take (i + 1) ns)
one_more h s ns i n d l e = fun_ext (λ t. fun_ext (λ k. at t k))
  where
    joined : (b x y z : Bool) → ((b && x) || ((b && y) || z)) ≡ ((b && (x || y)) || z)
    joined true true y z = refl
    joined true false y z = refl
    joined false x y z = refl

    first : take (i + 1) ns ≡ take i ns ++ n ∷ []
    first = take_more ns i d l ∙ ap (λ x. take i ns ++ x ∷ []) (sym e)

    at : (t : ℕ) (k : Name) → ((eqb s t && same_name n k) || ((eqb s t && named (take i ns) k) || h t k)) ≡ ((eqb s t && named (take (i + 1) ns) k) || h t k)
    at t k =
        joined (eqb s t) (same_name n k) (named (take i ns) k) (h t k)
        ∙ ap (λ b. (eqb s t && b) || h t k) (sym (ap (λ ks. named ks k) first ∙ named_push (take i ns) n k))

pub filling_none : (m : Meaning) (s : ℕ) (ns : List Name) → Filling m s ns 0 m
filling_none m s ns = record { held = fun_ext (λ t. fun_ext (λ k. none (eqb s t) (m.holds t k))); few = omega arith }
  where
    none : (b x : Bool) → x ≡ ((b && false) || x)
    none true x = refl
    none false x = refl

pub filling_more : {m before after : Meaning} {s i : ℕ} {ns : List Name} {n : Name} {r : Answer} → (d : Name) → Filling m s ns i before → Added before s n r after → (r ≡ Full → ⊥) → i < length ns → n ≡ get_or ns i d → Filling m s ns (i + 1) after
filling_more {m} {before} {after} {s} {i} {ns} {n} d f a ne l e = record {
  held =
      ap (λ (k : Meaning). k.holds) a.means
      ∙ added_holds before s n (λ full. ne (a.answer ∙ full))
      ∙ ap (λ h. with_name h s n) f.held
      ∙ one_more m.holds s ns i n d l e;
  few = let up = added_size before s n in let is = ap (λ (k : Meaning). k.size) a.means in omega (arith, up, is, f.few);
}

pub filled : {m after : Meaning} {s i : ℕ} {ns : List Name} → Filling m s ns i after → i ≤ length ns → length ns ≤ i → AddedAll m s ns Done after
filled {m} {after} {s} {i} {ns} f l g = record {
  held = λ _. f.held ∙ ap (with_names m.holds s) (take_all i ns g);
  done = λ _. refl;
  few = omega (arith, f.few);
}

pub overfull : {m before after : Meaning} {s i : ℕ} {ns : List Name} {n : Name} {r : Answer} → Filling m s ns i before → Added before s n r after → r ≡ Full → i < length ns → AddedAll m s ns Full after
overfull {m} {before} {after} {s} {i} {ns} {n} f a full l = record {
  held = λ done. absurd (let z : ◌≡◌ {A = ℕ} 0 1 = cc in omega arith);
  done = λ fits. absurd (room_below before s n (omega (arith, f.few)) (sym a.answer ∙ full));
  few = let up = added_size before s n in let is = ap (λ (k : Meaning). k.size) a.means in omega (arith, up, is, f.few);
}
