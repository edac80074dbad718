-- A set that holds exactly the names of the stops does so after some names fell and one came. Assumes nothing.
use Rattle.std.proofs.Common.{◌≡◌, ℕ, suc, ◌<◌, ◌≤◌, Bool, true, false, cond, not, ◌&&◌, ◌||◌, eqb, ltb, leb, List, [], ◌∷◌, ◌++◌, length, Some, None, Option, sym, refl, ap, ◌∙◌, subst, inl, inr, append-nil, zero-le, arith}
use Rattle.std.proofs.lemmas.Bool.{cases_Bool, cond-true, cond-false, cond_both, eqb-true, eq-eqb, and_parts, lt-ltb, ltb-true, leb-false, both_ways}
use Rattle.std.proofs.lemmas.List.{length_push}
use Rattle.std.proofs.lemmas.List.Sums.{length-filter, count_by-le-length}
use Rattle.model.specs.Limits.{stops, most_names}
use Rattle.model.specs.declared.answer.Answer.TheVariants.{Done}
use Rattle.model.specs.declared.record.Name.{Name}
use Rattle.model.specs.Names.{same_name, named, kept}
use Rattle.names.specs.Held.{Meaning, Counted}
use Rattle.names.specs.Changes.{add_answer, after_add, with_name, without_below}
use Rattle.names.specs.Rows.{InRows}
use Rattle.names.proofs.Adding.{added_holds}
use Rattle.names.proofs.Counting.{room}
use Rattle.law.specs.Rows.{seen}
use Rattle.upkeep.specs.Names.{Holds, with_names, staying, coming, renamed, Fresh, Few, dropping, adding}
use Rattle.upkeep.proofs.Seen.{seen_append, seen_kept}

-- the names are what matters, not how they are given
pub same_holds : (m : Meaning) (a b : ℕ → List Name) → ((s : ℕ) → a s ≡ b s) → Holds m a → Holds m b
same_holds m a b e h s k = h s k ∙ ap (λ (ns : List Name). ltb s stops && seen k ns) (e s)

and_true : (a : Bool) → a ≡ (a && true)
and_true true = refl
and_true false = refl

and_assoc : (a b c : Bool) → ((a && b) && c) ≡ (a && (b && c))
and_assoc true b c = refl
and_assoc false b c = refl

module _ (m mid : Meaning) (s : ℕ) (names : ℕ → List Name) (holds : Holds m names) where
  -- names of a stop fell
  falls : (floor : ℕ) → mid.holds ≡ without_below m.holds s floor → Holds mid (with_names s (kept floor (names s)) names)
  falls floor e t k =
      ap (λ (h : ℕ → Name → Bool). h t k) e
      ∙ ap (λ (b : Bool). b && not (eqb t s && ltb k.time floor)) (holds t k)
      ∙ elim (cases_Bool (eqb t s)) [
        | inl same ↦
            let here = eqb-true t s same in
            ap (λ (b : Bool). (ltb t stops && seen k (names t)) && not (b && ltb k.time floor)) same
            ∙ and_assoc (ltb t stops) (seen k (names t)) (not (ltb k.time floor))
            ∙ ap (λ (b : Bool). ltb t stops && b) (sym (seen_kept floor k (names t)) ∙ ap (λ (q : ℕ). seen k (kept floor (names q))) here)
            ∙ ap (λ (b : Bool). ltb t stops && seen k (cond b (kept floor (names s)) (names t))) (sym same)
        | inr other ↦
            ap (λ (b : Bool). (ltb t stops && seen k (names t)) && not (b && ltb k.time floor)) other
            ∙ sym (and_true _)
            ∙ ap (λ (b : Bool). ltb t stops && seen k (cond b (kept floor (names s)) (names t))) (sym other)
      ]

  pub forgot : (floor : Option ℕ) → mid.holds ≡ dropping m.holds s floor → Holds mid (with_names s (staying floor (names s)) names)
  forgot None e t k =
      ap (λ (h : ℕ → Name → Bool). h t k) e ∙ holds t k
      ∙ ap (λ (ns : List Name). ltb t stops && seen k ns) (sym (cond_both (eqb t s) (names s) (names t) (λ (ns : List Name). ns ≡ names t) (λ same. ap names (sym (eqb-true t s same))) (λ _. refl)))
  forgot (Some floor) e t k = falls floor e t k

-- a name comes to a stop
module _ (m : Meaning) (counted : Counted m) (s : ℕ) (names : ℕ → List Name) (holds : Holds m names) (within : s < stops) (n : Name) (fresh : seen n (names s) ≡ false) (few : Few (with_names s (names s ++ n ∷ []) names)) where
  more : ℕ → List Name
  more = with_names s (names s ++ n ∷ []) names

  -- the set with the name more is that of the stops with the name more
  grows : (t : ℕ) (k : Name) → with_name m.holds s n t k ≡ (ltb t stops && seen k (more t))
  unfolding more
  grows t k =
      ap (λ (b : Bool). (eqb s t && same_name n k) || b) (holds t k)
      ∙ elim (cases_Bool (eqb t s)) [
        | inl same ↦
            let here = eqb-true t s same in
            let inside : ltb t stops ≡ true = lt-ltb t stops (subst (λ (q : ℕ). q < stops) (sym here) within) in
            ap (λ (b : Bool). (b && same_name n k) || (ltb t stops && seen k (names t))) (eq-eqb s t (sym here))
            ∙ ap (λ (b : Bool). same_name n k || (b && seen k (names t))) inside
            ∙ swap (same_name n k) (seen k (names t))
            ∙ sym (seen_append k (names t) (n ∷ []))
            ∙ ap (λ (q : ℕ). seen k (names q ++ n ∷ [])) here
            ∙ ap (λ (b : Bool). b && seen k (names s ++ n ∷ [])) (sym inside)
            ∙ ap (λ (b : Bool). ltb t stops && seen k (cond b (names s ++ n ∷ []) (names t))) (sym same)
        | inr other ↦
            ap (λ (b : Bool). (b && same_name n k) || (ltb t stops && seen k (names t))) (off (eqb s t) (λ e. both_ways (eqb t s) other (eq-eqb t s (sym (eqb-true s t e)))))
            ∙ ap (λ (b : Bool). ltb t stops && seen k (cond b (names s ++ n ∷ []) (names t))) (sym other)
      ]
    where
      off : (b : Bool) → (b ≡ true → ⊥) → b ≡ false
      off true f = absurd (f refl)
      off false f = refl

      swap : (a b : Bool) → (a || (true && b)) ≡ (b || (a || false))
      swap true true = refl
      swap true false = refl
      swap false true = refl
      swap false false = refl

  -- those rows have room for all that the set holds then
  rows : ℕ → List Name
  rows q = cond (ltb q stops) (more q) []

  in_rows : InRows (with_name m.holds s n) rows
  unfolding more rows
  in_rows = record {
    stop = λ t k h. ltb-true t stops (and_parts (ltb t stops) (seen k (more t)) (sym (grows t k) ∙ h)).0;
    row = λ t k h.
        let both = and_parts (ltb t stops) (seen k (more t)) (sym (grows t k) ∙ h) in
        ap (λ (ns : List Name). named ns k) (cond-true (ltb t stops) (more t) [] both.0) ∙ both.1;
    short = λ t.
        cond_both (ltb t stops) (more t) [] (λ (ns : List Name). length ns ≤ most_names) (λ inside. few t (ltb-true t stops inside)) (λ _. zero-le);
  }

  comes : (after : Meaning) → after ≡ after_add m s n → Holds after (with_names s (names s ++ n ∷ []) names)
  unfolding more
  comes after e t k =
      let out : m.holds s n ≡ false = holds s n ∙ both (ltb s stops) (seen n (names s)) fresh in
      let done : add_answer m s n ≡ Done = room m counted rows s n out in_rows in
      ap (λ (x : Meaning). x.holds t k) e
      ∙ ap (λ (h : ℕ → Name → Bool). h t k) (added_holds m s n (λ full. let z : ◌≡◌ {A = ℕ} 0 1 = cc in omega arith))
      ∙ grows t k
    where
      both : (a b : Bool) → b ≡ false → (a && b) ≡ false
      both true b f = f
      both false b f = refl

module _ (m : Meaning) (counted : Counted m) (s : ℕ) (names : ℕ → List Name) (holds : Holds m names) (within : s < stops) where
  remembered
      : (come : Option Name) (after : Meaning)
      → Fresh come (names s)
      → Few (with_names s (names s ++ coming come) names)
      → after ≡ adding m s come
      → Holds after (with_names s (names s ++ coming come) names)
  remembered None after fresh few e t k =
      ap (λ (x : Meaning). x.holds t k) e ∙ holds t k
      ∙ ap (λ (ns : List Name). ltb t stops && seen k ns)
      (sym (cond_both (eqb t s) (names s ++ []) (names t) (λ (ns : List Name). ns ≡ names t) (λ same. append-nil (names s) ∙ ap names (sym (eqb-true t s same))) (λ _. refl)))
  remembered (Some n) after fresh few e t k = comes m counted s names holds within n fresh few after e t k

-- both, one after the other
module _ (m mid after : Meaning) (s : ℕ) (floor : Option ℕ) (come : Option Name) (counted : Counted mid) where
  pub renames
      : mid.holds ≡ dropping m.holds s floor
      → after ≡ adding mid s come
      → (names : ℕ → List Name)
      → Holds m names
      → s < stops
      → Fresh come (names s)
      → Few (with_names s (renamed floor come (names s)) names)
      → Holds after (with_names s (renamed floor come (names s)) names)
  renames drops adds names holds within fresh few =
      let left = with_names s (staying floor (names s)) names in
      let at : left s ≡ staying floor (names s) = cond-true (eqb s s) _ _ (eq-eqb s s refl) in
      let same : (t : ℕ) → with_names s (left s ++ coming come) left t ≡ with_names s (renamed floor come (names s)) names t =
      λ t.
      elim (cases_Bool (eqb t s)) [
        | inl here ↦ cond-true (eqb t s) _ _ here ∙ ap (λ (ns : List Name). ns ++ coming come) at ∙ sym (cond-true (eqb t s) _ _ here)
        | inr off ↦ cond-false (eqb t s) _ _ off ∙ cond-false (eqb t s) _ _ off ∙ sym (cond-false (eqb t s) _ _ off)
      ] in
      same_holds after _ _ same
      (remembered mid counted s left (forgot m mid s names holds floor drops) within come after
      (subst (Fresh come) (sym at) (still floor come (names s) fresh))
      (λ t h. subst (λ (ns : List Name). length ns ≤ most_names) (sym (same t)) (few t h))
      adds)
    where
      -- what was not there before some fell is not there after
      still : (floor : Option ℕ) (come : Option Name) (ns : List Name) → Fresh come ns → Fresh come (staying floor ns)
      still floor None ns f = tt
      still None (Some n) ns f = f
      still (Some x) (Some n) ns f = seen_kept x n ns ∙ ap (λ (b : Bool). b && not (ltb n.time x)) f

-- a filter that keeps as many keeps all
all_kept : (floor : ℕ) (ns : List Name) → length ns ≤ length (kept floor ns) → kept floor ns ≡ ns
all_kept floor [] h = refl
all_kept floor (n ∷ ns) h =
    elim (cases_Bool (leb floor n.time)) [
      | inl stays ↦
          let is = cond-true (leb floor n.time) (n ∷ kept floor ns) (kept floor ns) stays in
          let more : suc (length ns) ≤ suc (length (kept floor ns)) = subst (λ (xs : List Name). suc (length ns) ≤ length xs) is h in
          is ∙ ap (λ (xs : List Name). n ∷ xs) (all_kept floor ns (omega arith))
      | inr falls ↦
          let is = cond-false (leb floor n.time) (n ∷ kept floor ns) (kept floor ns) falls in
          let more : suc (length ns) ≤ length (kept floor ns) = subst (λ (xs : List Name). suc (length ns) ≤ length xs) is h in
          absurd (omega (arith, length-filter (λ (k : Name). leb floor k.time) ns, count_by-le-length (λ (k : Name). leb floor k.time) ns))
    ]

-- what fell, told by how many are left
pub fell_or_not : (floor : ℕ) (k : Name) (ns : List Name) (r : Option ℕ) → r ≡ cond (leb (length (kept floor ns ++ k ∷ [])) (length ns)) (Some floor) None → kept floor ns ++ k ∷ [] ≡ renamed r (Some k) ns
fell_or_not floor k ns r e =
    elim (cases_Bool (leb (length (kept floor ns ++ k ∷ [])) (length ns))) [
      | inl t ↦ ap (λ (x : Option ℕ). renamed x (Some k) ns) (sym (e ∙ cond-true _ _ _ t))
      | inr f ↦
          let more = leb-false _ _ f in
          ap (λ (xs : List Name). xs ++ k ∷ []) (all_kept floor ns (omega (arith, length_push (kept floor ns) k)))
          ∙ ap (λ (x : Option ℕ). renamed x (Some k) ns) (sym (e ∙ cond-false _ _ _ f))
    ]
