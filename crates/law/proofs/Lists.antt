-- Lemmas on membership, on lists whose entries are apart, and on what a filter keeps. Assumes nothing.
use Rattle.std.proofs.Common.{◌≡◌, ℕ, ◌+◌, Bool, true, false, cond, ◌⊎◌, List, [], ◌∷◌, ◌++◌, map, filter, sym, refl, ap, ◌∙◌, subst, inl, inr, add_assoc, zero-add}
use Rattle.std.proofs.lemmas.Bool.{cond_both}
use Rattle.law.specs.Lists.{Mem, Apart, total}

module _ {X : Type 0} where
  pub mem_left : (x : X) (xs ys : List X) → Mem x xs → Mem x (xs ++ ys)
  mem_left x [] ys m = absurd m
  mem_left x (y ∷ xs) ys (inl e) = inl e
  mem_left x (y ∷ xs) ys (inr m) = inr (mem_left x xs ys m)

  pub mem_right : (x : X) (xs ys : List X) → Mem x ys → Mem x (xs ++ ys)
  mem_right x [] ys m = m
  mem_right x (y ∷ xs) ys m = inr (mem_right x xs ys m)

  pub mem_split : (x : X) (xs ys : List X) → Mem x (xs ++ ys) → Mem x xs ⊎ Mem x ys
  mem_split x [] ys m = inr m
  mem_split x (y ∷ xs) ys (inl e) = inl (inl e)
  mem_split x (y ∷ xs) ys (inr m) = elim (mem_split x xs ys m) [ inl a ↦ inl (inr a) | inr b ↦ inr b ]

  -- the last entry of a list is in it
  pub mem_last : (x : X) (xs : List X) → Mem x (xs ++ (x ∷ []))
  mem_last x xs = mem_right x xs (x ∷ []) (inl refl)

  -- what is in a list with one more entry
  pub mem_snoc : (x y : X) (xs : List X) → Mem x (xs ++ (y ∷ [])) → Mem x xs ⊎ (x ≡ y)
  mem_snoc x y xs m = elim (mem_split x xs (y ∷ []) m) [ inl a ↦ inl a | inr (inl e) ↦ inr e | inr (inr b) ↦ absurd b ]

  pub mem_is : (x : X) (xs ys : List X) → xs ≡ ys → Mem x xs → Mem x ys
  mem_is x xs ys e m = subst (λ zs. Mem x zs) e m

  -- two parts of a list that is apart share nothing
  pub apart_split : (x : X) (xs ys : List X) → Apart (xs ++ ys) → Mem x xs → Mem x ys → ⊥
  apart_split x [] ys a m n = m
  apart_split x (y ∷ xs) ys a (inl e) n = a.0 (subst (λ z. Mem z (xs ++ ys)) e (mem_right x xs ys n))
  apart_split x (y ∷ xs) ys a (inr m) n = apart_split x xs ys a.1 m n

  pub apart_join : (xs ys : List X) → Apart xs → Apart ys → ((x : X) → Mem x xs → Mem x ys → ⊥) → Apart (xs ++ ys)
  apart_join [] ys a b f = b
  apart_join (x ∷ xs) ys a b f = (
    λ m. elim (mem_split x xs ys m) [ inl k ↦ a.0 k | inr k ↦ f x (inl refl) k ],
    apart_join xs ys a.1 b (λ z m n. f z (inr m) n),
  )

  pub apart_snoc : (x : X) (xs : List X) → Apart xs → (Mem x xs → ⊥) → Apart (xs ++ (x ∷ []))
  apart_snoc x xs a f =
      apart_join xs (x ∷ []) a (λ m. m, tt) (λ z m n. elim n [ inl e ↦ f (subst (λ y. Mem y xs) e m) | inr b ↦ b ])

  -- what a filter keeps was there, and passes; what passes is kept
  pub kept_mem : (x : X) (test : X → Bool) (xs : List X) → Mem x (filter test xs) → Mem x xs
  kept_mem x test [] m = m
  kept_mem x test (y ∷ xs) m = at (kept_mem x test xs) (test y) m
    where
      at
          : (Mem x (filter test xs) → Mem x xs)
          → (b : Bool) → Mem x (cond b (y ∷ filter test xs) (filter test xs)) → Mem x (y ∷ xs)
      at below true (inl e) = inl e
      at below true (inr k) = inr (below k)
      at below false k = inr (below k)

  pub mem_kept : (x : X) (test : X → Bool) (xs : List X) → Mem x xs → test x ≡ true → Mem x (filter test xs)
  mem_kept x test [] m t = m
  mem_kept x test (y ∷ xs) (inl e) t =
      subst (λ b. Mem x (cond b (y ∷ filter test xs) (filter test xs))) (sym (sym (ap test e) ∙ t)) (inl e)
  mem_kept x test (y ∷ xs) (inr m) t =
      cond_both (test y) (y ∷ filter test xs) (filter test xs) (λ zs. Mem x zs)
      (λ _. inr (mem_kept x test xs m t))
      (λ _. mem_kept x test xs m t)

  pub kept_passes : (x : X) (test : X → Bool) (xs : List X) → Mem x (filter test xs) → test x ≡ true
  kept_passes x test [] m = absurd m
  kept_passes x test (y ∷ xs) m = at (kept_passes x test xs) (test y) refl m
    where
      at
          : (Mem x (filter test xs) → test x ≡ true)
          → (b : Bool) → test y ≡ b → Mem x (cond b (y ∷ filter test xs) (filter test xs)) → test x ≡ true
      at below true t (inl e) = ap test e ∙ t
      at below true t (inr k) = below k
      at below false t k = below k

  -- a filter that all pass keeps all
  pub kept_all : (test : X → Bool) (xs : List X) → ((x : X) → Mem x xs → test x ≡ true) → filter test xs ≡ xs
  kept_all test [] f = refl
  kept_all test (y ∷ xs) f =
      subst (λ b. cond b (y ∷ filter test xs) (filter test xs) ≡ y ∷ xs) (sym (f y (inl refl)))
      (ap (λ zs. y ∷ zs) (kept_all test xs (λ x m. f x (inr m))))

  pub apart_kept : (test : X → Bool) (xs : List X) → Apart xs → Apart (filter test xs)
  apart_kept test [] a = a
  apart_kept test (y ∷ xs) a =
      cond_both (test y) (y ∷ filter test xs) (filter test xs) (λ zs. Apart zs)
      (λ _. (λ m. a.0 (kept_mem y test xs m), apart_kept test xs a.1))
      (λ _. apart_kept test xs a.1)

module _ {X Y : Type 0} (f : X → Y) where
  pub map-++ : (xs ys : List X) → map f (xs ++ ys) ≡ map f xs ++ map f ys
  map-++ [] ys = refl
  map-++ (x ∷ xs) ys = ap (λ zs. f x ∷ zs) (map-++ xs ys)

  pub mem_map : (x : X) (xs : List X) → Mem x xs → Mem (f x) (map f xs)
  mem_map x [] m = m
  mem_map x (y ∷ xs) (inl e) = inl (ap f e)
  mem_map x (y ∷ xs) (inr m) = inr (mem_map x xs m)

  pub mem_unmap : (y : Y) (xs : List X) → Mem y (map f xs) → (x : X) × Mem x xs × (y ≡ f x)
  mem_unmap y [] m = absurd m
  mem_unmap y (x ∷ xs) (inl e) = (x, inl refl, e)
  mem_unmap y (x ∷ xs) (inr m) = let r = mem_unmap y xs m in (r.0, inr r.1, r.2)

pub total-++ : (xs ys : List ℕ) → total (xs ++ ys) ≡ total xs + total ys
total-++ [] ys = sym (zero-add (total ys))
total-++ (x ∷ xs) ys = ap (λ n. x + n) (total-++ xs ys) ∙ sym (add_assoc x (total xs) (total ys))
