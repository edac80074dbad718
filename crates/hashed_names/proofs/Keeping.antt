-- Names that go in, and names that are left out: the table stays sound.
use Rattle.std.proofs.Common.{◌≡◌, ℕ, ◌+◌, ◌<◌, ◌≤◌, Bool, true, false, cond, not, ◌&&◌, ◌||◌, List, [], ◌∷◌, ◌++◌, length, take, set, replicate, Some, None, Option, sym, refl, ap, ◌∙◌, subst, inl, inr, arith}
use mathlib.Core.Path.{fun_ext}
use Rattle.std.proofs.Math.Logic.{∥∥₁_elim, ∥∥₁_prop}
use Rattle.std.specs.Coded.{Coded-set, coded_bool}
use Rattle.std.specs.List.{list_any}
use Rattle.std.proofs.lemmas.List.{take_more, take_all}
use Rattle.std.proofs.lemmas.List.Folds.{list_any_at}
use Rattle.std.proofs.lemmas.Bool.Decides.{nat_tests}
use Rattle.std.proofs.lemmas.Bool.{both_ways, cases_Bool, and_from, and_left, and_parts, not_from_false}
use Rattle.model.specs.declared.answer.Answer.TheVariants.{Done, Full}
use Rattle.model.specs.declared.record.Name.{Name}
use Rattle.names.specs.declared.taken.Taken.{Taken}
use Rattle.names.specs.Held.{Meaning, Apart, same_taken, listed, most_taken}
use Rattle.names.specs.Changes.{with_name, is_below, without_below, Added, Cleared}
use Rattle.names.proofs.Listing.{taken, same_is, listed_append}
use Rattle.names.proofs.Counting.{covers}
use Rattle.names.proofs.Adding.{added_done}
use Rattle.hashed_names.specs.Probing.{stored, at}
use Rattle.hashed_names.specs.Places.{FreeAt}
use Rattle.hashed_names.specs.Inserting.{Inserted}
use Rattle.hashed_names.specs.Sound.{Sound}
use Rattle.hashed_names.specs.Apart.{sound_counted}
use Rattle.hashed_names.specs.Rebuilding.{Rebuilt}
use Rattle.hashed_names.proofs.Storing.{stored_at, listed_put, length-put, apart_put, stored_none, stored_push_none, stored_push_some}
use Rattle.hashed_names.proofs.Chains.{chained_put, chained_none}

-- free places are an empty table
sound_none : (k : ℕ) → Sound (replicate k None) 0
sound_none k = record { chained = chained_none k; apart = subst Apart (sym (stored_none k)) tt; counted = ap length (stored_none k) }

pub cleared_sound : {xs : List (Option Taken)} (k : ℕ) → xs ≡ replicate k None → ∥ Sound xs 0 ∥₁
cleared_sound {xs} k e = ∣ subst (λ zs. Sound zs 0) (sym e) (sound_none k) ∣₁

pub cleared : {xs : List (Option Taken)} (k : ℕ) → xs ≡ replicate k None → Cleared (record { holds = listed (stored xs); size = 0 })
cleared {xs} k e = record { means = λ i. record { holds = none i; size = 0 } }
  where
    none : listed (stored xs) ≡ listed []
    none = ap (λ zs. listed (stored zs)) e ∙ ap listed (stored_none k)

-- a name takes the free place at the end of its search
pub inserted : {xs ys : List (Option Taken)} {s i : ℕ} {n : Name} → length xs ≡ 2048 → FreeAt xs s n i → ys ≡ set xs i (Some (taken s n)) → Inserted xs (taken s n) true ys
inserted {xs} {ys} {s} {i} {n} size f e = subst (Inserted xs (taken s n) true) (sym e) put
  where
    within : i < length xs
    within = omega (arith, f.within)

    put : Inserted xs (taken s n) true (set xs i (Some (taken s n)))
    put = record {
      chained = chained_put xs i s n within f.reached;
      apart = λ chained. apart_put xs i (taken s n) within f.empty (f.absent chained);
      counted = length-put xs i (taken s n) within f.empty;
      held = λ chained room. fun_ext (λ t. fun_ext (λ k. listed_put xs i (taken s n) within f.empty t k));
    }

sound_inserted : {xs ys : List (Option Taken)} {count : ℕ} {p : Taken} {r : Bool} → Sound xs count → Inserted xs p r ys → Sound ys (cond r (count + 1) count)
sound_inserted {xs} {ys} {count} {p} {r} s h = record {
  chained = h.chained s.chained;
  apart = h.apart s.chained s.apart;
  counted = h.counted ∙ ap (λ n. cond r (n + 1) n) s.counted;
}

-- the name that takes a free place is not in
pub absent : {xs : List (Option Taken)} {count s i : ℕ} {n : Name} → ∥ Sound xs count ∥₁ → FreeAt xs s n i → listed (stored xs) s n ≡ false
absent sound free = ∥∥₁_elim sound (Coded-set coded_bool _ _) (λ f. free.absent f.chained)

-- a table that has no room
pub refused : {m : Meaning} {s : ℕ} {n : Name} → m.holds s n ≡ false → most_taken ≤ m.size → Added m s n Full m
refused {m} {s} {n} none full = record {
  answer = grind (arith, nat_tests, none, full);
  means = grind (arith, nat_tests, none, full);
}

module _ {xs ys : List (Option Taken)} {count s i : ℕ} {n : Name} (size : length xs ≡ 2048) (sound : ∥ Sound xs count ∥₁) (free : FreeAt xs s n i) (few : count < most_taken) (e : ys ≡ set xs i (Some (taken s n))) where
  put : Inserted xs (taken s n) true ys
  put = inserted size free e

  pub added_sound : ∥ Sound ys (count + 1) ∥₁
  added_sound = ∥∥₁_elim sound ∥∥₁_prop (λ f. ∣ sound_inserted f put ∣₁)

  pub added : Added (record { holds = listed (stored xs); size = count }) s n Done (record { holds = listed (stored ys); size = count + 1 })
  added = added_done (record { holds = listed (stored xs); size = count }) (record { holds = listed (stored ys); size = count + 1 }) s n (absent sound free) few held refl
    where
      held : listed (stored ys) ≡ with_name (listed (stored xs)) s n
      held = fun_ext (λ t. fun_ext (λ k. ∥∥₁_elim sound (Coded-set coded_bool _ _) (λ f. ap (λ hs. hs t k) (put.held f.chained (omega (arith, f.counted))))))

-- a place whose name is one of the stop's below the floor
abbrev pub goes : ℕ → ℕ → Option Taken → Bool
goes s floor None = false
goes s floor (Some p) = is_below s floor p

-- where all names stay, nothing is left out
pub all_stay : (xs : List (Option Taken)) (s floor : ℕ) → list_any (goes s floor) xs ≡ false → listed (stored xs) ≡ without_below (listed (stored xs)) s floor
all_stay xs s floor f = fun_ext (λ t. fun_ext (λ k. each t k))
  where
    stays : (j : ℕ) → j < length xs → goes s floor (at xs j) ≡ false
    stays j l =
        elim (cases_Bool (goes s floor (at xs j))) [
          | inl e ↦ absurd (both_ways _ f (list_any_at (goes s floor) xs j None l e))
          | inr e ↦ e
        ]

    each : (t : ℕ) (k : Name) → listed (stored xs) t k ≡ (listed (stored xs) t k && not (is_below s floor (taken t k)))
    each t k =
        elim (cases_Bool (listed (stored xs) t k)) [
          | inl e ↦
              let found = stored_at xs t k e in
              let stays : is_below s floor (taken t k) ≡ false = subst (λ o. goes s floor o ≡ false) found.2 (stays found.0 found.1) in
              e ∙ sym (and_from _ _ e (not_from_false _ stays))
          | inr e ↦ e ∙ sym (and_left _ (not (is_below s floor (taken t k))) e)
        ]

-- the first i places have been gone through
pub record Going (xs : List (Option Taken)) (s floor i : ℕ) (ys : List (Option Taken)) (count : ℕ) : Type 0 where
  pub sound : Sound ys count
  pub short : count ≤ i
  pub held : listed (stored ys) ≡ without_below (listed (stored (take i xs))) s floor

pub going_none : {ys : List (Option Taken)} (xs : List (Option Taken)) (s floor k : ℕ) → ys ≡ replicate k None → Going xs s floor 0 ys 0
going_none {ys} xs s floor k e = subst (λ zs. Going xs s floor 0 zs 0) (sym e) (record { sound = sound_none k; short = omega arith; held = ap listed (stored_none k) })

module _ {xs ys : List (Option Taken)} {s floor i count : ℕ} (g : Going xs s floor i ys count) (l : i < length xs) where
  next : (o : Option Taken) → at xs i ≡ o → take (i + 1) xs ≡ take i xs ++ o ∷ []
  next o e = take_more xs i None l ∙ ap (λ x. take i xs ++ x ∷ []) e

  -- a free place
  pub going_free : at xs i ≡ None → Going xs s floor (i + 1) ys count
  going_free e = record {
    sound = g.sound;
    short = omega (arith, g.short);
    held = g.held ∙ ap (λ ps. without_below (listed ps) s floor) (sym (ap stored (next None e) ∙ stored_push_none (take i xs)));
  }

  -- a name that is left out
  pub going_without : (p : Taken) → at xs i ≡ Some p → is_below s floor p ≡ true → Going xs s floor (i + 1) ys count
  going_without p e below = record {
    sound = g.sound;
    short = omega (arith, g.short);
    held = g.held ∙ fun_ext (λ t. fun_ext (λ k. each t k)) ∙ ap (λ ps. without_below (listed ps) s floor) (sym (ap stored (next (Some p) e) ∙ stored_push_some (take i xs) p));
  }
    where
      gone : (a b c : Bool) → (b ≡ true → c ≡ true) → (a && not c) ≡ ((a || (b || false)) && not c)
      gone true b c f = refl
      gone false true true f = refl
      gone false true false f = absurd (both_ways false refl (f refl))
      gone false false c f = refl

      each : (t : ℕ) (k : Name) → (listed (stored (take i xs)) t k && not (is_below s floor (taken t k))) ≡ (listed (stored (take i xs) ++ p ∷ []) t k && not (is_below s floor (taken t k)))
      each t k =
          gone (listed (stored (take i xs)) t k) (same_taken p t k) (is_below s floor (taken t k)) (λ same. subst (λ q. is_below s floor q ≡ true) (same_is p t k same) below)
          ∙ ap (λ b. b && not (is_below s floor (taken t k))) (sym (listed_append (stored (take i xs)) (p ∷ []) t k))

  -- a name that stays
  pub going_with : {zs : List (Option Taken)} {r : Bool} (p : Taken) → length xs ≡ 2048 → at xs i ≡ Some p → is_below s floor p ≡ false → Inserted ys p r zs → Going xs s floor (i + 1) zs (cond r (count + 1) count)
  going_with {zs} {r} p size e stays h = record {
    sound = sound_inserted g.sound h;
    short = upto r;
    held =
        h.held g.sound.chained (omega (arith, g.sound.counted, g.short))
        ∙ ap (λ hs. with_name hs p.stop p.name) g.held
        ∙ fun_ext (λ t. fun_ext (λ k. each t k))
        ∙ ap (λ ps. without_below (listed ps) s floor) (sym (ap stored (next (Some p) e) ∙ stored_push_some (take i xs) p));
  }
    where
      upto : (b : Bool) → cond b (count + 1) count ≤ i + 1
      upto true = omega (arith, g.short)
      upto false = omega (arith, g.short)

      come : (a b c : Bool) → (b ≡ true → c ≡ false) → (b || (a && not c)) ≡ ((a || (b || false)) && not c)
      come true true true f = absurd (both_ways true (f refl) refl)
      come true true false f = refl
      come true false c f = refl
      come false true true f = absurd (both_ways true (f refl) refl)
      come false true false f = refl
      come false false c f = refl

      each : (t : ℕ) (k : Name) → (same_taken p t k || (listed (stored (take i xs)) t k && not (is_below s floor (taken t k)))) ≡ (listed (stored (take i xs) ++ p ∷ []) t k && not (is_below s floor (taken t k)))
      each t k =
          come (listed (stored (take i xs)) t k) (same_taken p t k) (is_below s floor (taken t k)) (λ same. subst (λ q. is_below s floor q ≡ false) (same_is p t k same) stays)
          ∙ ap (λ b. b && not (is_below s floor (taken t k))) (sym (listed_append (stored (take i xs)) (p ∷ []) t k))

pub gone_through : {xs ys : List (Option Taken)} {s floor i count : ℕ} → Going xs s floor i ys count → length xs ≤ i → Rebuilt xs s floor ys count
gone_through {xs} {ys} {s} {floor} {i} {count} g l = record {
  sound = g.sound;
  held = g.held ∙ ap (λ zs. without_below (listed (stored zs)) s floor) (take_all i xs l);
}

-- no more names are left than there were
pub fewer : {xs ys : List (Option Taken)} {s floor count left : ℕ} → ∥ Sound xs count ∥₁ → Rebuilt xs s floor ys left → left ≤ count
fewer {xs} {ys} {s} {floor} {count} {left} f r =
    let long = sound_counted f in
    let less = covers (stored ys) (stored xs) r.sound.apart (λ t k h. (and_parts (listed (stored xs) t k) _ (sym (ap (λ hs. hs t k) r.held) ∙ h)).0) in
    omega (arith, less, long, r.sound.counted)
