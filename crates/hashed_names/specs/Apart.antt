-- What a sound table lists, and how many.
use Rattle.std.specs.Prelude.{◌≡◌, ℕ, List, [], ◌∷◌, length, Option}
use Rattle.std.specs.Coded.{Coded-set, coded_ℕ, coded_bool, ×_prop, Unit-prop}
use Rattle.std.proofs.Math.Logic.{∥∥₁_elim}
use Rattle.names.specs.declared.taken.Taken.{Taken}
use Rattle.names.specs.Held.{Apart}
use Rattle.hashed_names.specs.Probing.{stored}
use Rattle.hashed_names.specs.Sound.{Sound}

Apart-prop : (ps : List Taken) → IsProp (Apart ps)
Apart-prop [] = Unit-prop
Apart-prop (p ∷ ps) = ×_prop (Coded-set coded_bool _ _) (Apart-prop ps)

pub sound_apart : {xs : List (Option Taken)} {count : ℕ} → ∥ Sound xs count ∥₁ → Apart (stored xs)
sound_apart {xs} s = ∥∥₁_elim s (Apart-prop (stored xs)) (λ f. f.apart)

pub sound_counted : {xs : List (Option Taken)} {count : ℕ} → ∥ Sound xs count ∥₁ → length (stored xs) ≡ count
sound_counted s = ∥∥₁_elim s (Coded-set coded_ℕ _ _) (λ f. f.counted)
