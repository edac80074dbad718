-- A copy that is refreshed after a commit is done agrees with the store below.
use Rattle.std.proofs.Common.{◌≡◌, ℕ, ◌%◌, true, List, length, get_or, Some, refl, ap, ◌∙◌, arith}
use Rattle.std.proofs.lemmas.List.{get_or-set_same}
use Rattle.std.proofs.lemmas.Bool.{eq-eqb}
use Rattle.cache.specs.declared.entries.Entry.{Entry}
use Rattle.cache.specs.Copies.{no_entry, is_row, holds, kept}

-- what stands in a place after a copy of row r came to its own
module _ (places : List Entry) (r : ℕ) (page : List ℕ) (four : length places ≡ 4) where
  here : (q : ℕ) → q % 4 ≡ r % 4 → get_or (kept places r page) (q % 4) no_entry ≡ record { row = Some r; page = page }
  here q e = ap (λ i. get_or (kept places r page) i no_entry) e ∙ get_or-set_same places (r % 4) _ no_entry (omega arith)

  pub kept_holds : holds (kept places r page) r ≡ true
  kept_holds = ap (λ (e : Entry). is_row e.row r) (here r refl) ∙ eq-eqb r r refl

pub held : {places now : List Entry} (r : ℕ) → now ≡ places → holds places r ≡ true → holds now r ≡ true
held r e h = ap (λ p. holds p r) e ∙ h
