-- A sound card has its pages, and the live slot is the row.
use Rattle.std.proofs.Common.{◌≡◌, ℕ, ◌<◌, ◌≢◌, List, [], length, get_or, Some, None, Option, sym, ◌∙◌, Bor, MatchOption}
use Rattle.stores.specs.Cards.{Medium, medium}
use Rattle.stores.proofs.Rows.{row_at}
use Rattle.shadow.specs.Layout.{row_count, page_count, Sound, meaning, row_in}
use Rattle.shadow.proofs.Committing.{known}
use Rattle.shadow.proofs.shadow.ShadowLayoutLayout.row.Goals as goal

found : (m : Medium) (row : ℕ) (r : Option (Bor (List ℕ))) → ∥ Sound m ∥₁ → row < row_count → MatchOption r (length m.pages ≢ page_count) (λ p. p.now ≡ row_in m.pages row) →
    MatchOption r ⊥ (λ p. p.now ≡ get_or (meaning m).rows row [])
found m row None s l h = h (known s).sized
found m row (Some p) s l h = h ∙ sym (row_at (row_in m.pages) row_count row l)

pub returns : goal.returns
returns c = λ s l on. found (medium c.args.card.now) c.args.row c.live.result s l (c.live.ensures l)
