-- A row is at home while the card is on.
use Rattle.std.proofs.Common.{◌≡◌, ℕ, ◌<◌, ◌≤◌, true, List, [], length, get_or, Some, None, Option, sym, ap, ◌∙◌, arith, Bor, MatchOption}
use Rattle.stores.specs.Cards.{Medium, medium}
use Rattle.stores.proofs.Rows.{row_at}
use Rattle.journal.specs.Layout.{row_count, Sound, meaning, home, row_in}
use Rattle.journal.proofs.Marking.{at_home}
use Rattle.journal.proofs.Promising.{known}
use Rattle.journal.proofs.journal.JournalLayoutLayout.row.Goals as goal

found : (m : Medium) (row page : ℕ) (r : Option (Bor (List ℕ))) → Sound m → row < row_count → m.on ≡ true → page ≡ home row →
    MatchOption r (length m.pages ≤ page) (λ p. p.now ≡ get_or m.pages page []) → MatchOption r ⊥ (λ p. p.now ≡ get_or (meaning m).rows row [])
found m row page None s l on e h = absurd (omega (arith, s.sized))
found m row page (Some p) s l on e h =
    h ∙ ap (λ i. get_or m.pages i []) e ∙ sym (at_home m.pages row (s.settled on)) ∙ sym (row_at (row_in m.pages) row_count row l)

pub returns : goal.returns
returns c = λ s l on. found (medium c.args.card.now) c.args.row c.home_page.result c.page.result (known s) l on (c.home_page.ensures l) c.page.ensures
