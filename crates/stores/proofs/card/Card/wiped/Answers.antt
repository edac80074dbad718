-- Every page is a clone of the zero page, and so is the zero page.
use Rattle.std.proofs.Common.{◌≡◌, ℕ, List, length, replicate, sym, ap, ◌∙◌, arith}
use Rattle.std.specs.Array.{AllZipBelow}
use Rattle.std.proofs.lemmas.List.{ext_get_or, length-replicate}
use Rattle.stores.specs.Cards.{off_medium, zero_page}
use Rattle.stores.proofs.card.Card.wiped.Goals as goal

-- the clone of a page is the page
cloned : (x y : List ℕ) (n : ℕ) → length x ≡ n → AllZipBelow (λ a b. b ≡ a) x y n → y ≡ x
cloned x y n e z = ext_get_or 0 y x (z.long ∙ sym e) (λ i h. z.at i 0 0 (omega (arith, z.long)))

pub returns : goal.returns
returns c = c.new.ensures ∙ ap (off_medium c.args.self.node) (c.fill.ensures.items (λ y h. cloned zero_page y 512 (length-replicate {A = ℕ} 512 0) h) ∙ ap (λ n. replicate n zero_page) c.args.self.pages.ok.0)
