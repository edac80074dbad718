-- The card was wiped.
use Rattle.std.proofs.Common.{◌≡◌, ℕ, length, sym, ap, ◌∙◌, subst}
use Rattle.model.specs.Store.{Stored}
use Rattle.stores.specs.Cards.{Medium, medium, blank_medium}
use Rattle.stores.specs.Layouts.{Formatted}
use Rattle.stores.proofs.on_card.OnCard.format.Goals as goal

wiped : (meaning : Medium → Stored) (Sound : Medium → Type 0) (rows pages node size : ℕ) (m : Medium) → m ≡ blank_medium node size → size ≡ pages →
    Formatted meaning Sound rows pages node (blank_medium node pages) → Formatted meaning Sound rows pages node m
wiped meaning Sound rows pages node size m e f blank = subst (Formatted meaning Sound rows pages node) (sym (e ∙ ap (blank_medium node) f)) blank

pub invariant_of-result : goal.invariant_of-result
invariant_of-result g c =
    let e : length (medium c.args.card).pages ≡ g.L.Layout.PAGES = sym c.count.ensures ∙ c.if-count-PAGES.false ∙ c.PAGES.ensures in
    let f = wiped g.L.Layout.meaning g.L.Layout.sound g.L.Layout.ROWS g.L.Layout.PAGES c.args.card.node _ (medium c.wiped.result) c.wiped.ensures e (g.met.L.Layout.formatted c.args.card.node) in
    record { sound = ∣ f.sound ∣₁ }

pub returns : goal.returns
returns g c =
    let e : length (medium c.args.card).pages ≡ g.L.Layout.PAGES = sym c.count.ensures ∙ c.if-count-PAGES.false ∙ c.PAGES.ensures in
    (e, wiped g.L.Layout.meaning g.L.Layout.sound g.L.Layout.ROWS g.L.Layout.PAGES c.args.card.node _ (medium c.wiped.result) c.wiped.ensures e (g.met.L.Layout.formatted c.args.card.node))
