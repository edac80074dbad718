use Rattle.std.proofs.Common.{◌≡◌, ℕ, ltb, ap, ◌∙◌, rules}
use Rattle.std.specs.Option.{option_map}
use Rattle.model.specs.FirstBest.{first_best}
use Rattle.model.specs.Limits.{stops}
use Rattle.agenda.specs.Slots.{held_below}
use Rattle.agenda.specs.declared.offer.Offer.{Offer}
use Rattle.agenda.proofs.Choosing.{best_mapped}
use Rattle.agenda.proofs.Standing.{less_is}
use Rattle.agenda.proofs.panel.Panel.first.Goals as goal

-- from the first offer to the first production
pub returns : goal.returns
returns c =
    let at = held_below c.args.self.now.offers.slots in
    let same : c.map.result ≡ option_map (λ b. (b.0, b.1.production)) c.least-first.result = search rules in
    same
    ∙ ap (option_map (λ (b : ℕ × Offer). (b.0, b.1.production)))
    (c.least-first.ensures ∙ (λ k. first_best (λ (x y : Offer). less_is y.production.amount x.production.amount k) at stops))
    ∙ best_mapped (λ (o : Offer). o.production) (λ a b. ltb b.amount a.amount) at stops
