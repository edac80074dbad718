use Rattle.std.proofs.Common.{◌≡◌, ℕ, ◌∙◌, rules}
use Rattle.std.specs.Option.{option_map}
use Rattle.agenda.specs.Slots.{changed, held_below}
use Rattle.agenda.specs.declared.offer.Offer.{Offer}
use Rattle.agenda.proofs.Standing.{changed_mapped}
use Rattle.agenda.proofs.panel.Panel.set.Goals as goal

pub returns : goal.returns
returns c =
    let xs = c.args.self.now.offers.slots in
    let offer = c.map-offer.result in
    let same : option_map (λ (o : Offer). o.production) offer ≡ c.args.shown = search rules in
    (λ k q. option_map (λ (o : Offer). o.production) (c.set.ensures k q)) ∙ changed_mapped (λ (o : Offer). o.production) c.args.stop offer (held_below xs)
    ∙ (λ k. changed c.args.stop (same k) (λ (q : ℕ). option_map (λ (o : Offer). o.production) (held_below xs q)))
