-- What was written, by how long power lasted.
use Rattle.stores.specs.Cards.{medium}
use Rattle.shadow.proofs.Committing.{writes_went}
use Rattle.shadow.proofs.shadow.ShadowLayoutLayout.write.Goals as goal

pub returns : goal.returns
returns c = record {
  writes = λ s l on. writes_went (medium c.args.card.now) (medium c.switch.new.card) c.args.row c.args.page.now c.switch.result s l on (c.switch.ensures.switches l);
  node_stays = c.switch.ensures.node_stays;
}
