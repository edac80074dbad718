-- What was written, by how long power lasted.
use Rattle.stores.specs.Cards.{medium}
use Rattle.journal.proofs.Promising.{writes_went}
use Rattle.journal.proofs.journal.JournalLayoutLayout.write.Goals as goal

pub returns : goal.returns
returns c = record {
  writes = λ s l on. writes_went (medium c.args.card.now) (medium c.write_row.new.card) c.args.row c.args.page.now c.write_row.result s l on (c.write_row.ensures.journals l);
  node_stays = c.write_row.ensures.node_stays;
}
