-- The card is turned on, and then mended.
use Rattle.std.proofs.Common.{rules}
use Rattle.stores.specs.Cards.{medium}
use Rattle.stores.specs.Tears.{tear_number}
use Rattle.journal.proofs.Promising.{wakes_woke}
use Rattle.journal.proofs.journal.JournalLayoutLayout.restart.Goals as goal

pub returns : goal.returns
returns c = record {
  wakes = λ s. wakes_woke (medium c.args.card.now) _ (medium c.mend.new.card) c.args.charge.left (tear_number c.args.charge.tear) c.args.charge.junk.now c.mend.result
      s (search rules) c.mend.ensures.mends;
  node_stays = search rules;
}
