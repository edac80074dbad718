-- The card was turned on, and nothing else.
use Rattle.std.proofs.Common.{rules}
use Rattle.stores.specs.Cards.{medium}
use Rattle.stores.specs.Tears.{tear_number}
use Rattle.shadow.proofs.Waking.{woke}
use Rattle.shadow.proofs.shadow.ShadowLayoutLayout.restart.Goals as goal

pub returns-clause-wakes : goal.returns-clause-wakes
returns-clause-wakes c = woke (medium c.args.card.now) _ c.args.charge.left (tear_number c.args.charge.tear) c.args.charge.junk.now (search rules)
