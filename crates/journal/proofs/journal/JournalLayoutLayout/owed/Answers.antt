-- A card without pages has no mark.
use Rattle.std.proofs.Common.{[], get_or, sym, ap}
use Rattle.std.proofs.lemmas.List.{get_or_past}
use Rattle.stores.specs.Cards.{medium}
use Rattle.journal.specs.Layout.{owed_by}
use Rattle.journal.proofs.journal.JournalLayoutLayout.owed.Goals as goal

pub returns-in_default : goal.returns-in_default
returns-in_default c = sym (ap (λ p. owed_by (get_or p 0 0)) (get_or_past (medium c.args.card.now).pages 0 [] c.in_default.ensures))
