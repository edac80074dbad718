-- The stores of the two boxes, as formatting leaves them. Assumes nothing.
use Rattle.stores.specs.Cards.{Medium}
use Rattle.journal.specs.Layout.{Formatted}
use Rattle.shadow.specs.Layout.{Formatted as ShadowFormatted}

-- node 0's card, formatted for a journal store
abbrev pub JournalReady : Medium → Type 0
JournalReady m = Formatted 0 m

-- node 1's card, formatted for a shadow store
abbrev pub ShadowReady : Medium → Type 0
ShadowReady m = ShadowFormatted 1 m
