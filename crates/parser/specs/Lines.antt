-- Which calls a line can say: every call whose numbers fit their fields and whose junk is one byte throughout. Assumes nothing.
use Rattle.std.specs.Prelude.{◌≤◌}
use Rattle.model.specs.declared.call.Call.{Call}
use Rattle.model.specs.declared.call.Call.TheVariants.{HandIn, Advance, Fire, Send, Lose, Repeat, Deliver, Pass, Restart, Show, MarkDone}
use Rattle.model.specs.declared.call.Junk.TheVariants.{Fill, Page}
use Rattle.model.specs.declared.record.Record.{Record}
use Rattle.parser.specs.Fields.{most_of}
use Rattle.parser.specs.declared.field.Field.TheVariants as field

pub record RecordFits (r : Record) : Type 0 where
  pub sender : r.name.sender ≤ most_of field.Sender
  pub stop : r.stop ≤ most_of field.Stop
  pub serial : r.name.serial ≤ most_of field.Serial
  pub time : r.name.time ≤ most_of field.Time
  pub amount : r.amount ≤ most_of field.Amount

abbrev pub Sayable : Call → Type 0
Sayable (HandIn r) = RecordFits r
Sayable (Advance time) = time ≤ most_of field.Time
Sayable (Fire node) = node ≤ most_of field.Node
Sayable Send = Unit {0}
Sayable (Lose place) = place ≤ most_of field.Place
Sayable (Repeat place) = place ≤ most_of field.Place
Sayable (Deliver place) = place ≤ most_of field.Place
Sayable Pass = Unit {0}
Sayable (Restart node left tear (Fill fill)) =
    (node ≤ most_of field.Node) × (left ≤ most_of field.Left) × (tear ≤ most_of field.Tear) × (fill ≤ most_of field.Fill)
Sayable (Restart node left tear (Page page)) = ⊥
Sayable Show = Unit {0}
Sayable (MarkDone stop serial) = (stop ≤ most_of field.Stop) × (serial ≤ most_of field.Serial)
