-- The word before each number of a call, and how large the number can be. Assumes nothing.
use Rattle.std.specs.Prelude.{ℕ, List, codes}
use Rattle.parser.specs.declared.field.Field.{Field}
use Rattle.parser.specs.declared.field.Field.TheVariants.{Sender, Stop, Serial, Time, Amount, Node, Place, Left, Tear, Fill}

abbrev pub field_name : Field → List ℕ
field_name Sender = codes "sender"
field_name Stop = codes "stop"
field_name Serial = codes "serial"
field_name Time = codes "time"
field_name Amount = codes "amount"
field_name Node = codes "node"
field_name Place = codes "place"
field_name Left = codes "left"
field_name Tear = codes "tear"
field_name Fill = codes "fill"

abbrev pub most_of : Field → ℕ
most_of Sender = 65535
most_of Stop = 65535
most_of Serial = 4294967295
most_of Time = 4294967295
most_of Amount = 65535
most_of Node = 255
most_of Place = 255
most_of Left = 4294967295
most_of Tear = 255
most_of Fill = 255
