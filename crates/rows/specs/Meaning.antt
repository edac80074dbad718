-- The row that a typed row stands for. Assumes nothing.
use Rattle.model.specs.Row.{Row}
use Rattle.bounded.specs.Lists.{listed}
use Rattle.rows.specs.declared.stop_row.StopRow.{StopRow}

abbrev pub row_of : StopRow → Row
row_of r = record { next = r.next; state = r.state; pending = listed r.pending; names = listed r.names }
