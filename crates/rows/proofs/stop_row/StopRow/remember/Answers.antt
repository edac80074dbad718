use Rattle.std.proofs.Common.{arith}
use Rattle.std.proofs.lemmas.List.{length-take}
use Rattle.bounded.specs.Lists.{listed}
use Rattle.rows.specs.Meaning.{row_of}
use Rattle.rows.proofs.Remembering.{remembered}
use Rattle.rows.proofs.stop_row.StopRow.remember.Goals as goal

pub returns-clause-after : goal.returns-clause-after
returns-clause-after c =
    let names = c.args.self.now.names in
    remembered c.args.floor c.args.name (row_of c.args.self.now) (row_of c.forget.new.self) (listed c.push.new.self)
    c.forget.ensures (omega (arith, names.within, length-take names.count names.items)) c.push.ensures.items
