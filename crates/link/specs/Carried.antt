-- The messages that a link carries, oldest first. Assumes nothing.
use Rattle.std.specs.Prelude.{List}
use Rattle.model.specs.declared.record.Message.{Message}
use Rattle.bounded.specs.Lists.{listed}
use Rattle.link.specs.declared.Link.{Link}

abbrev pub carried : Link → List Message
carried l = listed l.messages
