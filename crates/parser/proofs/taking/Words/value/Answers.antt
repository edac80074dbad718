use Rattle.parser.specs.Left.{left}
use Rattle.parser.proofs.Taken.{value_read}
use Rattle.parser.proofs.taking.Words.value.Goals as goal

pub returns-clause-takes : goal.returns-clause-takes
returns-clause-takes c =
    value_read c.args.field (left c.args.self.now) c.word-word.result _ _ _ _ c.word-word.ensures.word c.word-word.ensures.rest c.most.ensures
    c.numeral.ensures.value c.ok_or.ensures.value
