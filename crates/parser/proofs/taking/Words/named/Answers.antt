use Rattle.std.proofs.Common.{rules, ◌∙◌}
use Rattle.parser.specs.Left.{left}
use Rattle.parser.proofs.Taken.{name_other, name_same}
use Rattle.parser.proofs.taking.Words.named.Goals as goal

pub returns-then-ne-clause-takes : goal.returns-then-ne-clause-takes
returns-then-ne-clause-takes c =
    name_other c.args.field (left c.args.self.now) c.word-word.result.now c.word-word.ensures.word
    c.as_bytes.result.now (c.as_bytes.ensures.value ∙ c.name.ensures) (search rules)

pub returns-clause-takes : goal.returns-clause-takes
returns-clause-takes c =
    name_same c.args.field (left c.args.self.now) c.word-word.result.now c.word-word.ensures.word
    c.as_bytes.result.now (c.as_bytes.ensures.value ∙ c.name.ensures) (search rules)
    _ _ c.word-word.ensures.rest c.value.ensures.takes
