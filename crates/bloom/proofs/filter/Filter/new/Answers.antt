use Rattle.std.proofs.Common.{ap, ◌∙◌}
use Rattle.bloom.specs.Bits.{bit_in}
use Rattle.bloom.proofs.Words.{words_clear}
use Rattle.bloom.proofs.filter.Filter.new.Goals as goal

pub returns : goal.returns
returns c = ap bit_in (c.in_ok-words.ensures.items_if_clones_equal (λ y e. e)) ∙ words_clear 256
