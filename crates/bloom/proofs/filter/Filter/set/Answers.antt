use Rattle.std.proofs.Common.{◌≡◌, ◌/◌, ◌%◌, ◌<◌, length, set, vec_items, ap, ◌∙◌, arith}
use lib.Bits.{bit_or}
use Rattle.std.proofs.lemmas.Nat.{one_shl}
use Rattle.std.proofs.lemmas.List.{get_or_read_under}
use Rattle.bloom.specs.Bits.{bit_in}
use Rattle.bloom.proofs.Words.{words_set}
use Rattle.bloom.proofs.filter.Filter.set.Goals as goal

pub returns : goal.returns
returns c =
    let words = vec_items c.args.self.now.words in
    let size : 256 ≡ length words = omega (arith, c.args.self.now.long, c.args.self.now.words.ok.0) in
    let within : c.args.bit / 64 < 256 = omega (arith, c.requires) in
    ap (λ m. bit_in (set words (c.args.bit / 64) (bit_or c.index-word.result.now m))) (one_shl (c.args.bit % 64) 64 (omega arith))
    ∙ words_set words c.args.bit c.index-word.result.now (omega arith)
    (get_or_read_under words (c.args.bit / 64) 256 _ 0 c.index-word.ensures within size)
