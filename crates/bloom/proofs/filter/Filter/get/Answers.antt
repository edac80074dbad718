use Rattle.std.proofs.Common.{◌≡◌, ◌/◌, ◌%◌, ◌<◌, length, vec_items, ap, arith}
use Rattle.std.proofs.lemmas.List.{get_or_read_under}
use Rattle.bloom.specs.Bits.{word_bit, bit_in}
use Rattle.bloom.proofs.filter.Filter.get.Goals as goal

pub returns : goal.returns
unfolding bit_in
returns c =
    let words = vec_items c.args.self.now.words in
    let size : 256 ≡ length words = omega (arith, c.args.self.now.long, c.args.self.now.words.ok.0) in
    let within : c.args.bit / 64 < 256 = omega (arith, c.requires) in
    ap (λ w. word_bit w (c.args.bit % 64)) (get_or_read_under words (c.args.bit / 64) 256 _ 0 c.index.ensures within size)
