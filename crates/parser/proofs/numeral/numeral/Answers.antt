use Rattle.std.proofs.Common.{◌+◌, ◌-◌, ◌*◌, ◌≤◌, get_or, drop, sym, ap, ◌∙◌, arith}
use Rattle.std.proofs.lemmas.List.{at_drop_all}
use Rattle.parser.specs.Numerals.{number_from}
use Rattle.parser.proofs.Digits.{no_digit, too_large, reads_on}
use Rattle.parser.proofs.numeral.numeral.Goals as goal

pub returns-then-not-is_ascii_digit : goal.returns-then-not-is_ascii_digit
returns-then-not-is_ascii_digit c = record {
  value =
      sym (c.loop-byte.invariant.1 ∙ no_digit c.args.most c.loop-byte.number c.args.word.now c.loop-byte.byte-index c.loop-byte-test.true
      (sym c.if-not-is_ascii_digit.ensures.value));
  within = tt;
}

pub returns-then-number-from : goal.returns-then-number-from
returns-then-number-from c = record {
  value =
      sym (c.loop-byte.invariant.1 ∙ too_large c.args.most c.loop-byte.number c.args.word.now c.loop-byte.byte-index c.loop-byte-test.true
      (sym c.if-not-is_ascii_digit.ensures.value) (omega arith));
  within = tt;
}

pub loop-byte-preserved : goal.loop-byte-preserved
loop-byte-preserved c =
    let n = c.loop-byte.number in
    let i = c.loop-byte.byte-index in
    let word = c.args.word.now in
    let fits : n * 10 + (get_or word i 0 - 48) ≤ c.args.most = omega arith in (
      omega arith,
      c.loop-byte.invariant.1 ∙ reads_on c.args.most n word i c.loop-byte-test.true (sym c.if-not-is_ascii_digit.ensures.value) fits
          ∙ ap (λ d. number_from c.args.most (n * 10 + d) (drop (i + 1) word)) (sym c.from.ensures),
    )

pub returns : goal.returns
returns c = record {
  value =
      sym (c.loop-byte.invariant.1 ∙ at_drop_all (number_from c.args.most c.loop-byte.number) c.args.word.now c.loop-byte.byte-index c.loop-byte-test.false);
  within = c.loop-byte.invariant.0;
}
