use Rattle.std.proofs.Common.{◌≡◌, ◌≤◌, drop}
use Rattle.parser.specs.Numerals.{number_from, number_of}
use Rattle.parser.proofs.numeral.numeral.Given as goal

abbrev pub invariant-loop-byte : goal.invariant-loop-byte
invariant-loop-byte l = (l.number ≤ l.most) × (number_of l.most l.word ≡ number_from l.most l.number (drop l.byte-index l.word))
