-- The text that is left to be read. Assumes nothing.
use Rattle.std.specs.Prelude.{ℕ, List}
use Rattle.parser.specs.declared.taking.Words.{Words}

abbrev pub left : Words → List ℕ
left w = w.rest.now
