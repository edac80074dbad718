-- The script of a text: the frames of the calls that its lines say, or the first line that is wrong. Assumes nothing.
use Rattle.std.specs.Prelude.{ℕ, zero, suc, ◌+◌, Bool, cond, not, List, [], ◌++◌, length, take, drop, Some, None, Ok, Err, Option, Result, ◌==◌}
use Rattle.std.specs.Option.{unwrap_or}
use Rattle.std.specs.List.{prefix_len}
use Rattle.model.specs.declared.call.Call.{Call}
use Rattle.frames.specs.Calls.{frame_of}
use Rattle.parser.specs.declared.words.Wanted.{Wanted}
use Rattle.parser.specs.Parsed.{parsed}

-- a line ends before a newline, 10, or with the text
abbrev pub in_line : ℕ → Bool
in_line b = not (b == 10)

abbrev pub line_in : List ℕ → List ℕ
line_in text = take (prefix_len in_line text) text

abbrev pub lines_after : List ℕ → List ℕ
lines_after text = drop 1 (drop (prefix_len in_line text) text)

-- the bytes of a script, or the number of a line, the word at fault and what was wanted
abbrev pub Assembled : Type 0
Assembled = Result (List ℕ) (ℕ × List ℕ × Wanted)

abbrev pub after : List ℕ → Assembled → Assembled
after bytes (Ok script) = Ok (bytes ++ script)
after bytes (Err e) = Err e

-- the bytes that a call adds
abbrev pub bytes_of : Call → List ℕ
bytes_of c = unwrap_or (frame_of c) []

-- what a line says, and then the rest
abbrev pub with_line : Result (Option Call) (List ℕ × Wanted) → ℕ → Assembled → Assembled
with_line (Err e) number rest = Err (number, e.0, e.1)
with_line (Ok None) number rest = rest
with_line (Ok (Some c)) number rest = after (bytes_of c) rest

-- at most so many lines, numbered from a number on
unfoldable pub assembled_from : ℕ → List ℕ → ℕ → Assembled
assembled_from zero text number = Ok []
assembled_from (suc more) text number =
    cond (length text == 0) (Ok []) (with_line (parsed (line_in text)) number (assembled_from more (lines_after text) (number + 1)))

-- a text has no more lines than bytes
abbrev pub assembled : List ℕ → Assembled
assembled text = assembled_from (length text) text 1
