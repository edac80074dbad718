-- What is said of a word that should have stood in a line. Assumes nothing.
use Rattle.std.specs.Prelude.{ℕ, List, ◌++◌, codes, decimal}
use Rattle.parser.specs.Fields.{field_name, most_of}
use Rattle.parser.specs.declared.words.Wanted.{Wanted}
use Rattle.parser.specs.declared.words.Wanted.TheVariants.{Call, Name, Number, End}

abbrev pub wanted_words : Wanted → List ℕ
wanted_words Call = codes "the name of a call"
wanted_words (Name f) = field_name f
wanted_words (Number f) = codes "a number up to " ++ (decimal (most_of f) ++ (codes " (" ++ (field_name f ++ codes ")")))
wanted_words End = codes "the end of the line"
