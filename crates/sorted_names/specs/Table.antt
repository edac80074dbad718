-- What the sorted table means: the names that it lists. Assumes nothing.
use Rattle.std.specs.Prelude.{vec_items, vec_len}
use Rattle.names.specs.Held.{Meaning, listed}
use Rattle.sorted_names.specs.declared.table.SortedNames.{SortedNames}

abbrev pub sorted_meaning : SortedNames → Meaning
sorted_meaning t = record { holds = listed (vec_items t.items); size = vec_len t.items }
