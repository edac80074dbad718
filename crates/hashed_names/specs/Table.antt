-- What the hash table means: the names that are stored in its places. Assumes nothing.
use Rattle.names.specs.Held.{Meaning, listed}
use Rattle.hashed_names.specs.Probing.{stored}
use Rattle.hashed_names.specs.Places.{slots_of}
use Rattle.hashed_names.specs.declared.table.HashedNames.{HashedNames}

abbrev pub hashed_meaning : HashedNames → Meaning
hashed_meaning t = record { holds = listed (stored (slots_of t.places)); size = t.count }
