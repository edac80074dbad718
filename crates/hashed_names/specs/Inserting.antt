-- What it means to put a name into places where it may already be. Assumes nothing.
use Rattle.std.specs.Prelude.{◌≡◌, ◌+◌, ◌<◌, Bool, cond, List, length, Option}
use Rattle.names.specs.declared.taken.Taken.{Taken}
use Rattle.names.specs.Held.{Apart, listed}
use Rattle.names.specs.Changes.{with_name}
use Rattle.hashed_names.specs.Probing.{place_count, stored, Chained}

pub record Inserted (xs : List (Option Taken)) (p : Taken) (r : Bool) (ys : List (Option Taken)) : Type 0 where
  pub chained : Chained xs → Chained ys
  pub apart : Chained xs → Apart (stored xs) → Apart (stored ys)
  pub counted : length (stored ys) ≡ cond r (length (stored xs) + 1) (length (stored xs))
  -- it is in then, unless no place was free
  pub held : Chained xs → length (stored xs) < place_count → listed (stored ys) ≡ with_name (listed (stored xs)) p.stop p.name
