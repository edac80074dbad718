-- The steps by which a stop's row changes. Assumes nothing.
use Rattle.std.specs.Prelude.{ℕ, ◌+◌, List, [], ◌∷◌, ◌++◌, length}
use Rattle.model.specs.Names.{kept}
use Rattle.model.specs.Row.{Row}
use Rattle.model.specs.declared.record.Name.{Name}

-- how many names of a row stay for a floor
abbrev pub staying : ℕ → Row → ℕ
staying floor r = length (kept floor r.names)

-- one more production under the next serial, which is counted up
abbrev pub produced : ℕ → ℕ → Row → Row
produced time amount r = record {
  next = r.next + 1;
  state = r.state;
  pending = r.pending ++ record { serial = r.next; time = time; amount = amount } ∷ [];
  names = r.names;
}

-- the names below a floor dropped
abbrev pub forgetting : ℕ → Row → Row
forgetting floor r = record { next = r.next; state = r.state; pending = r.pending; names = kept floor r.names }

-- the names below a floor dropped, and one more at the end
abbrev pub remembering : ℕ → Name → Row → Row
remembering floor n r = record { next = r.next; state = r.state; pending = r.pending; names = kept floor r.names ++ n ∷ [] }

-- another state
abbrev pub with_state : List ℕ → Row → Row
with_state state r = record { next = r.next; state = state; pending = r.pending; names = r.names }
