-- Names of records, and lists of them. Assumes nothing.
use Rattle.std.specs.Prelude.{ℕ, Bool, false, ◌&&◌, ◌||◌, List, [], ◌∷◌, filter, ◌==◌, nat_le}
use Rattle.model.specs.declared.record.Name.{Name}

-- equal names have the same sender, the same serial and the same time
abbrev pub same_name : Name → Name → Bool
same_name a b = a.serial == b.serial && (a.time == b.time && a.sender == b.sender)

-- the name is in the list
abbrev pub named : List Name → Name → Bool
named [] n = false
named (k ∷ ks) n = same_name k n || named ks n

-- the names whose times are not below a floor, in their order
abbrev pub kept : ℕ → List Name → List Name
kept floor names = filter (λ n. nat_le floor n.time) names
