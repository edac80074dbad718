-- What the law speaks of at one moment, without answers, power and queue: for each stop the two rows and what has
-- happened there, the watermarks, and the link. And what holds of it throughout. Assumes nothing.
use Rattle.std.proofs.Common.{◌≡◌, ℕ, ◌<◌, ◌≤◌, max, ◌⊎◌, List, [], ◌∷◌, ◌++◌, map}
use Rattle.model.specs.Computation.{Computation, StateBytes, Upto}
use Rattle.model.specs.Limits.{last_time, most_amount, stops}
use Rattle.model.specs.Row.{Row}
use Rattle.model.specs.declared.record.Message.{Message}
use Rattle.model.specs.declared.record.Message.TheVariants.{Produced, Acknowledged}
use Rattle.model.specs.declared.record.Name.{Name}
use Rattle.model.specs.declared.record.Production.{Production}
use Rattle.model.specs.declared.record.Record.{Record}
use Rattle.law.specs.Lists.{Mem, Apart}
use Rattle.law.specs.Pair.{as_record}
use Rattle.law.specs.Rows.{floor_of}

-- a stop: its rows at the collector and at the spotter, and what has happened
pub record Lane : Type 0 where
  pub crow : Row
  pub srow : Row
  pub took : List Record
  pub made : List Production
  pub landed : List Production

pub record World : Type 0 where
  pub lane : ℕ → Lane
  pub cw : ℕ
  pub sw : ℕ
  pub link : List Message

abbrev pub name_of : Record → Name
name_of r = r.name

abbrev pub serial_of : Production → ℕ
serial_of p = p.serial

-- the name of a stop's production at the spotter
abbrev pub name_at : ℕ → Production → Name
name_at s p = (as_record s p).name

-- every name is late, or still in the row
abbrev pub Remembers : Computation (List ℕ) → ℕ → Row → List Name → Type 0
Remembers c w row names = (n : Name) → Mem n names → (n.time < floor_of c w row.state) ⊎ Mem n row.names

-- times do not fall
abbrev pub Rising : List Production → Type 0
Rising [] = Unit {0}
Rising (p ∷ ps) = ((q : Production) → Mem q ps → p.time ≤ q.time) × Rising ps

-- pending is what waits, or that with one landed production in front
abbrev pub Front : List Production → List Production → List Production → Type 0
Front pending waits landed = (pending ≡ waits) ⊎ ((p : Production) × (pending ≡ p ∷ waits) × Mem p landed)

-- a production that the spotter finds in range
pub record Ranged (p : Production) : Type 0 where
  pub time : p.time ≤ last_time
  pub some : 0 < p.amount
  pub few : p.amount ≤ most_amount

-- what was made is what landed, then what waits; serials are apart and below the next one
pub record Line (made landed waits pending : List Production) (next : ℕ) : Type 0 where
  pub order : made ≡ landed ++ waits
  pub front : Front pending waits landed
  pub serials : Apart (map serial_of made)
  pub below : (p : Production) → Mem p made → p.serial < next
  pub ranged : (p : Production) → Mem p made → Ranged p

-- no name was taken twice, and each is late or still in the row
pub record Names (c : Computation (List ℕ)) (w : ℕ) (row : Row) (names : List Name) : Type 0 where
  pub once : Apart names
  pub remembered : Remembers c w row names

-- the spotter's names are those of landed productions, each late or still in the row
pub record Spotted (d : Computation (List ℕ)) (w : ℕ) (row : Row) (names : List Name) : Type 0 where
  pub remembered : Remembers d w row names
  pub landed : (n : Name) → Mem n row.names → Mem n names

-- waiting productions come in the order of their times, which lie between the marks of the two nodes
pub record Times (sw cmark smark : ℕ) (waits : List Production) : Type 0 where
  pub rise : Rising waits
  pub marked : (p : Production) → Mem p waits → p.time ≤ cmark
  pub passed : (p : Production) → Mem p waits → sw ≤ p.time
  pub spotted : (p : Production) → Mem p waits → smark ≤ p.time
  pub bound : smark ≤ max cmark sw
  pub last : cmark ≤ last_time

-- a production in the link has landed or is the oldest pending; an acknowledged serial has landed
abbrev pub Backed : (ℕ → Lane) → Message → Type 0
Backed lane (Produced s p) = Mem p (lane s).landed ⊎ ((rest : List Production) × ((lane s).crow.pending ≡ p ∷ rest))
Backed lane (Acknowledged s n) = Mem n (map serial_of (lane s).landed)

module _ (c d : Computation (List ℕ)) where
  pub record Good (s cw sw : ℕ) (L : Lane) : Type 0 where
    pub waits : List Production
    pub cbytes : StateBytes L.crow.state
    pub sbytes : StateBytes L.srow.state
    pub line : Line L.made L.landed waits L.crow.pending L.crow.next
    pub names : Names c cw L.crow (map name_of L.took)
    pub spotted : Spotted d sw L.srow (map (name_at s) L.landed)
    pub times : Times sw (c.mark L.crow.state) (d.mark L.srow.state) waits
    pub due : Upto sw (c.due L.crow.state)

  pub record Sound (W : World) : Type 0 where
    pub lanes : (s : ℕ) → s < stops → Good s W.cw W.sw (W.lane s)
    pub order : W.sw ≤ W.cw
    pub last : W.cw ≤ last_time
    pub link : (m : Message) → Mem m W.link → Backed W.lane m
    -- nothing ever happens at a stop that does not exist
    pub beyond : (s : ℕ) → stops ≤ s → ((W.lane s).crow.pending ≡ []) × ((W.lane s).landed ≡ [])
