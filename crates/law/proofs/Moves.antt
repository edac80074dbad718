-- The moves: what can happen to a world. Each changes at most one stop. Assumes nothing.
use Rattle.std.proofs.Common.{◌≡◌, ℕ, ◌<◌, ◌≤◌, ◌⊎◌, List, [], ◌∷◌, ◌++◌, Some}
use Rattle.model.specs.Computation.{Computation, Upto}
use Rattle.model.specs.Limits.{last_time, most_amount, stops}
use Rattle.model.specs.Row.{Row}
use Rattle.model.specs.declared.answer.Verdict.TheVariants.{Fine}
use Rattle.model.specs.declared.record.Message.{Message}
use Rattle.model.specs.declared.record.Message.TheVariants.{Produced, Acknowledged}
use Rattle.model.specs.declared.record.Name.{Name}
use Rattle.model.specs.declared.record.Production.{Production}
use Rattle.model.specs.declared.record.Record.{Record}
use Rattle.law.specs.Lists.{Mem}
use Rattle.law.specs.Pair.{as_record}
use Rattle.model.specs.Row.{cleared_row}
use Rattle.law.specs.Rows.{floor_of, take_of, taken_row, fired_row, produced}
use Rattle.law.proofs.World.{Lane, World}

-- a record is let in: in range, not late, not seen, and the computation says neither early nor over
pub record Lets (c : Computation (List ℕ)) (w : ℕ) (r : Record) (row : Row) : Type 0 where
  pub time : r.name.time ≤ last_time
  pub some : 0 < r.amount
  pub few : r.amount ≤ most_amount
  pub floor : floor_of c w row.state ≤ r.name.time
  pub fresh : Mem r.name row.names → ⊥
  pub fine : c.verdict row.state w r.name.time r.amount ≡ Fine

-- a message comes onto the link: a copy of a stop's oldest pending production, or word of a production that the
-- spotter knows by name
abbrev pub News : (ℕ → Lane) → Message → Type 0
News lane (Produced s p) = (rest : List Production) × ((lane s).crow.pending ≡ p ∷ rest)
News lane (Acknowledged s n) = (s < stops) × ((x : Name) × Mem x (lane s).srow.names × (x.serial ≡ n))

-- every message was there, or is news
abbrev pub Linked : World → World → Type 0
Linked W W' = (m : Message) → Mem m W'.link → Mem m W.link ⊎ News W'.lane m

abbrev pub Same : World → World → Type 0
Same W W' = (s : ℕ) → W'.lane s ≡ W.lane s

module _ (c d : Computation (List ℕ)) where
  -- what can happen at a stop
  pub data Step (s cw sw : ℕ) (link : List Message) (L : Lane) : Lane → Type 0 where
    takes : (r : Record) → Lets c cw r L.crow →
        Step s cw sw link L (record {
          crow = taken_row c cw r L.crow;
          srow = L.srow;
          took = L.took ++ (r ∷ []);
          made = L.made ++ produced (take_of c cw r L.crow).1 L.crow.next;
          landed = L.landed;
        })
    fires : (t : ℕ) → c.due L.crow.state ≡ Some t → t ≤ cw →
        Step s cw sw link L (record {
          crow = fired_row c cw L.crow;
          srow = L.srow;
          took = L.took;
          made = L.made ++ produced (c.fire L.crow.state).1 L.crow.next;
          landed = L.landed;
        })
    lands : (p : Production) → Mem (Produced s p) link → Lets d sw (as_record s p) L.srow →
        Step s cw sw link L (record {
          crow = L.crow;
          srow = taken_row d sw (as_record s p) L.srow;
          took = L.took;
          made = L.made;
          landed = L.landed ++ (p ∷ []);
        })
    clears : (p : Production) (rest : List Production) → L.crow.pending ≡ p ∷ rest → Mem (Acknowledged s p.serial) link →
        Step s cw sw link L (record {
          crow = cleared_row L.crow;
          srow = L.srow;
          took = L.took;
          made = L.made;
          landed = L.landed;
        })
    spot_fires : (t : ℕ) → d.due L.srow.state ≡ Some t → t ≤ sw →
        Step s cw sw link L (record {
          crow = L.crow;
          srow = fired_row d sw L.srow;
          took = L.took;
          made = L.made;
          landed = L.landed;
        })
    spot_clears :
        Step s cw sw link L (record {
          crow = L.crow;
          srow = cleared_row L.srow;
          took = L.took;
          made = L.made;
          landed = L.landed;
        })

  -- a number is at most the collector's watermark, all its pending times and all its dues
  pub record Below (b : ℕ) (W : World) : Type 0 where
    pub watermark : b ≤ W.cw
    pub pending : (s : ℕ) → s < stops → (p : Production) → Mem p (W.lane s).crow.pending → b ≤ p.time
    pub dues : (s : ℕ) → s < stops → Upto b (c.due (W.lane s).crow.state)

  pub data Move (W W' : World) : Type 0 where
    still : Same W W' → W'.cw ≡ W.cw → W'.sw ≡ W.sw → Linked W W' → Move W W'
    stop : (s : ℕ) → s < stops → Step s W.cw W.sw W.link (W.lane s) (W'.lane s) →
        ((q : ℕ) → (q ≡ s → ⊥) → W'.lane q ≡ W.lane q) → W'.cw ≡ W.cw → W'.sw ≡ W.sw → Linked W W' → Move W W'
    advances : Same W W' → W.cw ≤ W'.cw → W'.cw ≤ last_time → W'.sw ≡ W.sw → Linked W W' → Move W W'
    passes : Same W W' → W'.cw ≡ W.cw → W.sw ≤ W'.sw → Below W'.sw W → Linked W W' → Move W W'
