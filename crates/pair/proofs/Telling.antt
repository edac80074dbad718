-- What a pair shows after one of its nodes has answered. Assumes nothing.
use Rattle.std.proofs.Common.{◌≡◌, ℕ, true, cond, eqb, List, ◌++◌, IsOkAnd, MatchResult, Some, Ok, Err, Option, Result, sym, refl, ap, ◌∙◌, subst, arith}
use Rattle.std.specs.List.{remove, slice_get}
use Rattle.model.specs.declared.answer.Answer.{Answer}
use Rattle.model.specs.declared.answer.Outcome.{Outcome}
use Rattle.model.specs.declared.answer.Outcome.TheVariants.{Plain}
use Rattle.model.specs.declared.record.Message.{Message}
use Rattle.stores.specs.declared.store.Store.{Ghosts as Stores}
use Rattle.names.specs.declared.set.NameSet.{Ghosts as Sets}
use Rattle.computations.specs.declared.computation.Computation.{Ghosts as Computations}
use Rattle.model.specs.declared.call.Call.TheVariants.{Deliver}
use Rattle.model.specs.declared.record.Message.TheVariants.{Produced, Acknowledged}
use Rattle.model.specs.declared.record.Production.{Production}
use Rattle.model.specs.declared.record.Record.{Record}
use Rattle.law.specs.Node.{Node as LawNode, Kit, Free, hand_in}
use Rattle.law.specs.Pair.{Pair as LawPair, at_collector, at_spotter, arrives, as_record, reply, deliver, happens}
use Rattle.link.specs.declared.Link.{Link}
use Rattle.link.specs.Carried.{carried}
use Rattle.node.specs.Promises.{Told as NodeTold}
use Rattle.node.specs.Shows.{kit_of, free_of as node_free, Shows as NodeShows}
use Rattle.node.specs.declared.node.Damaged.{Damaged}
use Rattle.node.specs.declared.node.Node.{Node}
use Rattle.pair.proofs.Linking.{deliver_production}
use Rattle.pair.specs.Promises.{Told, receiver, free_of}
use Rattle.pair.specs.Shows.{kits_of, collector_free, spotter_free, Shows}
use Rattle.pair.specs.declared.pair.Pair.{Pair}

-- a result that is there, and one that is not
pub ok_is : {X : Type 0} (m n : X) → ◌≡◌ {A = Result X Damaged} (Ok m) (Ok n) → m ≡ n
ok_is m n e = cc

pub err_none : {X : Type 0} (d : Damaged) (x : X) → ◌≡◌ {A = Result X Damaged} (Err d) (Ok x) → ⊥
err_none d x e = let z : ◌≡◌ {A = ℕ} 0 1 = cc in omega arith

-- what `map(Outcome::Plain)` makes of an answer
abbrev pub Mapped : Result Answer Damaged → Result Outcome Damaged → Type 0
Mapped a r = MatchResult a (λ x. IsOkAnd r (λ o. o ≡ Plain x)) (λ e. r ≡ Err e)

mapped_ok : {a : Result Answer Damaged} {r : Result Outcome Damaged} {x : Answer} → Mapped a r → a ≡ Ok x → r ≡ Ok (Plain x)
mapped_ok {a} {r} {x} m e = is_ok r (subst (λ b. Mapped b r) e m)
  where
    is_ok : (q : Result Outcome Damaged) → IsOkAnd q (λ o. o ≡ Plain x) → q ≡ Ok (Plain x)
    is_ok (Ok o) f = ap (λ p. Ok p) f
    is_ok (Err d) f = elim f [ ]

-- a call that comes to the same
pub told_as : {Shown : LawPair → Type 0} {r : Result Outcome Damaged} {x y : Outcome × LawPair} → x ≡ y → Told Shown r y → Told Shown r x
told_as {Shown} {r} e t = subst (λ (z : Outcome × LawPair). Told Shown r z) (sym e) t

-- the record that was handed in, in other words
pub told_given
    : (kit : Kit) (free : Free) (n : LawNode) {Shown : LawNode → Type 0} {r : Result Answer Damaged} {a b : Record}
    → a ≡ b → NodeTold Shown (λ x. Ok x) r (hand_in kit free a n) → NodeTold Shown (λ x. Ok x) r (hand_in kit free b n)
told_given kit free n {Shown} {r} e t = subst (λ (x : Record). NodeTold Shown (λ y. Ok y) r (hand_in kit free x n)) e t

module _ {S N C X T O D Y : Type 0} (store : Stores S) (set : Sets N) (computation : Computations C X) (store' : Stores T) (set' : Sets O) (computation' : Computations D Y) where
  -- nothing has changed
  pub told_same : {v : Pair S N C T O D} {p : LawPair} {o : Outcome} → Shows store set computation store' set' computation' v p → Told (Shows store set computation store' set' computation' v) (Ok o) (o, p)
  told_same s = record { outcome = refl; shows = s }

  -- the collector has answered, and the link may have changed
  pub told_collector
      : (n : Node S N C) (m : Node T O D) (l : Link) (p : LawPair) {x : Answer × LawNode} {a : Result Answer Damaged} {r : Result Outcome Damaged}
      → Mapped a r
      → NodeTold (NodeShows store set computation n) (λ b. Ok b) a x
      → NodeShows store' set' computation' m p.spotter
      → carried l ≡ p.link
      → Told (Shows store set computation store' set' computation' (record { collector = n; spotter = m; link = l })) r (at_collector x p)
  told_collector n m l p e t spotter link = record {
    outcome = mapped_ok e t.answer;
    shows = record { collector = t.shows; spotter = spotter; link = link };
  }

  -- the spotter has answered
  pub told_spotter
      : (n : Node S N C) (m : Node T O D) (l : Link) (p : LawPair) {x : Answer × LawNode} {a : Result Answer Damaged} {r : Result Outcome Damaged}
      → Mapped a r
      → NodeTold (NodeShows store' set' computation' m) (λ b. Ok b) a x
      → NodeShows store set computation n p.collector
      → carried l ≡ p.link
      → Told (Shows store set computation store' set' computation' (record { collector = n; spotter = m; link = l })) r (at_spotter x p)
  told_spotter n m l p e t collector link = record {
    outcome = mapped_ok e t.answer;
    shows = record { collector = collector; spotter = t.shows; link = link };
  }

  -- a production has arrived, and the link carries the rest of its messages and perhaps word of it
  pub told_arrival
      : (n : Node S N C) (m : Node T O D) (l : Link) (p : LawPair) (s serial : ℕ) (rest : List Message) {x : Answer × LawNode} {a : Answer}
      → NodeTold {R = Result Answer Damaged} (NodeShows store' set' computation' m) (λ b. Ok b) (Ok a) x
      → NodeShows store set computation n p.collector
      → carried l ≡ rest ++ reply s serial a
      → Told (Shows store set computation store' set' computation' (record { collector = n; spotter = m; link = l })) (Ok (Plain a)) (arrives s serial rest x p)
  told_arrival n m l p s serial rest {x} {a} t collector link =
      let same_ok = t.answer in
      let same : a ≡ x.0 = cc in
      record {
        outcome = ap (λ (b : Answer). Ok (Plain b)) same;
        shows = record { collector = collector; spotter = t.shows; link = link ∙ ap (λ (b : Answer). rest ++ reply s serial b) same };
      }

  -- what is left free in a delivery is the receiver's
  module _ (v v' : Pair S N C T O D) (place : ℕ) where
    by_receiver : (o : Option Message) → slice_get (carried v.link) place ≡ o → free_of store set computation store' set' computation' v v' (Deliver place) ≡ cond (eqb (receiver o) 0) (collector_free store set computation store' set' computation' 0 v v') (spotter_free store set computation store' set' computation' 0 v v')
    by_receiver o e = ap (λ (x : Option Message). cond (eqb (receiver x) 0) (collector_free store set computation store' set' computation' 0 v v') (spotter_free store set computation store' set' computation' 0 v v')) e

    pub free_production : (s : ℕ) (x : Production) → slice_get (carried v.link) place ≡ Some (Produced s x) → free_of store set computation store' set' computation' v v' (Deliver place) ≡ spotter_free store set computation store' set' computation' 0 v v'
    free_production s x e = by_receiver (Some (Produced s x)) e

    pub free_word : (s n : ℕ) → slice_get (carried v.link) place ≡ Some (Acknowledged s n) → free_of store set computation store' set' computation' v v' (Deliver place) ≡ collector_free store set computation store' set' computation' 0 v v'
    free_word s n e = by_receiver (Some (Acknowledged s n)) e

  -- the production at a place has arrived at a spotter that is on
  pub told_landing
      : (v : Pair S N C T O D) (m : Node T O D) (l : Link) (place s : ℕ) (x : Production) (p : LawPair) {a : Answer} {r : Record}
      → slice_get (carried v.link) place ≡ Some (Produced s x) → Shows store set computation store' set' computation' v p → p.spotter.power.on ≡ true
      → r ≡ as_record s x
      → NodeTold {R = Result Answer Damaged} (NodeShows store' set' computation' m) (λ b. Ok b) (Ok a) (hand_in (kit_of store' set' computation') (node_free store' set' computation' 0 v.spotter m) r p.spotter)
      → carried l ≡ remove p.link place ++ reply s x.serial a
      → Told (Shows store set computation store' set' computation' (record { collector = v.collector; spotter = m; link = l })) (Ok (Plain a))
      (happens (kits_of store set computation store' set' computation') (free_of store set computation store' set' computation' v (record { collector = v.collector; spotter = m; link = l }) (Deliver place)) (Deliver place) p)
  told_landing v m l place s x p stood shows on given t link =
      let v' : Pair S N C T O D = record { collector = v.collector; spotter = m; link = l } in
      let kits = kits_of store set computation store' set' computation' in
      let free = spotter_free store set computation store' set' computation' 0 v v' in
      let here = ap (λ (ms : List Message). slice_get ms place) (sym shows.link) ∙ stood in
      told_as (ap (λ (f : Free). deliver kits f place p) (free_production v v' place s x stood) ∙ deliver_production kits free place p s x here on)
      (told_arrival v.collector m l p s x.serial (remove p.link place) (told_given kits.spotter free p.spotter given t) shows.collector link)
