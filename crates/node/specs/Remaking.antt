-- What is kept beside the rows, made again from the first of them. Assumes nothing.
use Rattle.std.specs.Prelude.{◌≡◌, ℕ, ◌+◌, ◌*◌, ◌<◌, ◌≤◌, true, ◌&&◌, List, [], IsOk, Ok, Result, nat_lt}
use Rattle.model.specs.Computation.{Computation}
use Rattle.model.specs.Limits.{stops, most_names}
use Rattle.model.specs.OnBytes.{on_bytes}
use Rattle.model.specs.declared.answer.Answer.{Answer}
use Rattle.model.specs.declared.record.Name.{Name}
use Rattle.stores.specs.declared.store.Store.{Ghosts as Stores}
use Rattle.names.specs.Changes.{nothing}
use Rattle.names.specs.declared.set.NameSet.{Ghosts as Sets}
use Rattle.computations.specs.declared.computation.Computation.{Ghosts as Computations}
use Rattle.law.specs.Node.{Node as LawNode, Free}
use Rattle.law.specs.Rows.{seen}
use Rattle.model.specs.Row.{oldest}
use Rattle.law.specs.Stops.{pending_below, pending_stops}
use Rattle.ledger.specs.Kept.{Kept}
use Rattle.queue.specs.Lines.{lined}
use Rattle.node.specs.Promises.{Told}
use Rattle.node.specs.Shows.{Beside, beside_of, free_of, Shows}
use Rattle.node.specs.declared.node.Node.{Node}
use Rattle.node.specs.declared.node.Damaged.{Damaged}

-- what stands beside the rows follows those of the stops below i, and there is nothing else
pub record FollowsBelow (c : Computation (List ℕ)) (i : ℕ) (b : Beside) (n : LawNode) : Type 0 where
  pub names : (s : ℕ) (k : Name) → b.names.holds s k ≡ (nat_lt s i && seen k (n.row s).names)
  pub few_names : b.names.size ≤ most_names * i
  pub due : (s : ℕ) → s < i → b.due s ≡ c.due (n.row s).state
  pub shown : (s : ℕ) → s < i → b.shown s ≡ oldest (n.row s).pending
  pub queue_is : b.queue ≡ pending_below n.row i
  pub watermark : b.w ≡ n.w

module _ {S N C T : Type 0} (store : Stores S) (set : Sets N) (computation : Computations C T) where
  -- the store keeps a node that is on, and the rest follows the stops below i
  pub record ShowsBelow (i : ℕ) (v : Node S N C) (n : LawNode) : Type 0 where
    pub kept : Kept (store.model v.store) n
    pub on : n.power.on ≡ true
    pub follows : FollowsBelow (on_bytes computation.operations) i (beside_of store set computation v) n

  -- the store stays, and nothing is kept beside its rows
  pub record Emptied (v v' : Node S N C) : Type 0 where
    pub store_is : v'.store ≡ v.store
    pub names : set.meaning v'.names ≡ nothing
    pub queue : lined v'.queue ≡ []

  -- a step that makes it follow the stops below j as well; the store means the same after it
  pub record Grows (v v' : Node S N C) (i j : ℕ) (r : Result Unit Damaged) : Type 0 where
    pub all : (n : LawNode) → ShowsBelow i v n → IsOk r
    pub shows : (n : LawNode) → ShowsBelow i v n → ShowsBelow j v' n
    pub means : store.model v'.store ≡ store.model v.store

  abbrev pub RemakesStop : Node S N C → Node S N C → ℕ → Result Unit Damaged → Type 0
  RemakesStop v v' s r = s < stops → Grows v v' s (s + 1) r

  abbrev pub RemakesStops : Node S N C → Node S N C → Result Unit Damaged → Type 0
  RemakesStops v v' r = Grows v v' 0 stops r

  -- a node that is on and whose queue is made anew is shown
  pub record Remade (v v' : Node S N C) (n : LawNode) (r : Result Unit Damaged) : Type 0 where
    pub all : IsOk r
    pub shows : Shows store set computation v' n
    pub means : store.model v'.store ≡ store.model v.store

  abbrev pub Remakes : Node S N C → Node S N C → Result Unit Damaged → Type 0
  Remakes v v' r = (n : LawNode) → Kept (store.model v.store) n → n.power.on ≡ true → n.queue ≡ pending_stops n.row → Remade v v' n r

  -- for every node that is shown before a restart, it answers as the law's, and shows the law's node after it
  abbrev pub Wakes : Node S N C → Node S N C → ℕ → Result Answer Damaged → (Free → LawNode → Answer × LawNode) → Type 0
  Wakes v v' left r call = (n : LawNode) → Shows store set computation v n → Told (Shows store set computation v') (λ a. Ok a) r (call (free_of store set computation left v v') n)
