-- What the calls of a node promise. Assumes nothing.
use Rattle.std.specs.Prelude.{◌≡◌, ℕ, ◌<◌, Bool, true, cond, IsOkAnd, Some, None, Ok, Option, Result, nat_le}
use Rattle.model.specs.Limits.{stops}
use Rattle.model.specs.OnBytes.{on_bytes}
use Rattle.model.specs.Row.{Row, oldest}
use Rattle.model.specs.declared.answer.Answer.{Answer}
use Rattle.model.specs.declared.answer.Answer.TheVariants.{Done, OutOfRange, Off}
use Rattle.model.specs.declared.record.Name.{Name}
use Rattle.stores.specs.declared.store.Store.{Ghosts as Stores}
use Rattle.names.specs.declared.set.NameSet.{Ghosts as Sets}
use Rattle.computations.specs.declared.computation.Computation.{Ghosts as Computations}
use Rattle.agenda.specs.Meaning.{due_at, shown_at}
use Rattle.agenda.specs.Slots.{changed}
use Rattle.queue.specs.Lines.{lined}
use Rattle.rows.specs.Meaning.{row_of}
use Rattle.rows.specs.declared.stop_row.StopRow.{StopRow}
use Rattle.law.specs.Node.{Node as LawNode, Kit, Free, commit_row, requeued}
use Rattle.law.specs.Rows.{seen}
use Rattle.upkeep.specs.Lines.{Line}
use Rattle.upkeep.specs.Names.{renamed, Fresh}
use Rattle.node.specs.Shows.{kit_of, free_of, Shows}
use Rattle.node.specs.declared.node.Node.{Node}
use Rattle.node.specs.declared.node.Damaged.{Damaged}

-- what is judged before anything is read: a range, and whether the node is on
abbrev pub judged_first : Bool → Bool → Answer
judged_first ranged on = cond ranged (cond on Done Off) OutOfRange

-- the stop of a due that the watermark has reached
abbrev pub due_by : ℕ → Option (ℕ × ℕ) → Option ℕ
due_by w None = None
due_by w (Some sd) = cond (nat_le sd.1 w) (Some sd.0) None

-- the answer and the node after a call are those of the law
pub record Told {R : Type 0} (Shown : LawNode → Type 0) (wrap : Answer → R) (r : R) (after : Answer × LawNode) : Type 0 where
  pub answer : r ≡ wrap after.0
  pub shows : Shown after.1

-- so it is for every node that is shown and on
abbrev pub WhileOn : {S N C T : Type 0} → Stores S → Sets N → Computations C T → Node S N C → (LawNode → Type 0) → Type 0
WhileOn store set computation v So = (n : LawNode) → Shows store set computation v n → n.power.on ≡ true → So n

module _ {S N C T : Type 0} (store : Stores S) (set : Sets N) (computation : Computations C T) (v v' : Node S N C) where
  -- for every node that is shown before a call, it answers as the law's call, and shows the law's node after it
  abbrev pub Does : Answer → (Kit → Free → LawNode → Answer × LawNode) → Type 0
  Does r call = (n : LawNode) → Shows store set computation v n → Told (Shows store set computation v') (λ a. a) r (call (kit_of store set computation) (free_of store set computation 0 v v') n)

  -- the same of a call that reads a row, where something is known; a damaged row is read at no node that is shown
  abbrev pub AnswersIf : (LawNode → Type 0) → Result Answer Damaged → (Kit → Free → LawNode → Answer × LawNode) → Type 0
  AnswersIf Known r call = (n : LawNode) → Shows store set computation v n → Known n → Told (Shows store set computation v') (λ a. Ok a) r (call (kit_of store set computation) (free_of store set computation 0 v v') n)

  abbrev pub Answers : Result Answer Damaged → (Kit → Free → LawNode → Answer × LawNode) → Type 0
  Answers r call = (n : LawNode) → Shows store set computation v n → Told (Shows store set computation v') (λ a. Ok a) r (call (kit_of store set computation) (free_of store set computation 0 v v') n)

  -- the store and what it would be cut at stay, and what is shown
  pub record Stays : Type 0 where
    pub shows : (n : LawNode) → Shows store set computation v n → Shows store set computation v' n
    pub commits : store.commit_cut v'.store ≡ store.commit_cut v.store
    pub restarts : store.restart_cut v'.store ≡ store.restart_cut v.store

  -- a stop's row was read
  pub record Read (s : ℕ) (r : Result StopRow Damaged) : Type 0 where
    pub stays : Stays
    pub row : WhileOn store set computation v (λ n. s < stops → IsOkAnd r (λ row. row_of row ≡ n.row s))

  -- timers, panel and queue were brought in step with a stop's row
  pub record Followed (s : ℕ) (row : Row) : Type 0 where
    pub store_is : v'.store ≡ v.store
    pub names_are : v'.names ≡ v.names
    pub watermark : v'.watermark ≡ v.watermark
    pub due : due_at v'.timers ≡ changed s ((on_bytes computation.operations).due row.state) (due_at v.timers)
    pub shown : shown_at v'.panel ≡ changed s (oldest row.pending) (shown_at v.panel)
    pub queue : Line (lined v.queue) → s < stops → lined v'.queue ≡ requeued s row.pending (lined v.queue)

  -- a name was asked for
  pub record Asked (s : ℕ) (k : Name) (r : Bool) : Type 0 where
    pub stays : Stays
    pub answer : WhileOn store set computation v (λ n. s < stops → r ≡ seen k (n.row s).names)

  -- something was found out about a node of which something is known
  pub record Finds {X : Type 0} (Known : LawNode → Type 0) (r : Result X Damaged) (f : LawNode → X) : Type 0 where
    pub stays : Stays
    pub value : (n : LawNode) → Shows store set computation v n → Known n → r ≡ Ok (f n)

  -- a stop's row was committed, whose names have changed by those that fell and one that came
  abbrev pub Commits : ℕ → Row → Option ℕ → Option Name → Answer → Type 0
  Commits s new floor come r =
      (n : LawNode) → Shows store set computation v n → n.power.on ≡ true → s < stops → new.names ≡ renamed floor come (n.row s).names → Fresh come (n.row s).names
      → (free : Free) → free.owed ≡ (store.model v'.store).power.owed → free.point ≡ store.commit_cut v.store
      → Told (Shows store set computation v') (λ a. a) r (commit_row (kit_of store set computation) free s new n)
