-- A step at a row and a watermark is one at those that are the same. Assumes nothing.
use Rattle.std.proofs.Common.{◌≡◌, ℕ, ◌<◌, Bool, true, List, Ok, sym, ap, ◌∙◌, subst}
use Rattle.model.specs.Computation.{Computation}
use Rattle.model.specs.Row.{Row}
use Rattle.model.specs.declared.answer.Answer.{Answer}
use Rattle.model.specs.declared.record.Record.{Record}
use Rattle.model.specs.Limits.{stops}
use Rattle.model.specs.declared.record.Name.{Name}
use Rattle.stores.specs.declared.store.Store.{Ghosts as Stores}
use Rattle.names.specs.declared.set.NameSet.{Ghosts as Sets}
use Rattle.computations.specs.declared.computation.Computation.{Ghosts as Computations}
use Rattle.law.specs.Node.{Node as LawNode}
use Rattle.law.specs.Rows.{seen}
use Rattle.rows.specs.Meaning.{row_of}
use Rattle.rows.specs.declared.stop_row.StopRow.{StopRow}
use Rattle.node.specs.Promises.{Read, Asked}
use Rattle.node.specs.Shows.{Shows}
use Rattle.node.specs.declared.node.Node.{Node}
use Rattle.steps.specs.Steps.{Took, Refused, Fired, Reached}

module _ (c : Computation (List ℕ)) (on : Bool) {r : Record} {w w' : ℕ} {row row' : Row} (same : row' ≡ row) (at : w ≡ w') where
  pub same_took : {after : Row} {floor : ℕ} → Took c on w r row after floor → Took c on w' r row' after floor
  same_took {after} {floor} t = subst (λ (x : ℕ). Took c on x r row' after floor) at (subst (λ (x : Row). Took c on w r x after floor) (sym same) t)

  pub same_refused : {a : Answer} → Refused c on w r row a → Refused c on w' r row' a
  same_refused {a} t = subst (λ (x : ℕ). Refused c on x r row' a) at (subst (λ (x : Row). Refused c on w r x a) (sym same) t)

module _ {S N C T : Type 0} (store : Stores S) (set : Sets N) (computation : Computations C T) where
  -- a stop's row was read, and a name asked for
  pub record Looked (v v' : Node S N C) (s : ℕ) (k : Name) (row : Row) (r : Bool) (n : LawNode) : Type 0 where
    pub shows : Shows store set computation v' n
    pub row_is : row ≡ n.row s
    pub seen_is : r ≡ seen k row.names
    pub w_is : v'.watermark ≡ n.w
    pub commits : store.commit_cut v.store ≡ store.commit_cut v'.store

  pub looked
      : {v v₁ v₂ : Node S N C} {s : ℕ} {k : Name} {row : StopRow} {r : Bool}
      → Read store set computation v v₁ s (Ok row)
      → Asked store set computation v₁ v₂ s k r
      → (n : LawNode)
      → Shows store set computation v n
      → n.power.on ≡ true
      → s < stops
      → Looked v v₂ s k (row_of row) r n
  looked {s = s} {k = k} {row = row} read asked n shows on below =
      let row_is : row_of row ≡ n.row s = read.row n shows on below in
      let shows-1 = read.stays.shows n shows in
      let shows-2 = asked.stays.shows n shows-1 in
      record {
        shows = shows-2;
        row_is = row_is;
        seen_is = asked.answer n shows-1 on below ∙ ap (λ (x : Row). seen k x.names) (sym row_is);
        w_is = (shows-2.follows on).watermark;
        commits = sym (asked.stays.commits ∙ read.stays.commits);
      }

module _ (c : Computation (List ℕ)) {w w' : ℕ} {row row' : Row} (same : row' ≡ row) (at : w ≡ w') where
  pub same_fired : {after : Row} {floor : ℕ} → Fired c w row after floor → Fired c w' row' after floor
  same_fired {after} {floor} t = subst (λ (x : ℕ). Fired c x row' after floor) at (subst (λ (x : Row). Fired c w x after floor) (sym same) t)

  pub same_reached : Reached c w' row' → Reached c w row
  same_reached t = subst (λ (x : ℕ). Reached c x row) (sym at) (subst (λ (x : Row). Reached c w' x) same t)
