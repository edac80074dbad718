-- What is kept beside the rows follows them through a commit. Assumes nothing.
use Rattle.std.proofs.Common.{◌≡◌, ℕ, ◌+◌, ◌<◌, ◌≤◌, Bool, true, false, cond, ◌&&◌, eqb, ltb, leb, List, length, Option, sym, refl, ap, ◌∙◌, subst, arith}
use Rattle.std.proofs.lemmas.Bool.{cond-true, cond-false, cond_both, leb-true, le-leb, lt-ltb, or_left}
use Rattle.model.specs.Computation.{Computation}
use Rattle.model.specs.Limits.{stops, most_names}
use Rattle.model.specs.Power.{Power, commit_answer, renewed}
use Rattle.model.specs.Row.{Row}
use Rattle.model.specs.declared.answer.Answer.{Answer}
use Rattle.model.specs.declared.answer.Answer.TheVariants.{Done}
use Rattle.model.specs.declared.answer.CutPoint.{CutPoint}
use Rattle.model.specs.declared.record.Name.{Name}
use Rattle.model.specs.declared.record.Production.{Production}
use Rattle.agenda.specs.Slots.{changed, updated}
use Rattle.names.specs.Held.{Meaning}
use Rattle.rows.specs.Layout.{RowFits}
use Rattle.law.specs.Law.{Queued}
use Rattle.law.specs.Node.{Node, Kit, Free, with_row, requeued, commit_row, commit_watermark}
use Rattle.model.specs.Row.{oldest}
use Rattle.law.proofs.Next.{row_at}
use Rattle.law.proofs.Queues.{Right, requeued_right, queued_right, right_queued}
use Rattle.upkeep.specs.Lines.{Line}
use Rattle.upkeep.specs.Names.{Holds, with_names, Few}
use Rattle.upkeep.proofs.Renaming.{same_holds}
use Rattle.node.specs.Shows.{Beside, Follows}

-- a commit that was done had power for all its writes, and one that was not had not
pub done_lasts : (cost : ℕ) (point : CutPoint) (p : Power) (a : Answer) → a ≡ commit_answer cost point p → a ≡ Done → leb cost p.left ≡ true
done_lasts cost point p a e d = at (leb cost p.left) refl
  where
    at : (b : Bool) → leb cost p.left ≡ b → leb cost p.left ≡ true
    at true t = t
    at false t = absurd (let f = e ∙ cond-false _ _ _ t in let z : ◌≡◌ {A = ℕ} 0 1 = cc in omega arith)

pub cut_ends : (cost : ℕ) (point : CutPoint) (p : Power) (a : Answer) → a ≡ commit_answer cost point p → (a ≡ Done → ⊥) → leb cost p.left ≡ true → ⊥
cut_ends cost point p a e not_done t = not_done (e ∙ cond-true _ _ _ t)

-- the row is new then
pub lasts_renews : (cost turn : ℕ) (p : Power) → turn ≤ cost → leb cost p.left ≡ true → renewed turn p ≡ true
lasts_renews cost turn p within t =
    or_left (leb turn p.left) (eqb (p.left + 1) turn && eqb p.tear 1) (le-leb turn p.left (omega (arith, leb-true cost p.left t)))

-- the queue of a node is a line of stops
pub line : (n : Node) (queue : List ℕ) → queue ≡ n.queue → Queued n → Line queue
line n queue e q = subst Line (sym e) (record { once = q.once; stop = λ s m. (q.pending s m).0 })

-- the names of the rows, one of which is new
names_with : (s : ℕ) (new : Row) (rows : ℕ → Row) (q : ℕ) → with_names s new.names (λ t. (rows t).names) q ≡ (with_row s new rows q).names
names_with s new rows q = cond_both (eqb q s) new (rows q) (λ (x : Row). cond (eqb q s) new.names (rows q).names ≡ x.names) (λ t. cond-true _ _ _ t) (λ t. cond-false _ _ _ t)

-- what is held for each stop is told by its row, one of which is new
pub entry_with
    : {X : Type 0} (f : Row → Option X) (at at' : ℕ → Option X) (s : ℕ) (new : Row) (rows : ℕ → Row) (value : Option X)
    → at' ≡ changed s value at
    → s < stops
    → value ≡ f new
    → ((q : ℕ) → q < stops → at q ≡ f (rows q))
    → (q : ℕ)
    → q < stops
    → at' q ≡ f (with_row s new rows q)
entry_with {X} f at at' s new rows value e below is told q h =
    ap (λ (g : ℕ → Option X). g q) (e ∙ cond-true (ltb s stops) (updated s value at) at (lt-ltb s stops below))
    ∙ cond_both (eqb q s) new (rows q) (λ (x : Row). cond (eqb q s) value (at q) ≡ f x) (λ t. cond-true _ _ _ t ∙ is) (λ t. cond-false _ _ _ t ∙ told q h)

-- what stands beside the rows after one of them is new
pub record Moved (c : Computation (List ℕ)) (s : ℕ) (new : Row) (rows : ℕ → Row) (b b' : Beside) : Type 0 where
  pub names : Holds b'.names (with_names s new.names (λ q. (rows q).names))
  pub due : b'.due ≡ changed s (c.due new.state) b.due
  pub shown : b'.shown ≡ changed s (oldest new.pending) b.shown
  pub queue_is : b'.queue ≡ requeued s new.pending b.queue
  pub watermark : b'.w ≡ b.w

module _ (kit : Kit) (free : Free) (within : kit.turn ≤ kit.cost) (c : Computation (List ℕ)) (s : ℕ) (new : Row) (n : Node) where
  -- all follows a row that was committed
  pub follows_row : (b b' : Beside) → leb kit.cost n.power.left ≡ true → s < stops → Follows c b n → Moved c s new n.row b b' → Follows c b' (commit_row kit free s new n).1
  follows_row b b' lasts below f m =
      let wrote = lasts_renews kit.cost kit.turn n.power within lasts in
      let rows_are : (commit_row kit free s new n).1.row ≡ with_row s new n.row = cond-true _ _ _ wrote in
      record {
        names =
            subst (λ (rows : ℕ → Row). Holds b'.names (λ q. (rows q).names)) (sym rows_are)
            (same_holds b'.names (with_names s new.names (λ q. (n.row q).names)) (λ q. (with_row s new n.row q).names) (names_with s new n.row) m.names);
        due =
            subst (λ (rows : ℕ → Row). (q : ℕ) → q < stops → b'.due q ≡ c.due (rows q).state) (sym rows_are)
            (entry_with (λ (r : Row). c.due r.state) b.due b'.due s new n.row _ m.due below refl f.due);
        shown =
            subst (λ (rows : ℕ → Row). (q : ℕ) → q < stops → b'.shown q ≡ oldest (rows q).pending) (sym rows_are)
            (entry_with (λ (r : Row). oldest r.pending) b.shown b'.shown s new n.row _ m.shown below refl f.shown);
        queue_is = m.queue_is ∙ ap (requeued s new.pending) f.queue_is;
        queued =
            right_queued (commit_row kit free s new n).1
            (subst (λ (rows : ℕ → Row). Right rows (requeued s new.pending n.queue)) (sym rows_are)
            (requeued_right s below new n.row n.queue (queued_right n f.queued) new.pending refl));
        watermark = m.watermark ∙ f.watermark;
      }

  -- the new row stands among the rows then
  pub new_stands : leb kit.cost n.power.left ≡ true → (commit_row kit free s new n).1.row s ≡ new
  new_stands lasts =
      ap (λ (rows : ℕ → Row). rows s) (cond-true _ _ _ (lasts_renews kit.cost kit.turn n.power within lasts)) ∙ row_at s new n.row

-- no row of a node that is kept has more names than fit, the new one neither
pub few_with : (s : ℕ) (new : Row) (rows : ℕ → Row) (names : List Name) → RowFits new → ((q : ℕ) → q < stops → RowFits (rows q)) → new.names ≡ names → Few (with_names s names (λ q. (rows q).names))
few_with s new rows names fits all e q h =
    cond_both (eqb q s) names (rows q).names (λ (ns : List Name). length ns ≤ most_names) (λ _. subst (λ (ns : List Name). length ns ≤ most_names) e fits.few_names) (λ _. (all q h).few_names)

module _ (kit : Kit) (free : Free) (within : kit.turn ≤ kit.cost) (c : Computation (List ℕ)) (t : ℕ) (n : Node) where
  -- all follows a watermark that was committed
  pub follows_watermark
      : (m : Meaning) (due : ℕ → Option ℕ) (shown : ℕ → Option Production) (queue : List ℕ) (w : ℕ)
      → leb kit.cost n.power.left ≡ true
      → Follows c (record { names = m; due = due; shown = shown; queue = queue; w = w }) n
      → Follows c (record { names = m; due = due; shown = shown; queue = queue; w = t }) (commit_watermark kit free t n).1
  follows_watermark m due shown queue w lasts f =
      let wrote = lasts_renews kit.cost kit.turn n.power within lasts in
      record {
        names = f.names;
        due = f.due;
        shown = f.shown;
        queue_is = f.queue_is;
        queued = record { once = f.queued.once; pending = f.queued.pending; all = f.queued.all };
        watermark = sym (cond-true _ _ _ wrote);
      }
