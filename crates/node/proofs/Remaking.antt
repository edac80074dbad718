-- What is kept beside the rows follows one stop more. Assumes nothing.
use Rattle.std.proofs.Common.{◌≡◌, ℕ, ◌+◌, ◌*◌, ◌<◌, ◌≤◌, Bool, true, false, not, ◌&&◌, ◌||◌, eqb, ltb, List, [], ◌∷◌, ◌++◌, length, Option, sym, refl, ap, ◌∙◌, subst, inl, inr, append-nil, zero-le, add-one, arith}
use Rattle.std.proofs.lemmas.Bool.{cases_Bool, cases_eq, cond-true, cond-false, ltb-true, ltb-false, lt-ltb, le-ltb, eq-eqb, ne_eqb, not_from_false}
use Rattle.model.specs.Computation.{Computation}
use Rattle.model.specs.Limits.{stops, most_names}
use Rattle.model.specs.Row.{Row}
use Rattle.model.specs.declared.answer.Answer.{Answer}
use Rattle.model.specs.declared.record.Name.{Name}
use Rattle.model.specs.declared.record.Production.{Production}
use Rattle.agenda.specs.Slots.{changed, updated}
use Rattle.names.specs.Held.{Meaning}
use Rattle.names.specs.Fill.{AddedAll, with_names}
use Rattle.names.specs.Changes.{nothing}
use Rattle.model.specs.Names.{named}
use Rattle.law.specs.Lists.{Mem}
use Rattle.law.specs.Node.{Node as LawNode, stands, requeued}
use Rattle.law.specs.Rows.{seen}
use Rattle.model.specs.Row.{oldest}
use Rattle.law.specs.Stops.{listed, pending_below, pending_stops}
use Rattle.law.proofs.Lists.{kept_all}
use Rattle.law.proofs.Queues.{Right, right_queued, pending_right, pending_listed, stands_mem}
use Rattle.upkeep.specs.Lines.{Line}
use Rattle.node.specs.Shows.{Beside, Follows}
use Rattle.node.specs.Remaking.{FollowsBelow}

-- the names that were added are those of the row
pub same_added : {m m' : Meaning} {i : ℕ} {ns ns' : List Name} {a : Answer} → ns ≡ ns' → AddedAll m i ns a m' → AddedAll m i ns' a m'
same_added {m} {m'} {i} {ns} {ns'} {a} e added = subst (λ (xs : List Name). AddedAll m i xs a m') e added

-- a stop is below i + 1 if it is below i, or is i
below_more : (s i : ℕ) → (s ≡ i → ⊥) → ltb s (i + 1) ≡ ltb s i
below_more s i ne =
    elim (cases_Bool (ltb s i)) [
      | inl t ↦ lt-ltb s (i + 1) (omega (arith, ltb-true s i t)) ∙ sym t
      | inr f ↦ le-ltb s (i + 1) (omega (arith, ltb-false s i f)) ∙ sym f
    ]

-- the set holds the names of one stop more
names_more
    : (m m' : Meaning) (i : ℕ) (names : ℕ → List Name)
    → ((s : ℕ) (k : Name) → m.holds s k ≡ (ltb s i && seen k (names s)))
    → m'.holds ≡ with_names m.holds i (names i)
    → (s : ℕ) (k : Name) → m'.holds s k ≡ (ltb s (i + 1) && seen k (names s))
names_more m m' i names holds e s k =
    ap (λ (h : ℕ → Name → Bool). h s k) e
    ∙ elim (cases_eq s i) [
      | inl same ↦
          ap (λ (b : Bool). (b && named (names i) k) || m.holds s k) (eq-eqb i s (sym same))
          ∙ ap (λ (b : Bool). seen k (names i) || b) (holds s k ∙ ap (λ (b : Bool). b && seen k (names s)) (le-ltb s i (omega arith)))
          ∙ or_false (seen k (names i))
          ∙ ap (λ (q : ℕ). seen k (names q)) (sym same)
          ∙ ap (λ (b : Bool). b && seen k (names s)) (sym (lt-ltb s (i + 1) (omega arith)))
      | inr other ↦
          ap (λ (b : Bool). (b && named (names i) k) || m.holds s k) (ne_eqb i s (λ f. other (sym f)))
          ∙ holds s k
          ∙ ap (λ (b : Bool). b && seen k (names s)) (sym (below_more s i other))
    ]
  where
    or_false : (a : Bool) → (a || false) ≡ a
    or_false true = refl
    or_false false = refl

-- what is held for each stop below i, and for i
entry_more
    : {X : Type 0} (f : Row → Option X) (at at' : ℕ → Option X) (i : ℕ) (rows : ℕ → Row) (value : Option X)
    → at' ≡ changed i value at
    → i < stops
    → value ≡ f (rows i)
    → ((s : ℕ) → s < i → at s ≡ f (rows s))
    → (s : ℕ)
    → s < i + 1
    → at' s ≡ f (rows s)
entry_more {X} f at at' i rows value e below is told s h =
    ap (λ (g : ℕ → Option X). g s) (e ∙ cond-true (ltb i stops) (updated i value at) at (lt-ltb i stops below))
    ∙ elim (cases_eq s i) [
      | inl same ↦ cond-true _ _ _ (eq-eqb s i same) ∙ is ∙ ap (λ (q : ℕ). f (rows q)) (sym same)
      | inr other ↦ cond-false _ _ _ (ne_eqb s i other) ∙ told s (omega arith)
    ]

-- a queue of the stops below i, to which i joins if it has something pending
queue_more : (i : ℕ) (ps : List Production) (queue : List ℕ) → ((s : ℕ) → Mem s queue → s < i) → requeued i ps queue ≡ queue ++ listed i ps
queue_more i [] queue f = kept_all (λ (q : ℕ). not (eqb q i)) queue (λ s m. not_from_false (eqb s i) (ne_eqb s i (away s (f s m)))) ∙ sym (append-nil queue)
  where
    away : (s : ℕ) → s < i → s ≡ i → ⊥
    away s h e = omega arith
queue_more i (p ∷ ps) queue f = cond-false (stands i queue) queue (queue ++ (i ∷ [])) (out (stands i queue) refl)
  where
    no : i < i → ⊥
    no h = omega arith

    out : (b : Bool) → stands i queue ≡ b → stands i queue ≡ false
    out true t = absurd (no (f i (stands_mem i queue t)))
    out false t = t

pending_more : (rows : ℕ → Row) (i : ℕ) → requeued i (rows i).pending (pending_below rows i) ≡ pending_below rows (i + 1)
unfolding pending_below
pending_more rows i =
    queue_more i (rows i).pending (pending_below rows i) (λ s m. ((pending_listed rows i).pending s m).0)
    ∙ ap (pending_below rows) (sym (add-one i))

-- the stops below i with something pending are a line
pending_line : (rows : ℕ → Row) (i : ℕ) (queue : List ℕ) → i < stops → queue ≡ pending_below rows i → Line queue
pending_line rows i queue h e =
    subst Line (sym e) (record { once = (pending_listed rows i).once; stop = λ s m. low s ((pending_listed rows i).pending s m).0 })
  where
    low : (s : ℕ) → s < i → s < stops
    low s k = omega arith

module _ (c : Computation (List ℕ)) (i : ℕ) (b b' : Beside) (n : LawNode) (below : i < stops) (few : length (n.row i).names ≤ most_names) (f : FollowsBelow c i b n) where
  pub follows_more
      : (a : Answer) (d : Option ℕ) (o : Option Production)
      → AddedAll b.names i (n.row i).names a b'.names
      → b'.due ≡ changed i d b.due
      → d ≡ c.due (n.row i).state
      → b'.shown ≡ changed i o b.shown
      → o ≡ oldest (n.row i).pending
      → (Line b.queue → i < stops → b'.queue ≡ requeued i (n.row i).pending b.queue)
      → b'.w ≡ b.w
      → FollowsBelow c (i + 1) b' n
  follows_more a d o added dues d-is shown o_is queues w-is =
      let room : b.names.size + length (n.row i).names ≤ 1280 = omega (arith, f.few_names) in
      record {
        names = names_more b.names b'.names i (λ s. (n.row s).names) f.names (added.held (added.done room));
        few_names = omega (arith, f.few_names, added.few);
        due = entry_more (λ (r : Row). c.due r.state) b.due b'.due i n.row d dues below d-is f.due;
        shown = entry_more (λ (r : Row). oldest r.pending) b.shown b'.shown i n.row o shown below o_is f.shown;
        queue_is =
            queues (pending_line n.row i b.queue below f.queue_is) below
            ∙ ap (requeued i (n.row i).pending) f.queue_is
            ∙ pending_more n.row i;
        watermark = w-is ∙ f.watermark;
      }

-- nothing is kept beside the rows, which follows none of them
pub follows_none : (c : Computation (List ℕ)) (b : Beside) (n : LawNode) → b.names ≡ nothing → b.queue ≡ [] → b.w ≡ n.w → FollowsBelow c 0 b n
unfolding pending_below
follows_none c b n names-are queue_is w-is = record {
  names = λ s k. ap (λ (m : Meaning). m.holds s k) names-are ∙ ap (λ (x : Bool). x && seen k (n.row s).names) (sym (le-ltb s 0 zero-le));
  few_names = subst (λ (m : Meaning). m.size ≤ most_names * 0) (sym names-are) zero-le;
  due = λ s h. absurd (none s h);
  shown = λ s h. absurd (none s h);
  queue_is = queue_is;
  watermark = w-is;
}
  where
    none : (s : ℕ) → s < 0 → ⊥
    none s h = omega arith

-- what follows all stops follows the node
pub follows_all : (c : Computation (List ℕ)) (b : Beside) (n : LawNode) → n.queue ≡ pending_stops n.row → FollowsBelow c stops b n → Follows c b n
follows_all c b n queue_is f = record {
  names = f.names;
  due = f.due;
  shown = f.shown;
  queue_is = f.queue_is ∙ sym queue_is;
  queued = right_queued n (subst (λ (q : List ℕ). Right n.row q) (sym queue_is) (pending_right n.row));
  watermark = f.watermark;
}
