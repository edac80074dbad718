-- A list of calls on a pair is a run of the law. Assumes nothing.
use Rattle.std.proofs.Common.{◌≡◌, suc, ◌≤◌, List, [], ◌∷◌, ◌++◌, length, Ok, Err, sym, refl, ap, ◌∙◌, subst, append_assoc, append-nil}
use Rattle.model.specs.Computation.{Lawful}
use Rattle.model.specs.declared.answer.Outcome.{Outcome}
use Rattle.model.specs.declared.call.Call.{Call}
use Rattle.model.specs.declared.call.Call.TheVariants.{HandIn}
use Rattle.model.proofs.OnBytes.{lawful_on_bytes}
use Rattle.stores.specs.declared.store.Store.{Ghosts as Stores}
use Rattle.names.specs.declared.set.NameSet.{Ghosts as Sets}
use Rattle.computations.specs.declared.computation.Computation.{Ghosts as Computations}
use Rattle.law.specs.Law.{Told}
use Rattle.law.specs.Node.{Keeps}
use Rattle.law.specs.Pair.{Pair as LawPair, happens}
use Rattle.law.specs.Run.{Event, Run}
use Rattle.law.proofs.Counts.{every_count}
use Rattle.law.proofs.Telling.{told_none, ToldMore}
use Rattle.node.specs.Shows.{kit_of}
use Rattle.node.specs.declared.node.Damaged.{Damaged}
use Rattle.pair.proofs.Telling.{ok_is, err_none}
use Rattle.pair.specs.Promises.{Steps, free_of}
use Rattle.pair.specs.Runs.{Ran, Extends}
use Rattle.pair.specs.Shows.{kits_of, Shows}
use Rattle.pair.specs.declared.pair.Pair.{Pair}

-- what stands where no call does
abbrev pub no_call : Call
no_call = HandIn (record { name = record { sender = 0; serial = 0; time = 0 }; stop = 0; amount = 0 })

-- a node's parts keep what the law asks
pub kit_keeps
    : {S N C X : Type 0} (store : Stores S) (set : Sets N) (computation : Computations C X)
    → 1 ≤ store.turn → store.turn ≤ store.cost → Lawful computation.operations computation.sound
    → Keeps (kit_of store set computation)
kit_keeps store set computation starts ends lawful = record {
  lawful = lawful_on_bytes computation.operations computation.sound lawful;
  zeros = refl;
  turn_starts = starts;
  turn_ends = ends;
}

module _ {S N C X T O D Y : Type 0} (store : Stores S) (set : Sets N) (computation : Computations C X) (store' : Stores T) (set' : Sets O) (computation' : Computations D Y) where
  -- one call more
  pub ran_more
      : (v u w : Pair S N C T O D) (calls : List Call) (outcomes : List Outcome) (call : Call) (o : Outcome)
      → Ran store set computation store' set' computation' v calls outcomes u
      → Steps store set computation store' set' computation' u w call (Ok o)
      → Ran store set computation store' set' computation' v (calls ++ (call ∷ [])) (outcomes ++ (o ∷ [])) w
  ran_more v u w [] outcomes call o r step = (
    w,
    o,
    [],
    ap (λ (os : List Outcome). os ++ (o ∷ [])) r.0,
    subst (λ (x : Pair S N C T O D). Steps store set computation store' set' computation' x w call (Ok o)) r.1 step,
    (refl, refl),
  )
  ran_more v u w (first ∷ calls) outcomes call o r step = (
    r.0,
    r.1,
    r.2 ++ (o ∷ []),
    ap (λ (os : List Outcome). os ++ (o ∷ [])) r.3,
    r.4,
    ran_more r.0 u w calls r.2 call o r.5 step,
  )

  -- each call has one outcome
  pub ran_length
      : (v v' : Pair S N C T O D) (calls : List Call) (outcomes : List Outcome)
      → Ran store set computation store' set' computation' v calls outcomes v' → length outcomes ≡ length calls
  ran_length v v' [] outcomes r = ap length r.0
  ran_length v v' (call ∷ calls) outcomes r = ap length r.3 ∙ ap suc (ran_length r.0 v' calls r.2 r.5)

  -- what is shown before the calls goes on to be shown
  pub ran_shows
      : (v v' : Pair S N C T O D) (calls : List Call) (outcomes : List Outcome)
      → Ran store set computation store' set' computation' v calls outcomes v'
      → (p : LawPair) → Shows store set computation store' set' computation' v p → (q : LawPair) × Shows store set computation store' set' computation' v' q
  ran_shows v v' [] outcomes r p shows = (p, subst (λ (x : Pair S N C T O D). Shows store set computation store' set' computation' x p) (sym r.1) shows)
  ran_shows v v' (call ∷ calls) outcomes r p shows = ran_shows r.0 v' calls r.2 r.5 _ (r.4 p shows).shows

  -- damaged rows are read at no pair that is shown
  pub never_damaged
      : (v u w : Pair S N C T O D) (calls : List Call) (outcomes : List Outcome) (call : Call) (d : Damaged)
      → Ran store set computation store' set' computation' v calls outcomes u
      → Steps store set computation store' set' computation' u w call (Err d)
      → (p : LawPair) → Shows store set computation store' set' computation' v p → ⊥
  never_damaged v u w calls outcomes call d r step p shows =
      let s = ran_shows v u calls outcomes r p shows in err_none d _ (step s.0 s.1).outcome

  module _ (ck : Keeps (kit_of store set computation)) (sk : Keeps (kit_of store' set' computation')) (es : List Event) where
    -- a run that was told up to here is told on
    tells
        : (v v' : Pair S N C T O D) (before calls : List Call) (outcomes₀ outcomes : List Outcome) (fs : List Event) (q : LawPair)
        → Told (kits_of store set computation store' set' computation') es before outcomes₀ fs q
        → Shows store set computation store' set' computation' v q
        → Ran store set computation store' set' computation' v calls outcomes v'
        → Extends store set computation store' set' computation' v' es (before ++ calls) (outcomes₀ ++ outcomes)
    tells v v' before [] outcomes₀ outcomes fs q told shows r = record {
      events = fs;
      end = q;
      told =
          subst (λ (cs : List Call). Told (kits_of store set computation store' set' computation') es cs (outcomes₀ ++ outcomes) fs q) (sym (append-nil before))
          (subst (λ (os : List Outcome). Told (kits_of store set computation store' set' computation') es before os fs q) (sym (append-nil outcomes₀) ∙ ap (λ (os : List Outcome). outcomes₀ ++ os) (sym r.0)) told);
      counted = λ held landed c t. every_count (kits_of store set computation store' set' computation') ck sk held landed c t fs q told.goes.run;
      shows = subst (λ (x : Pair S N C T O D). Shows store set computation store' set' computation' x q) (sym r.1) shows;
    }
    tells v v' before (call ∷ calls) outcomes₀ outcomes fs q told shows r =
        let kits = kits_of store set computation store' set' computation' in
        let u = r.0 in
        let o = r.1 in
        let step = r.4 q shows in
        let free = free_of store set computation store' set' computation' v u call in
        let after = happens kits free call q in
        let same = ok_is o after.0 step.outcome in
        let e : Event = record { call = call; free = free; outcome = after.0; before = q; after = after.1 } in
        let more = ToldMore kits ck sk es before outcomes₀ fs q told e refl refl in
        let more_same = subst (λ (x : Outcome). Told kits es (before ++ (call ∷ [])) (outcomes₀ ++ (x ∷ [])) (e ∷ fs) after.1) (sym same) more in
        let rest = tells u v' (before ++ (call ∷ [])) calls (outcomes₀ ++ (o ∷ [])) r.2 (e ∷ fs) after.1 more_same step.shows r.5 in
        subst (λ (cs : List Call). Extends store set computation store' set' computation' v' es cs (outcomes₀ ++ outcomes)) (append_assoc before (call ∷ []) calls)
        (subst (λ (os : List Outcome). Extends store set computation store' set' computation' v' es ((before ++ (call ∷ [])) ++ calls) os)
        (append_assoc outcomes₀ (o ∷ []) r.2 ∙ ap (λ (os : List Outcome). outcomes₀ ++ os) (sym r.3)) rest)

    pub ran_carries
        : (v v' : Pair S N C T O D) (calls : List Call) (outcomes : List Outcome)
        → Ran store set computation store' set' computation' v calls outcomes v'
        → (p : LawPair) → Run (kits_of store set computation store' set' computation') es p → Shows store set computation store' set' computation' v p
        → Extends store set computation store' set' computation' v' es calls outcomes
    ran_carries v v' calls outcomes r p run shows =
        tells v v' [] calls [] outcomes es p (told_none (kits_of store set computation store' set' computation') ck sk es p run) shows r
