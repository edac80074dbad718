-- A replay is the run of a script, and its text the account of that run. Assumes nothing.
use Rattle.std.proofs.Common.{◌≡◌, ℕ, ◌+◌, ◌-◌, ◌≤◌, List, ◌++◌, length, take, Option, ap, ◌∙◌, subst, arith, length-append}
use Rattle.model.specs.declared.answer.Fault.{Fault}
use Rattle.model.specs.declared.answer.Outcome.{Outcome}
use Rattle.model.specs.declared.call.Call.{Call}
use Rattle.stores.specs.declared.store.Store.{Ghosts as Stores}
use Rattle.names.specs.declared.set.NameSet.{Ghosts as Sets}
use Rattle.computations.specs.declared.computation.Computation.{Ghosts as Computations}
use Rattle.law.specs.Law.{Told}
use Rattle.law.specs.Pair.{Pair as LawPair}
use Rattle.pair.specs.Runs.{Ran, Carries}
use Rattle.pair.specs.Shows.{kits_of, Shows}
use Rattle.pair.specs.Tallies.{told_of}
use Rattle.pair.specs.declared.pair.Pair.{Pair}
use Rattle.pair.proofs.Running.{ran_length, ran_shows}
use Rattle.account.specs.Account.{events_from}
use Rattle.replay.specs.Account.{last_calls, fault_text, Replays}
use Rattle.replay.specs.Script.{calls_in, fault_in}
use Rattle.replay.specs.Stops.{stop_lines}

module _ {S N C X T O D Y : Type 0} (store : Stores S) (set : Sets N) (computation : Computations C X) (store' : Stores T) (set' : Sets O) (computation' : Computations D Y)
    (script : List ℕ) (calls : List Call) (outcomes : List Outcome) (calls_are : calls ≡ calls_in script ++ last_calls)
    (v u : Pair S N C T O D) (ran : Ran store set computation store' set' computation' v calls outcomes u) where
  -- two outcomes more than the script has calls
  two_more : length outcomes ≡ length (calls_in script) + 2
  two_more = ran_length store set computation store' set' computation' v u calls outcomes ran ∙ ap length calls_are ∙ length-append (calls_in script) last_calls

  pub at_least_two : 2 ≤ length outcomes
  at_least_two = omega (arith, two_more)

  events_are : length outcomes - 2 ≡ length (calls_in script)
  events_are = omega (arith, two_more)

  -- what is shown before the calls is shown after them
  pub still_shown : (p : LawPair) → Shows store set computation store' set' computation' v p → (q : LawPair) × Shows store set computation store' set' computation' u q
  still_shown p shows = ran_shows store set computation store' set' computation' v u calls outcomes ran p shows

  pub replayed
      : (held landed : List ℕ → ℕ) (v' : Pair S N C T O D) (shown : List Outcome) (fault : Option (Fault × ℕ)) (stops text : List ℕ)
      → Carries store set computation store' set' computation' v u calls outcomes
      → ((p : LawPair) → Shows store set computation store' set' computation' u p → Shows store set computation store' set' computation' v' p)
      → ((p : LawPair) → Shows store set computation store' set' computation' u p → stops ≡ stop_lines (told_of held landed p))
      → shown ≡ take (length outcomes - 2) outcomes
      → fault ≡ fault_in script
      → text ≡ events_from 1 shown ++ (fault_text fault ++ stops)
      → Replays store set computation store' set' computation' held landed v v' script text
  replayed held landed v' shown fault stops text carries later stops-are shown-is fault_is text_is es p run shows =
      let x = carries es p run shows in
      let kits = kits_of store set computation store' set' computation' in
      record {
        outcomes = outcomes;
        extends = record {
          events = x.events;
          end = x.end;
          told = subst (λ (cs : List Call). Told kits es cs outcomes x.events x.end) calls_are x.told;
          counted = x.counted;
          shows = later x.end x.shows;
        };
        text_is =
            text_is
            ∙ ap (λ (os : List Outcome). events_from 1 os ++ (fault_text fault ++ stops)) (shown-is ∙ ap (λ (n : ℕ). take n outcomes) events_are)
            ∙ ap (λ (f : Option (Fault × ℕ)). events_from 1 (take (length (calls_in script)) outcomes) ++ (fault_text f ++ stops)) fault_is
            ∙ ap (λ (t : List ℕ). events_from 1 (take (length (calls_in script)) outcomes) ++ (fault_text (fault_in script) ++ t)) (stops-are x.end x.shows);
      }
