-- A run is told on, call by call. Assumes nothing.
use Rattle.std.proofs.Common.{◌≡◌, List, [], ◌∷◌, ◌++◌, sym, refl, ap, ◌∙◌, subst, append_assoc, append-nil}
use Rattle.model.specs.declared.answer.Outcome.{Outcome}
use Rattle.model.specs.declared.call.Call.{Call}
use Rattle.law.specs.Law.{Told, EveryTelling}
use Rattle.law.specs.Node.{Keeps}
use Rattle.law.specs.Pair.{Kits, Pair}
use Rattle.law.specs.Run.{Event, Happened, Run, calls_of, outcomes_of}
use Rattle.law.proofs.Runs.{every_run}

module _ (kits : Kits) (ck : Keeps kits.collector) (sk : Keeps kits.spotter) (es : List Event) where
  pub told_none : (p : Pair) → Run kits es p → Told kits es [] [] es p
  told_none p r = record {
    goes =
        record { run = r; since = ([], refl); calls_are = sym (append-nil (calls_of es)); outcomes_are = sym (append-nil (outcomes_of es)) };
    lawful = every_run kits ck sk es p r;
  }

  pub ToldMore
      : (calls : List Call) (outcomes : List Outcome) (fs : List Event) (q : Pair)
      → Told kits es calls outcomes fs q → (e : Event) → Happened kits e → e.before ≡ q
      → Told kits es (calls ++ (e.call ∷ [])) (outcomes ++ (e.outcome ∷ [])) (e ∷ fs) e.after
  ToldMore calls outcomes fs q t e happened before =
      let r : Run kits (e ∷ fs) e.after = (subst (λ p. Run kits fs p) (sym before) t.goes.run, happened, refl) in
      let since = t.goes.since in
      record {
        goes = record {
          run = r;
          since = (e ∷ since.0, ap (λ xs. e ∷ xs) since.1);
          calls_are = ap (λ xs. xs ++ (e.call ∷ [])) t.goes.calls_are ∙ append_assoc (calls_of es) calls (e.call ∷ []);
          outcomes_are =
              ap (λ xs. xs ++ (e.outcome ∷ [])) t.goes.outcomes_are ∙
              append_assoc (outcomes_of es) outcomes (e.outcome ∷ []);
        };
        lawful = every_run kits ck sk (e ∷ fs) e.after r;
      }

pub every_telling : EveryTelling Keeps
every_telling kits ck sk es = (told_none kits ck sk es, ToldMore kits ck sk es)
