use Rattle.std.proofs.Common.{◌<◌, ◌≤◌, List, [], ◌∷◌, ◌++◌, length, get_or, take, vec_items, sym, subst, arith}
use Rattle.std.proofs.lemmas.List.{take_more, take_all}
use Rattle.std.proofs.lemmas.Result.{err_from_is_err_and}
use Rattle.model.specs.declared.answer.Outcome.{Outcome}
use Rattle.model.specs.declared.call.Call.{Call}
use Rattle.pair.specs.Runs.{Ran}
use Rattle.pair.proofs.Running.{no_call, kit_keeps, ran_more, ran_carries, never_damaged}
use Rattle.pair.proofs.pair.Pair.run.Goals as goal

pub returns-in_err-outcome-clause-stops : goal.returns-in_err-outcome-clause-stops
returns-in_err-outcome-clause-stops g c =
    let i = c.loop-call.call-index in
    let calls = c.args.calls.now in
    let stopped = err_from_is_err_and c.from_residual-in_err-outcome.result c.from_residual-in_err-outcome.ensures.1 in
    rw (stopped.1, stopped.2)
    (never_damaged g.S.Store g.N.NameSet g.C.Computation g.T.Store g.O.NameSet g.D.Computation c.args.self.now c.loop-call.self c.call.new.self (take i calls) (vec_items c.loop-call.outcomes) (get_or calls i no_call) _ c.loop-call.invariant.2 c.in_err-outcome.ensures)

pub loop-call-preserved : goal.loop-call-preserved
loop-call-preserved g c =
    let i = c.loop-call.call-index in
    let calls = c.args.calls.now in
    let pushed = c.push_reserved.ensures in
    let inv = c.loop-call.invariant in
    let below : i < length calls = omega arith in
    let more = ran_more g.S.Store g.N.NameSet g.C.Computation g.T.Store g.O.NameSet g.D.Computation c.args.self.now c.loop-call.self c.call.new.self (take i calls) (vec_items c.loop-call.outcomes) (get_or calls i no_call) c.in_ok-outcome.outcome inv.2 c.in_ok-outcome.ensures in (
      omega (arith, pushed.len, inv.0),
      omega (arith, pushed.capacity, inv.1),
      subst (λ (cs : List Call). Ran g.S.Store g.N.NameSet g.C.Computation g.T.Store g.O.NameSet g.D.Computation c.args.self.now cs (vec_items c.push_reserved.new.self) c.call.new.self) (sym (take_more calls i no_call below))
          (subst (λ (os : List Outcome). Ran g.S.Store g.N.NameSet g.C.Computation g.T.Store g.O.NameSet g.D.Computation c.args.self.now (take i calls ++ (get_or calls i no_call ∷ [])) os c.call.new.self) (sym pushed.items) more),
    )

pub returns : goal.returns
returns g c =
    let calls = c.args.calls.now in
    let past : length calls ≤ c.loop-call.call-index = omega arith in
    let ran = subst (λ (cs : List Call). Ran g.S.Store g.N.NameSet g.C.Computation g.T.Store g.O.NameSet g.D.Computation c.args.self.now cs (vec_items c.loop-call.outcomes) c.loop-call.self) (take_all c.loop-call.call-index calls past) c.loop-call.invariant.2 in
    let ck = kit_keeps g.S.Store g.N.NameSet g.C.Computation g.met.S.Store.turn_counts g.met.S.Store.turn_within g.met.C.Computation.lawful in
    let sk = kit_keeps g.T.Store g.O.NameSet g.D.Computation g.met.T.Store.turn_counts g.met.T.Store.turn_within g.met.D.Computation.lawful in
    record {
      one_after_another = ran;
      keeps_the_law = λ es p run shows. ran_carries g.S.Store g.N.NameSet g.C.Computation g.T.Store g.O.NameSet g.D.Computation ck sk es c.args.self.now c.loop-call.self calls (vec_items c.loop-call.outcomes) ran p run shows;
      stops = tt;
    }
