use Rattle.std.proofs.Common.{◌≡◌, ℕ, ◌-◌, List, length, take, vec_items, string_bytes, ap, ◌∙◌, arith}
use Rattle.std.proofs.lemmas.Result.{err_from_is_err_and}
use Rattle.model.specs.declared.answer.Outcome.{Outcome}
use Rattle.replay.specs.Script.{placed}
use Rattle.replay.proofs.Replaying.{at_least_two, still_shown, replayed}
use Rattle.replay.proofs.replays.replay.Goals as goal

pub returns-in_err-stops-clause-undamaged : goal.returns-in_err-stops-clause-undamaged
returns-in_err-stops-clause-undamaged g c =
    let calls_are = c.deref.ensures.value ∙ c.in_ok-script.ensures.calls in
    let stopped = err_from_is_err_and c.from_residual-in_err-stops.result c.from_residual-in_err-stops.ensures.1 in
    rw (stopped.1, stopped.2)
    (λ e p shows.
    let s = still_shown g.S.Store g.N.NameSet g.C.Computation g.T.Store g.O.NameSet g.D.Computation c.args.script.now c.deref.result.now (vec_items c.in_ok-outcomes.outcomes) calls_are c.args.pair.now c.run.new.self c.in_ok-outcomes.ensures.one_after_another p shows in
    c.in_err-stops.ensures.undamaged e s.0 s.1)

pub overflow_sub-events : goal.overflow_sub-events
overflow_sub-events g c =
    let calls_are = c.deref.ensures.value ∙ c.in_ok-script.ensures.calls in
    let two = at_least_two g.S.Store g.N.NameSet g.C.Computation g.T.Store g.O.NameSet g.D.Computation c.args.script.now c.deref.result.now (vec_items c.in_ok-outcomes.outcomes) calls_are c.args.pair.now c.run.new.self c.in_ok-outcomes.ensures.one_after_another in
    omega (arith, two, c.in_ok-outcomes.outcomes.ok.0)

pub returns : goal.returns
returns g c =
    let outcomes = vec_items c.in_ok-outcomes.outcomes in
    let calls_are = c.deref.ensures.value ∙ c.in_ok-script.ensures.calls in
    let ran = c.in_ok-outcomes.ensures in
    let stops = c.in_ok-stops.ensures in
    let number : c.len-events.result - 2 - 0 ≡ length outcomes - 2 = omega (arith, c.len-events.ensures, c.in_ok-outcomes.outcomes.ok.0) in
    record {
      account =
          replayed g.S.Store g.N.NameSet g.C.Computation g.T.Store g.O.NameSet g.D.Computation c.args.script.now c.deref.result.now outcomes calls_are c.args.pair.now c.run.new.self ran.one_after_another
          _ _ c.stop_lines.new.pair (take (c.len-events.result - 2 - 0) c.deref-2.result.now) (placed c.in_ok-script.script.fault) c.as_str.result.now (string_bytes c.in_ok-text.text)
          ran.keeps_the_law stops.shows (λ p shows. c.as_str.ensures.value ∙ stops.text p shows) (ap (λ (os : List Outcome). take (c.len-events.result - 2 - 0) os) c.deref-2.ensures.value ∙ ap (λ (n : ℕ). take n outcomes) number) c.in_ok-script.ensures.fault c.in_ok-text.ensures;
      undamaged = tt;
    }
