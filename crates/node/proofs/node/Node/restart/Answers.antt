use Rattle.std.proofs.Common.{◌≡◌, ℕ, false, Ok, sym, refl, ap, ◌∙◌, subst, rules}
use Rattle.std.proofs.lemmas.Bool.{cond-true, both_ways}
use Rattle.model.specs.Store.{Stored}
use Rattle.model.specs.declared.answer.Answer.{Answer}
use Rattle.model.specs.declared.answer.Answer.TheVariants.{Done}
use Rattle.node.specs.Shows.{Shows}
use Rattle.node.proofs.Showing.{told_by}
use Rattle.node.proofs.Waking.{woken, woke_done}
use Rattle.node.proofs.node.Node.restart.Goals as goal

pub returns-in_ok-remake : goal.returns-in_ok-remake
returns-in_ok-remake g c = λ n shows.
    let store = g.S.Store in
    let set = g.N.NameSet in
    let computation = g.C.Computation in
    let left = c.args.supply.left in
    let tear = c.args.supply.tear in
    let did = c.restart-answer.ensures.restarts in
    let is : c.restart-answer.result ≡ Done = search rules in
    let woke = woke_done did n shows.kept is in
    let t = store.model c.restart-answer.new.self in
    let remade = c.in_ok-remake.ensures (woken left tear t.power.owed n) woke.kept woke.lasts refl in
    told_by (cond-true _ _ _ woke.fits)
    (record {
      answer = ap (λ (a : Answer). Ok a) (is ∙ sym (cond-true _ _ _ woke.lasts));
      shows = subst (λ (o : ℕ). Shows store set computation c.remake.new.self (woken left tear o n)) (ap (λ (x : Stored). x.power.owed) (sym remade.means)) remade.shows;
    })

pub returns-in_err-remake : goal.returns-in_err-remake
returns-in_err-remake g c = λ n shows.
    let store = g.S.Store in
    let did = c.restart-answer.ensures.restarts in
    let is : c.restart-answer.result ≡ Done = search rules in
    let woke = woke_done did n shows.kept is in
    let t = store.model c.restart-answer.new.self in
    let remade = c.in_err-remake.ensures (woken c.args.supply.left c.args.supply.tear t.power.owed n) woke.kept woke.lasts refl in
    absurd (both_ways false refl remade.all)
