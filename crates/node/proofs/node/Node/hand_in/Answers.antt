use Rattle.std.proofs.Common.{refl, ap, ◌∙◌}
use Rattle.model.specs.Limits.{in_range}
use Rattle.node.specs.Promises.{judged_first}
use Rattle.node.specs.Shows.{kit_of, free_of}
use Rattle.node.proofs.Judging.{judged_refused}
use Rattle.node.proofs.Showing.{told_by, is_on}
use Rattle.node.proofs.node.Node.hand_in.Goals as goal

pub returns-in_default : goal.returns-in_default
returns-in_default g c = λ n shows.
    let v = c.args.self.now in
    let store = g.S.Store in
    let set = g.N.NameSet in
    let computation = g.C.Computation in
    told_by
    (judged_refused (kit_of store set computation) (free_of store set computation 0 v v) c.args.given.now n c.judge.result
    (c.judge.ensures ∙ ap (judged_first (in_range c.args.given.now)) (is_on store set computation g.met.S.Store.turn_within v n shows)) c.in_default.not-Done)
    (record { answer = refl; shows = shows })
