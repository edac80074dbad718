use Rattle.std.proofs.Common.{true, length, Ok, sym, refl, ap, ◌∙◌}
use Rattle.std.proofs.lemmas.Bool.{cond-true}
use Rattle.model.specs.OnBytes.{on_bytes}
use Rattle.model.specs.Row.{Row}
use Rattle.law.specs.Node.{commit_row}
use Rattle.model.specs.Answers.{is_done}
use Rattle.law.specs.Rows.{considered}
use Rattle.node.specs.Shows.{kit_of, free_of}
use Rattle.node.proofs.Judging.{ranged_stop, hand_in_refused, took_fresh, took_names}
use Rattle.node.proofs.Showing.{told_by, rewrapped}
use Rattle.node.proofs.Taking.{looked, same_took, same_refused}
use Rattle.node.proofs.node.Node.take.Goals as goal

pub returns-in-Ok : goal.returns-in-Ok
returns-in-Ok g c = λ n shows known.
    let store = g.S.Store in
    let set = g.N.NameSet in
    let computation = g.C.Computation in
    let ops = on_bytes computation.operations in
    let v = c.args.self.now in
    let given = c.args.given.now in
    let below = ranged_stop given known.0 in
    let look = looked store set computation c.in_ok-row.ensures c.has_seen-seen.ensures n shows known.1 below in
    let took = same_took ops true (sym look.row_is) look.w_is (c.in-Ok.ensures look.seen_is) in
    let names-are = took_names ops true n.w given (n.row given.stop) _ _ took _ _ _ c.fallen-fell.ensures (ap length c.names.ensures) (ap length (c.names-before.ensures ∙ ap (λ (r : Row). r.names) look.row_is)) in
    let done = ap is_done (ap (λ b. considered ops b n.w given (n.row given.stop)) known.1 ∙ took.admitted) in
    let free = free_of store set computation 0 v c.commit.new.self in
    let kit = kit_of store set computation in
    told_by (cond-true _ _ _ done ∙ ap (λ (r : Row). commit_row kit free given.stop r n) (sym took.row))
    (rewrapped (λ a. Ok a)
    (c.commit.ensures n look.shows known.1 below names-are (took_fresh ops true n.w given (n.row given.stop) _ _ took) free refl look.commits))

pub returns-in-Err : goal.returns-in-Err
returns-in-Err g c = λ n shows known.
    let store = g.S.Store in
    let set = g.N.NameSet in
    let computation = g.C.Computation in
    let ops = on_bytes computation.operations in
    let v = c.args.self.now in
    let given = c.args.given.now in
    let look = looked store set computation c.in_ok-row.ensures c.has_seen-seen.ensures n shows known.1 (ranged_stop given known.0) in
    let refused = same_refused ops true (sym look.row_is) look.w_is (c.in-Err.ensures look.seen_is) in
    told_by
    (hand_in_refused (kit_of store set computation) (free_of store set computation 0 v c.has_seen-seen.new.self) given n _ (refused.answer ∙ ap (λ b. considered ops b n.w given (n.row given.stop)) (sym known.1)) refused.refused)
    (record { answer = refl; shows = look.shows })
