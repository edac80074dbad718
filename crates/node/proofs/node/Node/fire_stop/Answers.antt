use Rattle.std.proofs.Common.{Ok, sym, refl, ap, ◌∙◌}
use Rattle.std.proofs.lemmas.Bool.{cond-true, cond-false}
use Rattle.model.specs.OnBytes.{on_bytes}
use Rattle.model.specs.Row.{Row}
use Rattle.model.specs.declared.answer.Answer.{Answer}
use Rattle.law.specs.Node.{commit_row}
use Rattle.model.specs.Answers.{is_done}
use Rattle.model.specs.Row.{room_for_one}
use Rattle.node.specs.Shows.{kit_of, free_of}
use Rattle.node.proofs.Judging.{undone, fired_names}
use Rattle.node.proofs.Showing.{told_by, rewrapped}
use Rattle.node.proofs.Taking.{same_fired, same_reached}
use Rattle.node.proofs.node.Node.fire_stop.Goals as goal

pub returns-in-Ok : goal.returns-in-Ok
returns-in-Ok g c = λ n shows known.
    let store = g.S.Store in
    let set = g.N.NameSet in
    let computation = g.C.Computation in
    let ops = on_bytes computation.operations in
    let v = c.args.self.now in
    let s = c.args.stop in
    let read = c.in_ok-row.ensures in
    let row_is = read.row n shows known.0 known.1 in
    let Shows-then = read.stays.shows n shows in
    let w-is = (Shows-then.follows known.0).watermark in
    let fired = same_fired ops (sym row_is) w-is (c.in-Ok.ensures (same_reached ops (sym row_is) w-is known.2)) in
    let free = free_of store set computation 0 v c.commit.new.self in
    let kit = kit_of store set computation in
    told_by (cond-true _ _ _ (ap is_done fired.room) ∙ ap (λ (r : Row). commit_row kit free s r n) (sym fired.row))
    (rewrapped (λ a. Ok a)
    (c.commit.ensures n Shows-then known.0 known.1 (fired_names ops n.w (n.row s) _ _ fired) tt free refl (sym read.stays.commits)))

pub returns-in-Err : goal.returns-in-Err
returns-in-Err g c = λ n shows known.
    let ops = on_bytes g.C.Computation.operations in
    let s = c.args.stop in
    let read = c.in_ok-row.ensures in
    let row_is = read.row n shows known.0 known.1 in
    let Shows-then = read.stays.shows n shows in
    let w-is = (Shows-then.follows known.0).watermark in
    let refused = c.in-Err.ensures (same_reached ops (sym row_is) w-is known.2) in
    let same = refused.answer ∙ ap room_for_one row_is in
    told_by (cond-false _ _ _ (ap is_done (sym same) ∙ undone _ refused.refused))
    (record { answer = ap (λ (a : Answer). Ok a) same; shows = Shows-then })
