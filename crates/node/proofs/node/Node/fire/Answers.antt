use Rattle.std.proofs.Common.{◌≡◌, ℕ, ◌≤◌, ltb, leb, None, Option, sym, refl, ap, ◌∙◌, arith}
use Rattle.std.proofs.lemmas.Bool.{cond-true, leb-true}
use Rattle.model.specs.OnBytes.{on_bytes}
use Rattle.model.specs.Limits.{stops}
use Rattle.agenda.specs.Meaning.{due_at, earliest as earliest_of}
use Rattle.law.specs.Node.{fire_due}
use Rattle.law.specs.Stops.{earliest}
use Rattle.law.proofs.Best.{earliest_due}
use Rattle.node.specs.Promises.{due_by}
use Rattle.node.specs.Shows.{kit_of, free_of}
use Rattle.agenda.proofs.Choosing.{best_same}
use Rattle.node.proofs.Judging.{nothing_due, some_due}
use Rattle.node.proofs.Showing.{told_by, is_on}
use Rattle.node.proofs.node.Node.fire.Goals as goal

pub returns-in-Some : goal.returns-in-Some
returns-in-Some g c = λ n shows.
    let store = g.S.Store in
    let set = g.N.NameSet in
    let computation = g.C.Computation in
    let ops = on_bytes computation.operations in
    let v = c.args.self.now in
    let on = sym (is_on store set computation g.met.S.Store.turn_within v n shows) ∙ sym c.if-not-is_on.ensures in
    let f = shows.follows on in
    let best = best_same (λ (d e : ℕ). ltb d e) (due_at v.timers) (λ s. ops.due (n.row s).state) stops f.due in
    let due = some_due v.watermark c.in-Some.stop (earliest_of (due_at v.timers)) (sym c.in-Some.ensures) in
    let first = sym best ∙ due.1 in
    let there = earliest_due ops n.row (c.in-Some.stop, due.0) first in
    let reached : due.0 ≤ n.w = omega (arith, leb-true due.0 v.watermark due.2, f.watermark) in
    let kit = kit_of store set computation in
    let free = free_of store set computation 0 v c.fire_stop.new.self in
    told_by (cond-true _ _ _ on ∙ ap (λ (o : Option (ℕ × ℕ)). fire_due kit free o n) first ∙ cond-true _ _ _ (ap (λ (w : ℕ). leb due.0 w) (sym f.watermark) ∙ due.2))
    (c.fire_stop.ensures n shows (on, there.0, record { due = due.0; due_is = there.1; reached = reached; watermark = shows.kept.watermark_fits }))

pub returns-in-None : goal.returns-in-None
returns-in-None g c = λ n shows.
    let store = g.S.Store in
    let set = g.N.NameSet in
    let computation = g.C.Computation in
    let ops = on_bytes computation.operations in
    let v = c.args.self.now in
    let on = sym (is_on store set computation g.met.S.Store.turn_within v n shows) ∙ sym c.if-not-is_on.ensures in
    let f = shows.follows on in
    let best = best_same (λ (d e : ℕ). ltb d e) (due_at v.timers) (λ s. ops.due (n.row s).state) stops f.due in
    let none : due_by n.w (earliest ops n.row) ≡ None =
    ap (λ (w : ℕ). due_by w (earliest ops n.row)) (sym f.watermark) ∙ ap (due_by v.watermark) (sym best) ∙ sym c.in-None.ensures in
    told_by (cond-true _ _ _ on ∙ nothing_due (kit_of store set computation) (free_of store set computation 0 v v) n (earliest ops n.row) none) (record { answer = refl; shows = shows })
