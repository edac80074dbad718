use Rattle.std.proofs.Common.{List, set, ◌∙◌}
use Rattle.agenda.specs.Orders.{slot_total}
use Rattle.agenda.specs.declared.slot.Slot.{Slot}
use Rattle.agenda.proofs.Holding.{single_shuffled, held_shuffled, single_set, held_set, held_absent}
use Rattle.agenda.proofs.Standing.{placed, heaped, changed_below}
use Rattle.agenda.proofs.agenda.Agenda.set.Goals as goal

pub invariant_of-self : goal.invariant_of-self
invariant_of-self g c =
    let self = c.args.self.now in
    let at = c.in-Some.at in
    let found = c.in-Some.ensures in
    let e = c.change_at.ensures in
    record {
      sized = c.change_at.auto.items ∙ self.sized;
      heaped = λ o. placed (slot_total o) c.change_at.new.items (e.heaped (slot_total o) (heaped (slot_total o) self.slots (self.heaped o)));
      single = single_shuffled _ c.change_at.new.items e.shuffled (single_set self.slots at c.args.stop _ found.0 found.1 self.single);
    }

pub returns-in-Some : goal.returns-in-Some
returns-in-Some g c =
    let xs = c.args.self.now.slots in
    let ys = c.change_at.new.items in
    let at = c.in-Some.at in
    let found = c.in-Some.ensures in
    let mid : List (Slot g.row.V.Denot) = set xs at (record { value = c.args.value; stop = c.args.stop }) in
    let one = single_set xs at c.args.stop c.args.value found.0 found.1 c.args.self.now.single in
    changed_below xs ys c.args.stop c.args.value
    (λ q l. held_shuffled mid ys c.change_at.ensures.shuffled one q l ∙ held_set xs at c.args.stop c.args.value found.0 found.1 c.args.self.now.single q l)

pub returns-in_default : goal.returns-in_default
returns-in_default g c =
    let self = c.args.self.now in
    changed_below self.slots self.slots c.args.stop c.args.value (held_absent self.slots c.args.stop c.args.value c.in_default.ensures self.single)
