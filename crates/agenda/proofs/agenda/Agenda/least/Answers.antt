use Rattle.std.proofs.Common.{sym, ◌∙◌}
use Rattle.std.specs.List.{ContainsAt as Has}
use Rattle.std.specs.Ordering.{is_lt}
use Rattle.agenda.specs.Orders.{slot_total}
use Rattle.agenda.proofs.Choosing.{first_some, first_none}
use Rattle.agenda.proofs.Standing.{heaped, first_below}
use Rattle.agenda.proofs.agenda.Agenda.least.Goals as goal

pub returns : goal.returns
returns g c =
    let self = c.args.self.now in
    let o = g.met.V.Ord.total in
    let t = c.in_ok-slot.slot.now in
    let e = c.in_ok-slot.ensures in
    let has : Has self.slots t = (0, e.item.3.0, λ d. sym (e.item.3.1 d)) in
    let least = e.least (slot_total o) (heaped (slot_total o) self.slots (self.heaped o)) in
    sym (first_some o self.slots self.single t has least _ c.in_ok-slot-2.was) ∙ first_below (λ x y. is_lt (g.V.Ord.cmp x y)) self.slots

pub returns-in_err-slot-2 : goal.returns-in_err-slot-2
returns-in_err-slot-2 g c =
    let self = c.args.self.now in
    let o = g.met.V.Ord.total in
    let t = c.in_ok-slot.slot.now in
    let e = c.in_ok-slot.ensures in
    let has : Has self.slots t = (0, e.item.3.0, λ d. sym (e.item.3.1 d)) in
    let least = e.least (slot_total o) (heaped (slot_total o) self.slots (self.heaped o)) in
    c.from_residual-in_err-slot-2.ensures ∙ sym (first_none o self.slots self.single t has least c.in_err-slot-2.was) ∙ first_below (λ x y. is_lt (g.V.Ord.cmp x y)) self.slots
