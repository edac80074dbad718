use Rattle.std.proofs.Common.{length, refl, ap, ◌∙◌}
use Rattle.std.proofs.lemmas.List.FromFn.{length-map-range_with_len}
use Rattle.model.specs.Limits.{stops}
use Rattle.agenda.specs.Orders.{slot_total}
use Rattle.agenda.specs.Slots.{empty_slot}
use Rattle.agenda.proofs.Fresh.{empty_single, empty_heaped, empty_held}
use Rattle.agenda.proofs.Standing.{placed, none_below}
use Rattle.agenda.proofs.agenda.Agenda.new.Goals as goal

pub invariant_of-result : goal.invariant_of-result
invariant_of-result g c =
    let xs = c.empty.result in
    let is = c.empty.ensures in
    record {
      sized = ap length is ∙ length-map-range_with_len (empty_slot {V = g.row.V.Denot}) 0 stops;
      heaped = λ o. placed (slot_total o) xs (empty_heaped g.row.V.Denot o stops xs is);
      single = empty_single g.row.V.Denot stops xs refl is;
    }

pub returns : goal.returns
returns g c = λ s. none_below c.empty.result s (empty_held g.row.V.Denot stops c.empty.result s c.empty.ensures)
