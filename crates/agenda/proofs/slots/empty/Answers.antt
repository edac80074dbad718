use Rattle.std.proofs.Common.{rules}
use Rattle.std.proofs.lemmas.List.FromFn.{fill_by_all}
use Rattle.model.specs.Limits.{stops}
use Rattle.agenda.specs.Slots.{empty_slot}
use Rattle.agenda.specs.declared.slot.Slot.{Slot}
use Rattle.agenda.proofs.slots.empty.Goals as goal

pub returns : goal.returns
returns g c =
    let d : Slot g.row.V.Denot = empty_slot 0 in
    let e = c.from_fn.ensures.items in
    fill_by_all (empty_slot {V = g.row.V.Denot}) c.from_fn.result stops d e.long
    (λ k l. let t = e.«at» k d l in let h = t.2 in search rules)
