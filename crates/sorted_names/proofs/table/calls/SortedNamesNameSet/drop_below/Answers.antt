use Rattle.std.proofs.Common.{length, sym, ap, ◌∙◌, subst, arith}
use Rattle.names.specs.Held.{listed}
use Rattle.sorted_names.specs.Order.{Climbs}
use Rattle.sorted_names.proofs.Climbing.{splits_lent, climbs_closed}
use Rattle.sorted_names.proofs.Dropping.{closed_holds, closed_short, in_turn}
use Rattle.sorted_names.proofs.table.calls.SortedNamesNameSet.drop_below.Goals as goal

pub invariant_of-self : goal.invariant_of-self
invariant_of-self c =
    let table = c.args.self.now in
    let low = splits_lent c.deref.ensures.value c.first_at.ensures c.place_of-from.ensures in
    let high = splits_lent c.deref-2.ensures.value c.first_at-2.ensures c.place_of-to.ensures in
    let items = c.close_gap.ensures.items in
    record {
      roomy = omega (arith, c.close_gap.ensures.room, table.roomy);
      few =
          let fewer = closed_short _ _ _ _ _ low high in
          let size = ap length items in
          omega (arith, fewer, size, c.close_gap.new.items.ok.0, table.items.ok.0, table.few);
      climbs = subst Climbs (sym items) (climbs_closed _ _ _ (in_turn _ _ _ _ _ low high) high.within table.climbs);
    }

pub returns : goal.returns
returns c =
    let low = splits_lent c.deref.ensures.value c.first_at.ensures c.place_of-from.ensures in
    let high = splits_lent c.deref-2.ensures.value c.first_at-2.ensures c.place_of-to.ensures in
    record { held = ap listed c.close_gap.ensures.items ∙ closed_holds _ _ _ _ _ low high (in_turn _ _ _ _ _ low high) }
