use Rattle.std.proofs.Common.{◌<◌, vec_len, sym, ◌∙◌, subst, arith}
use Rattle.std.proofs.lemmas.Bool.{cond-true}
use Rattle.sorted_names.specs.Order.{Climbs}
use Rattle.sorted_names.proofs.Climbing.{climbs_inserted, absent_lent, put_in}
use Rattle.sorted_names.proofs.table.calls.SortedNamesNameSet.add.Goals as goal

pub invariant_of-self : goal.invariant_of-self
invariant_of-self c =
    let table = c.args.self.now in
    let few : vec_len table.items < 1280 = omega (arith, c.len.ensures, table.few) in
    let done = c.insert.ensures.succeeds (omega (arith, few, table.roomy)) in
    let items = c.insert.ensures.items ∙ cond-true _ _ _ done in
    let len = c.insert.ensures.len ∙ cond-true _ _ _ done in
    record {
      roomy = omega (arith, c.insert.ensures.capacity, table.roomy);
      few = omega (arith, len, few);
      climbs = subst Climbs (sym items) (climbs_inserted _ _ _ _ table.climbs (absent_lent c.deref.ensures.value c.in-Err.ensures.finds));
    }

pub returns : goal.returns
returns c =
    let table = c.args.self.now in
    let few : vec_len table.items < 1280 = omega (arith, c.len.ensures, table.few) in
    let done = c.insert.ensures.succeeds (omega (arith, few, table.roomy)) in
    let items = c.insert.ensures.items ∙ cond-true _ _ _ done in
    let len = c.insert.ensures.len ∙ cond-true _ _ _ done in
    put_in (absent_lent c.deref.ensures.value c.in-Err.ensures.finds) items few len
