use Rattle.std.proofs.Common.{map, take, ap, ◌∙◌, arith, rules}
use borrow.Author.Tests.{tests}
use Rattle.std.proofs.lemmas.Iterator.{YieldsList-from_slice, YieldsList-from_take, YieldsList-from_map}
use Rattle.std.proofs.lemmas.Iterator.Adapters.{fits_from_length, at_most_from_yields_List}
use Rattle.std.proofs.lemmas.Iterator.Consumers.{YieldsList-at, sum_from_yields_List}
use Rattle.std.proofs.lemmas.List.{length-take}
use Rattle.model.specs.declared.record.Production.{Production}
use Rattle.law.specs.Lists.{total}
use Rattle.steps.proofs.Adding.{total_sum}
use Rattle.steps.proofs.sums.pending_amount.Goals as goal

pub sum-requires-clause-fits : goal.sum-requires-clause-fits
sum-requires-clause-fits c =
    fits_from_length _ _ 4 _
    (at_most_from_yields_List (YieldsList-at c.map.ensures.source (YieldsList-from_take 4 (YieldsList-at c.take.ensures.source (YieldsList-from_slice c.pending.result.now cc)) c.take.ensures.count)) (rw length-take (omega arith)))
    c.map.ensures.closure (omega arith) (λ x r q k. search (rules, tests))

pub returns : goal.returns
returns c =
    sum_from_yields_List c.map.result c.sum.result c.sum.ensures.ran
    (YieldsList-from_map _ (λ (p : Production). p.amount)
    (YieldsList-at c.map.ensures.source (YieldsList-from_take 4 (YieldsList-at c.take.ensures.source (YieldsList-from_slice c.pending.result.now cc)) c.take.ensures.count))
    c.map.ensures.closure (λ x r q k. search (rules, tests)))
    ∙ total_sum (map (λ (p : Production). p.amount) (take 4 c.pending.result.now))
    ∙ ap (λ ps. total (map (λ (p : Production). p.amount) (take 4 ps))) c.pending.ensures
