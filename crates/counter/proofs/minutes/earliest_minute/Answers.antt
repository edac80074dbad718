use Rattle.std.proofs.Common.{◌≡◌, ◌/◌, ◌<◌, rules}
use borrow.Author.Tests.{tests}
use Rattle.std.proofs.lemmas.Iterator.{first_from_Range}
use Rattle.counter.specs.Counter.{sum_of}
use Rattle.counter.specs.Opened.{earliest_is, first_of}
use Rattle.counter.proofs.minutes.earliest_minute.Goals as goal

pub returns-clause-first : goal.returns-clause-first
returns-clause-first c =
    let s = c.args.state.now in
    first_of s (s.mark / 60) 4 c.find.result
    (first_from_Range
    _
    _
    _
    c.find.result
    (λ m. 0 < sum_of s m)
    (λ m. sum_of s m ≡ 0)
    c.find.ensures.ran
    (λ x q k. search (rules, tests))
    (λ x q k. search (rules, tests)))

pub returns-clause-value : goal.returns-clause-value
returns-clause-value c = earliest_is c.args.state.now (c.args.state.now.mark / 60) 4 c.find.result (returns-clause-first c)
