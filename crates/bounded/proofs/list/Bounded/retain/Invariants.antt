use Rattle.std.proofs.Common.{◌≡◌, Bool, filter, take}
use Rattle.std.specs.Fn.{FnReturnsAt}
use Rattle.bounded.specs.Lists.{listed}
use Rattle.bounded.proofs.list.Bounded.retain.Given as goal

abbrev pub invariant-loop-old : goal.invariant-loop-old
invariant-loop-old g l =
    (test : g.row.T.Denot → Bool) → ((x : g.row.T.Denot) (b : Bool) → FnReturnsAt g.F.Fn l.fn.keep x b → b ≡ test x) →
    listed l.self ≡ filter test (take l.old-index l.old-items)
