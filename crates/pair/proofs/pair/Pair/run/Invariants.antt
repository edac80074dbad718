use Rattle.std.proofs.Common.{◌≡◌, ◌≤◌, length, take, vec_items, vec_len, vec_capacity}
use Rattle.pair.specs.Runs.{Ran}
use Rattle.pair.proofs.pair.Pair.run.Given as goal

abbrev pub invariant-loop-call : goal.invariant-loop-call
invariant-loop-call g l =
    (vec_len l.outcomes ≡ l.call-index)
    × (length l.calls ≤ vec_capacity l.outcomes)
    × Ran g.S.Store g.N.NameSet g.C.Computation g.T.Store g.O.NameSet g.D.Computation l.initial.self (take l.call-index l.calls) (vec_items l.outcomes) l.self
