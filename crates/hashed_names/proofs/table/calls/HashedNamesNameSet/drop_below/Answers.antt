use Rattle.std.proofs.Common.{sym, ap, subst, arith}
use Rattle.hashed_names.specs.Places.{slots_of}
use Rattle.hashed_names.specs.Rebuilding.{Rebuilt}
use Rattle.hashed_names.proofs.Keeping.{fewer}
use Rattle.hashed_names.proofs.table.calls.HashedNamesNameSet.drop_below.Goals as goal

pub invariant_of-self : goal.invariant_of-self
invariant_of-self c =
    let table = c.args.self.now in
    let left = subst (λ ys. Rebuilt (slots_of table.places) c.args.stop c.args.floor ys c.keep_into-self.result) (ap slots_of (sym c.swap.ensures.x_after)) c.keep_into-self.ensures in
    let less = fewer table.sound left in
    record { sound = ∣ left.sound ∣₁; few = omega (arith, less, table.few) }
