-- The order of names taken at stops: by stop, then by time, then by serial, then by sender. Assumes nothing.
use Rattle.std.specs.Ordering.{nat_cmp, on, then_cmp}
use Rattle.std.specs.declared.cmp.Ordering.{Ordering}
use Rattle.names.specs.declared.taken.Taken.{Taken}

abbrev pub taken_cmp : Taken → Taken → Ordering
taken_cmp =
    then_cmp (on (λ p. p.stop) nat_cmp)
    (then_cmp (on (λ p. p.name.time) nat_cmp)
    (then_cmp (on (λ p. p.name.serial) nat_cmp) (on (λ p. p.name.sender) nat_cmp)))
