-- The lines of the stops, one after another. Assumes nothing.
use Rattle.std.proofs.Common.{◌≡◌, ℕ, suc, ◌+◌, [], ◌++◌, Option, refl, ap, ◌∙◌, add-one}
use Rattle.pair.specs.declared.pair.Tally.{Tally}
use Rattle.replay.specs.Stops.{tally_line, stops_below}

pub none_below : (f : ℕ → Option Tally) → stops_below f 0 ≡ []
unfolding stops_below
none_below f = refl

at_next : (f : ℕ → Option Tally) (n : ℕ) → stops_below f (suc n) ≡ stops_below f n ++ tally_line n (f n)
unfolding stops_below
at_next f n = refl

pub one_more : (f : ℕ → Option Tally) (n : ℕ) → stops_below f (n + 1) ≡ stops_below f n ++ tally_line n (f n)
one_more f n = ap (stops_below f) (add-one n) ∙ at_next f n
