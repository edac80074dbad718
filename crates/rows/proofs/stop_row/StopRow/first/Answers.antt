use Rattle.std.proofs.Common.{replicate, refl}
use Rattle.rows.specs.Layout.{encoded, padded}
use Rattle.rows.proofs.stop_row.StopRow.first.Goals as goal

pub returns : goal.returns
unfolding encoded padded
returns c =
    record {
      row = λ k. record { next = 0; state = replicate 32 0; pending = c.new.ensures k; names = c.new-2.ensures k };
      zeros = refl;
    }
