use Rattle.model.proofs.OnBytes.{totals_on_bytes}
use Rattle.computations.proofs.bytes.totals_on_bytes.Goals as goal

pub returns : goal.returns
returns g c = totals_on_bytes _ _ g.met.C.Computation.lawful _ g.met.C.Totalling.adds
