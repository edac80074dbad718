use Rattle.model.proofs.OnBytes.{conserves_on_bytes}
use Rattle.computations.proofs.bytes.conserves_on_bytes.Goals as goal

pub returns : goal.returns
returns g c = conserves_on_bytes _ _ g.met.C.Computation.lawful _ g.met.C.Conserving.conserves
