use Rattle.model.proofs.OnBytes.{lawful_on_bytes}
use Rattle.computations.proofs.bytes.lawful_on_bytes.Goals as goal

pub returns : goal.returns
returns g c = lawful_on_bytes _ _ g.met.C.Computation.lawful
