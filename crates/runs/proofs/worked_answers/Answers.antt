use Rattle.std.proofs.Common.{rules}
use Rattle.runs.proofs.Played.{worked}
use Rattle.runs.proofs.worked_answers.Goals as goal

pub returns : goal.returns
returns c = record { plays = worked; answers = search rules }
