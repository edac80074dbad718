use Rattle.std.proofs.Common.{◌∙◌, min, rules}
use Rattle.std.proofs.lemmas.Iterator.{YieldsList-from_slice}
use Rattle.std.proofs.lemmas.Iterator.Consumers.{fold_from_yields_List}
use Rattle.steps.proofs.Adding.{least_fold}
use Rattle.steps.proofs.sums.least_time.Goals as goal

pub returns : goal.returns
returns c =
    fold_from_yields_List _ (λ a p. min p.time a) c.args.low c.fold.result c.fold.ensures.ran (YieldsList-from_slice c.args.pending.now cc) (λ a x b q k. search rules)
    ∙ least_fold c.args.pending.now c.args.low
