-- A refusal leaves the store below, and so the whole.
use Rattle.std.proofs.Common.{refl}
use Rattle.cache.proofs.Same.{same}
use Rattle.cache.proofs.cached.CachedStore.restart.Goals as goal

pub returns-in_default-clause-refusal_changes_nothing : goal.returns-in_default-clause-refusal_changes_nothing
returns-in_default-clause-refusal_changes_nothing g c = λ r. same _ _ (c.restart-answer.ensures.refusal_changes_nothing r) refl
