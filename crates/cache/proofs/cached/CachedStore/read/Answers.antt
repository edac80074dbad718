-- A refusal leaves the store below, and so the whole.
use Rattle.std.proofs.Common.{refl}
use Rattle.cache.proofs.Same.{same}
use Rattle.cache.proofs.cached.CachedStore.read.Goals as goal

pub returns-after-out-eq512-2-clause-refusal_changes_nothing : goal.returns-after-out-eq512-2-clause-refusal_changes_nothing
returns-after-out-eq512-2-clause-refusal_changes_nothing g c = λ r. same _ _ (c.read-answer.ensures.refusal_changes_nothing r) refl
