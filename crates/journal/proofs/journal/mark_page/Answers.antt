-- The page is what its definition says.
use Rattle.std.proofs.Common.{refl}
use Rattle.journal.specs.Layout.{mark_page}
use Rattle.journal.proofs.journal.mark_page.Goals as goal

pub returns : goal.returns
unfolding mark_page
returns c = refl
