use Rattle.sorted_names.proofs.Searching.{searched}
use Rattle.sorted_names.proofs.order.find.Goals as goal

pub returns : goal.returns
returns c =
    let found = c.binary_search.ensures in
    record { within = found.bound; finds = searched _ c.requires _ _ found.bound found.position }
