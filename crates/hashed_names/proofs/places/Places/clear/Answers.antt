use Rattle.std.proofs.Common.{replicate, None, ap, ◌∙◌, rules}
use Rattle.hashed_names.proofs.places.Places.clear.Goals as goal

pub returns : goal.returns
returns c = c.fill.ensures.items (λ y e. search rules) ∙ ap (λ n. replicate n None) c.args.self.now.long
