use Rattle.std.proofs.Common.{sym, ◌∙◌, rules, tests}
use Rattle.std.proofs.lemmas.Iterator.{YieldsList-from_slice}
use Rattle.std.proofs.lemmas.Iterator.Search.{any_from_yields_List}
use Rattle.hashed_names.specs.Places.{slots_of}
use Rattle.hashed_names.proofs.Keeping.{goes, all_stay}
use Rattle.hashed_names.proofs.places.Places.has_below.Goals as goal

pub returns : goal.returns
returns c = λ none.
    all_stay (slots_of c.args.self.now) c.args.stop c.args.floor
    (sym (any_from_yields_List (goes c.args.stop c.args.floor) _ _ c.any.result c.any.ensures.ran (YieldsList-from_slice (slots_of c.args.self.now) cc) (λ x b q k. search (rules, tests))) ∙ none)
