use Rattle.std.proofs.Common.{◌≡◌, true, false, rules, tests, sym, ◌∙◌}
use Rattle.std.proofs.lemmas.Iterator.{IsFirst-from_position, YieldsList-from_slice}
use Rattle.parser.specs.Fronts.{until}
use Rattle.parser.proofs.words.front.Goals as goal

pub returns-clause-value : goal.returns-clause-value
returns-clause-value g c = λ p k.
    let first = IsFirst-from_position _ _ _ (λ x. p x ≡ false) (λ x. p x ≡ true) c.position-other.ensures.ran
    (YieldsList-from_slice c.args.text.now cc) (λ x q e. search (rules, tests, k)) (λ x q e. search (rules, tests, k)) in
    c.unwrap_or.ensures ∙ sym (until p c.args.text.now _ first)
