use Rattle.std.proofs.Common.{sym, ◌∙◌}
use mathlib.Core.Bool.{false≢true}
use Rattle.ledger.proofs.Blanks.{new_node, blank_new, blank_kept}
use Rattle.node.proofs.node.Node.new.Goals as goal

pub returns-clause-blank : goal.returns-clause-blank
returns-clause-blank g c = λ b.
    let s = g.S.Store.model c.args.store in
    (new_node s.power, blank_new s b, record { kept = blank_kept s b; follows = λ on. absurd (false≢true (sym b.off ∙ on)) })
