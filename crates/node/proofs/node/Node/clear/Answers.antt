use Rattle.std.proofs.Common.{◌≡◌, ◌<◌, true, Ok, sym, refl, ap, ◌∙◌, append-nil, rules}
use Rattle.std.proofs.lemmas.Bool.{cond-true, lt-ltb}
use Rattle.model.specs.Limits.{stops}
use Rattle.model.specs.Row.{Row}
use Rattle.law.specs.Node.{commit_row}
use Rattle.model.specs.Row.{cleared_row}
use Rattle.law.specs.Rows.{is_oldest}
use Rattle.node.specs.Shows.{kit_of, free_of}
use Rattle.node.proofs.Showing.{told_by, rewrapped, is_on}
use Rattle.node.proofs.node.Node.clear.Goals as goal

pub returns : goal.returns
returns g c = λ n shows.
    let store = g.S.Store in
    let set = g.N.NameSet in
    let computation = g.C.Computation in
    let v = c.args.self.now in
    let s = c.args.stop in
    let below : s < stops = search rules in
    let on = sym (is_on store set computation g.met.S.Store.turn_within v n shows) ∙ sym c.if-not-is_on.ensures in
    let read = c.in_ok-row.ensures in
    let row_is = read.row n shows on below in
    let oldest : is_oldest c.args.serial (n.row s).pending ≡ true = ap (λ (r : Row). is_oldest c.args.serial r.pending) (sym row_is) ∙ sym c.if-not-is_oldest.ensures in
    let New-is = c.clear_oldest.ensures ∙ ap cleared_row row_is in
    let free = free_of store set computation 0 v c.commit.new.self in
    let kit = kit_of store set computation in
    told_by (cond-true _ _ _ (lt-ltb s stops below) ∙ cond-true _ _ _ on ∙ cond-true _ _ _ oldest ∙ ap (λ (r : Row). commit_row kit free s r n) (sym New-is))
    (rewrapped (λ a. Ok a)
    (c.commit.ensures n (read.stays.shows n shows) on below (ap (λ (r : Row). r.names) New-is ∙ sym (append-nil _)) tt free refl (sym read.stays.commits)))
