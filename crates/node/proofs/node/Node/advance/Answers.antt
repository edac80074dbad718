use Rattle.std.proofs.Common.{◌≡◌, ◌<◌, ◌≤◌, true, sym, ◌∙◌, arith, rules}
use Rattle.std.proofs.lemmas.Bool.{cond-true, cond-false, lt-leb, le-leb}
use Rattle.model.specs.Limits.{last_time}
use Rattle.model.specs.OnBytes.{on_bytes}
use Rattle.node.proofs.Showing.{told_by, is_on, advanced_done, advanced_cut}
use Rattle.node.proofs.node.Node.advance.Goals as goal

pub returns-then-eq : goal.returns-then-eq
returns-then-eq g c = λ n shows.
    let v = c.args.self.now in
    let store = g.S.Store in
    let small : c.args.time ≤ last_time = search rules in
    let store-on : (store.model v.store).power.on ≡ true = search rules in
    let past : v.watermark < c.args.time = search rules in
    let on = sym (is_on store g.N.NameSet g.C.Computation g.met.S.Store.turn_within v n shows) ∙ store-on in
    let did = c.commit_watermark-answer.ensures (on_bytes g.C.Computation.operations) (store.restart_cut v.store 0) in
    told_by (cond-true _ _ _ (le-leb c.args.time last_time small) ∙ cond-true _ _ _ on ∙ cond-false _ _ _ (lt-leb c.args.time n.w (omega (arith, (shows.follows on).watermark))))
    (advanced_done store g.N.NameSet g.C.Computation g.met.S.Store.turn_within v c.commit_watermark-answer.new.store c.args.time _ n shows on small _ did (search rules))

pub returns-else-eq : goal.returns-else-eq
returns-else-eq g c = λ n shows.
    let v = c.args.self.now in
    let store = g.S.Store in
    let small : c.args.time ≤ last_time = search rules in
    let store-on : (store.model v.store).power.on ≡ true = search rules in
    let past : v.watermark < c.args.time = search rules in
    let on = sym (is_on store g.N.NameSet g.C.Computation g.met.S.Store.turn_within v n shows) ∙ store-on in
    let did = c.commit_watermark-answer.ensures (on_bytes g.C.Computation.operations) (store.restart_cut v.store 0) in
    told_by (cond-true _ _ _ (le-leb c.args.time last_time small) ∙ cond-true _ _ _ on ∙ cond-false _ _ _ (lt-leb c.args.time n.w (omega (arith, (shows.follows on).watermark))))
    (advanced_cut store g.N.NameSet g.C.Computation g.met.S.Store.turn_within v c.commit_watermark-answer.new.store c.args.time _ n shows on small _ did (search rules))
