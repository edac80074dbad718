use Rattle.std.proofs.Common.{rules, ap, sym, subst, ◌∙◌}
use Rattle.model.specs.OnBytes.{on_bytes}
use Rattle.ledger.specs.Promises.{RowCommitted}
use Rattle.rows.specs.Meaning.{row_of}
use Rattle.upkeep.specs.Names.{Renamed}
use Rattle.node.specs.Shows.{kit_of}
use Rattle.node.proofs.Showing.{with_free, committed_done, committed_cut}
use Rattle.node.proofs.node.Node.commit.Goals as goal

pub returns-then-eq : goal.returns-then-eq
returns-then-eq g c = λ n shows on below names-are fresh free owed point.
    let store = g.S.Store in
    let set = g.N.NameSet in
    let v = c.args.self.now in
    let s = c.args.stop in
    let new = row_of c.args.row.now in
    let ops = on_bytes g.C.Computation.operations in
    let followed = c.follow.ensures in
    let owed-then = owed ∙ ap (λ x. (store.model x).power.owed) followed.store_is in
    let did = with_free free owed-then point (c.commit_row-answer.ensures ops free.wake) in
    let committed = subst (λ x. RowCommitted (kit_of store set g.C.Computation) free (store.model v.store) (store.model x) s new c.commit_row-answer.result) (sym followed.store_is) did in
    let renames = subst (λ x. Renamed (set.meaning v.names) (set.meaning x) s c.args.floor c.args.come) (sym followed.names_are) c.rename.ensures in
    committed_done store set g.C.Computation g.met.S.Store.turn_within v _ s new free n shows on below
    c.args.floor c.args.come names-are fresh _ committed (search rules) renames followed.due followed.shown followed.queue followed.watermark

pub returns-else-eq : goal.returns-else-eq
returns-else-eq g c = λ n shows on below names-are fresh free owed point.
    let did = with_free free owed point (c.commit_row-answer.ensures (on_bytes g.C.Computation.operations) free.wake) in
    committed_cut g.S.Store g.N.NameSet g.C.Computation g.met.S.Store.turn_within c.args.self.now _ c.args.stop (row_of c.args.row.now) free n shows on below _ did (search rules)
