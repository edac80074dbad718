use Rattle.std.proofs.Common.{refl}
use Rattle.ledger.proofs.Keeping.{row_committed}
use Rattle.rows.specs.Layout.{encoded}
use Rattle.rows.specs.Meaning.{row_of}
use Rattle.ledger.proofs.stop_rows.commit_row.Goals as goal

pub returns : goal.returns
returns g c = λ computation wake.
    let did = rw c.from.ensures at c.commit.ensures.commits in
    let new = row_of c.args.row.now in
    let both = row_committed (record { computation = computation; cost = g.S.Store.cost; turn = g.S.Store.turn }) (record { owed = (g.S.Store.model c.commit.new.store).power.owed; point = g.S.Store.commit_cut c.args.store.now; wake = wake }) _ _ _ (encoded new) _ new (record { encodes = refl; fits = c.commit.ensures.fits }) c.commit.ensures.size did.answer did.means in
    record { answer = λ n k on within. (both n k on within).0; kept = λ n k on within. (both n k on within).1 }
