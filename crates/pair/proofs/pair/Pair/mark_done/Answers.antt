use Rattle.pair.proofs.Telling.{told_spotter}
use Rattle.pair.proofs.pair.Pair.mark_done.Goals as goal

pub returns : goal.returns
returns g c = λ p shows.
    told_spotter g.S.Store g.N.NameSet g.C.Computation g.T.Store g.O.NameSet g.D.Computation c.args.self.now.collector c.clear.new.self c.args.self.now.link p c.map.ensures.cases (c.clear.ensures p.spotter shows.spotter) shows.collector shows.link
