use Rattle.std.proofs.Common.{◌<◌, sym, ◌∙◌, arith}
use Rattle.model.specs.Limits.{stops}
use Rattle.node.proofs.Showing.{is_on}
use Rattle.pair.specs.Tallies.{measured}
use Rattle.pair.proofs.Telling.{ok_is}
use Rattle.pair.proofs.Tallying.{tally_told}
use Rattle.pair.proofs.pair.Pair.tally.Goals as goal

pub returns : goal.returns
returns g c =
    let v = c.args.self.now in
    let s = c.args.stop in
    let below : s < stops = omega arith in
    let held = c.in_ok-held.ensures in
    let pending = c.in_ok-pending.ensures in
    let landed = c.in_ok-landed.ensures in
    record {
      answer = λ p shows.
          let con = sym (is_on g.S.Store g.N.NameSet g.C.Computation g.met.S.Store.turn_within v.collector p.collector shows.collector) ∙ sym c.if-not-is_on.ensures in
          let son = sym (is_on g.T.Store g.O.NameSet g.D.Computation g.met.T.Store.turn_within v.spotter p.spotter shows.spotter) ∙ sym c.if-not-is_on-2.ensures in
          tally_told (measured g.C.Computation g.C.Conserving.holds) (measured g.D.Computation g.D.Totalling.totals) p s below con son
          (ok_is _ _ (held.value p.collector shows.collector (con, below)))
          (ok_is _ _ (pending.value p.collector (held.stays.shows p.collector shows.collector) (con, below)))
          (ok_is _ _ (landed.value p.spotter shows.spotter (son, below)));
      shows = λ p shows. record {
        collector = pending.stays.shows p.collector (held.stays.shows p.collector shows.collector);
        spotter = landed.stays.shows p.spotter shows.spotter;
        link = shows.link;
      };
    }
