use Rattle.std.proofs.Common.{[], sym, refl, ◌∙◌, rules}
use Rattle.pair.specs.Making.{AtHome}
use Rattle.pair.proofs.pair.Pair.new.Goals as goal

pub returns : goal.returns
returns g c =
    let home : AtHome g.S.Store g.T.Store c.args.collector_store c.args.spotter_store = search rules in
    record {
      home = home;
      blank = λ b b'.
          let n = c.new.ensures.blank b in
          let m = c.new-2.ensures.blank b' in (
            record { collector = n.0; spotter = m.0; link = [] },
            record { collector = n.1; spotter = m.1; link = refl },
            record { collector = n.2; spotter = m.2; link = c.new-3.ensures },
          );
      kept = λ p rests. record {
        collector = c.new.ensures.kept p.collector rests.collector rests.collector_off;
        spotter = c.new-2.ensures.kept p.spotter rests.spotter rests.spotter_off;
        link = c.new-3.ensures ∙ sym rests.link;
      };
    }
