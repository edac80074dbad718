use Rattle.std.proofs.Common.{List, sym, ap, ◌∙◌}
use Rattle.std.specs.List.{remove, slice_get}
use Rattle.model.specs.declared.record.Message.{Message}
use Rattle.model.specs.declared.record.Message.TheVariants.{Acknowledged}
use Rattle.law.specs.Node.{Free}
use Rattle.law.specs.Pair.{with_link, deliver}
use Rattle.node.proofs.Showing.{is_on}
use Rattle.pair.specs.Shows.{kits_of, collector_free}
use Rattle.pair.specs.declared.pair.Pair.{Pair}
use Rattle.pair.proofs.Linking.{taken_out, deliver_word}
use Rattle.pair.proofs.Telling.{told_as, free_word, told_collector}
use Rattle.pair.proofs.pair.Pair.acknowledge.Goals as goal

pub returns : goal.returns
returns g c = λ stood p shows.
    let v = c.args.self.now in
    let place = c.args.place in
    let s = c.args.stop in
    let n = c.args.serial in
    let l = c.take_out.new.self in
    let v' : Pair _ _ _ _ _ _ = record { collector = c.clear.new.self; spotter = v.spotter; link = l } in
    let kits = kits_of g.S.Store g.N.NameSet g.C.Computation g.T.Store g.O.NameSet g.D.Computation in
    let free = collector_free g.S.Store g.N.NameSet g.C.Computation g.T.Store g.O.NameSet g.D.Computation 0 v v' in
    let on = sym (is_on g.S.Store g.N.NameSet g.C.Computation g.met.S.Store.turn_within v.collector p.collector shows.collector) ∙ sym c.if-not-is_on.ensures in
    let here = ap (λ (ms : List Message). slice_get ms place) (sym shows.link) ∙ stood in
    let gone = taken_out v.link l place (Acknowledged s n) stood c.take_out.ensures.messages in
    told_as (ap (λ (f : Free). deliver kits f place p) (free_word g.S.Store g.N.NameSet g.C.Computation g.T.Store g.O.NameSet g.D.Computation v v' place s n stood) ∙ deliver_word kits free place p s n here on)
    (told_collector g.S.Store g.N.NameSet g.C.Computation g.T.Store g.O.NameSet g.D.Computation c.clear.new.self v.spotter l (with_link (remove p.link place) p) c.map.ensures.cases
    (c.clear.ensures p.collector shows.collector) shows.spotter (gone ∙ ap (λ (ms : List Message). remove ms place) shows.link))
