use Rattle.std.proofs.Common.{ℕ, Ok, sym, refl, ap, ◌∙◌}
use Rattle.law.specs.Node.{advance}
use Rattle.law.specs.Pair.{at_spotter, low_watermark}
use Rattle.node.proofs.Showing.{is_on, rewrapped}
use Rattle.pair.specs.Shows.{kits_of, spotter_free}
use Rattle.pair.specs.declared.pair.Pair.{Pair}
use Rattle.pair.proofs.Linking.{pass_advances}
use Rattle.pair.proofs.Telling.{ok_is, told_as, told_spotter}
use Rattle.pair.proofs.pair.Pair.pass.Goals as goal

pub returns : goal.returns
returns g c = λ p shows.
    let v = c.args.self.now in
    let v' : Pair _ _ _ _ _ _ = record { collector = c.low_watermark.new.self; spotter = c.advance.new.self; link = v.link } in
    let kits = kits_of g.S.Store g.N.NameSet g.C.Computation g.T.Store g.O.NameSet g.D.Computation in
    let free = spotter_free g.S.Store g.N.NameSet g.C.Computation g.T.Store g.O.NameSet g.D.Computation 0 v v' in
    let con = sym (is_on g.S.Store g.N.NameSet g.C.Computation g.met.S.Store.turn_within v.collector p.collector shows.collector) ∙ sym c.if-not-is_on.ensures in
    let son = sym (is_on g.T.Store g.O.NameSet g.D.Computation g.met.T.Store.turn_within v.spotter p.spotter shows.spotter) ∙ sym c.if-not-is_on-2.ensures in
    let found = c.in_ok-low.ensures in
    let low_is = ok_is c.in_ok-low.low (low_watermark kits p) (found.value p.collector shows.collector con) in
    told_as (pass_advances kits free p con son shows.collector.kept.watermark_fits ∙ ap (λ (t : ℕ). at_spotter (advance kits.spotter free t p.spotter) p) (sym low_is))
    (told_spotter g.S.Store g.N.NameSet g.C.Computation g.T.Store g.O.NameSet g.D.Computation c.low_watermark.new.self c.advance.new.self v.link p refl (rewrapped (λ a. Ok a) (c.advance.ensures p.spotter shows.spotter)) (found.stays.shows p.collector shows.collector) shows.link)
