use Rattle.std.proofs.Common.{List, [], ◌∷◌, ◌++◌, sym, ap, ◌∙◌}
use Rattle.std.specs.List.{remove}
use Rattle.model.specs.declared.record.Message.{Message}
use Rattle.model.specs.declared.record.Message.TheVariants.{Produced, Acknowledged}
use Rattle.node.proofs.Showing.{is_on}
use Rattle.pair.proofs.Linking.{taken_out, then_added, reply_yes, reply_no}
use Rattle.pair.proofs.Telling.{told_landing}
use Rattle.pair.proofs.pair.Pair.land.Goals as goal

pub returns-then-is_known : goal.returns-then-is_known
returns-then-is_known g c = λ stood p shows.
    let v = c.args.self.now in
    let place = c.args.place in
    let s = c.args.stop in
    let x = c.args.production in
    let on = sym (is_on g.T.Store g.O.NameSet g.D.Computation g.met.T.Store.turn_within v.spotter p.spotter shows.spotter) ∙ sym c.if-not-is_on.ensures in
    let link =
    then_added v.link c.take_out.new.self place (Produced s x) stood c.take_out.ensures.messages c.add.new.self (Acknowledged s x.serial) c.add.ensures.messages
    ∙ ap (λ (ms : List Message). remove ms place ++ (Acknowledged s x.serial ∷ [])) shows.link
    ∙ reply_yes s x.serial c.in_ok-answer.answer (remove p.link place) (sym c.is_known.ensures ∙ c.if-is_known.true) in
    told_landing g.S.Store g.N.NameSet g.C.Computation g.T.Store g.O.NameSet g.D.Computation v c.hand_in.new.self c.add.new.self place s x p stood shows on c.as_record.ensures (c.in_ok-answer.ensures p.spotter shows.spotter) link

pub returns-else-is_known : goal.returns-else-is_known
returns-else-is_known g c = λ stood p shows.
    let v = c.args.self.now in
    let place = c.args.place in
    let s = c.args.stop in
    let x = c.args.production in
    let on = sym (is_on g.T.Store g.O.NameSet g.D.Computation g.met.T.Store.turn_within v.spotter p.spotter shows.spotter) ∙ sym c.if-not-is_on.ensures in
    let link =
    taken_out v.link c.take_out.new.self place (Produced s x) stood c.take_out.ensures.messages
    ∙ ap (λ (ms : List Message). remove ms place) shows.link
    ∙ reply_no s x.serial c.in_ok-answer.answer (remove p.link place) (sym c.is_known.ensures ∙ c.if-is_known.false) in
    told_landing g.S.Store g.N.NameSet g.C.Computation g.T.Store g.O.NameSet g.D.Computation v c.hand_in.new.self c.take_out.new.self place s x p stood shows on c.as_record.ensures (c.in_ok-answer.ensures p.spotter shows.spotter) link
