use Rattle.std.proofs.Common.{leb, List, [], ◌∷◌, ◌++◌, length, sym, refl, ap, ◌∙◌}
use Rattle.model.specs.Limits.{most_messages}
use Rattle.model.specs.declared.record.Message.{Message}
use Rattle.model.specs.declared.record.Message.TheVariants.{Produced}
use Rattle.node.proofs.Showing.{is_on}
use Rattle.pair.proofs.Linking.{added}
use Rattle.pair.proofs.Sending.{send_none, send_full, send_head_lem, head_below}
use Rattle.pair.proofs.Telling.{told_as, told_same}
use Rattle.pair.proofs.pair.Pair.send.Goals as goal

pub returns-in_default : goal.returns-in_default
returns-in_default g c = λ p shows.
    let v = c.args.self.now in
    let on = sym (is_on g.S.Store g.N.NameSet g.C.Computation g.met.S.Store.turn_within v.collector p.collector shows.collector) ∙ sym c.if-not-is_on.ensures in
    let head = sym (c.in_default.ensures p.collector shows.collector on) in
    told_as (send_none p on (shows.collector.follows on).queued head) (told_same g.S.Store g.N.NameSet g.C.Computation g.T.Store g.O.NameSet g.D.Computation shows)

pub returns-then-is_full : goal.returns-then-is_full
returns-then-is_full g c = λ p shows.
    let v = c.args.self.now in
    let on = sym (is_on g.S.Store g.N.NameSet g.C.Computation g.met.S.Store.turn_within v.collector p.collector shows.collector) ∙ sym c.if-not-is_on.ensures in
    let head = sym (c.in-Some.ensures p.collector shows.collector on) in
    let full = ap (λ (ms : List Message). leb most_messages (length ms)) (sym shows.link) ∙ sym c.is_full.ensures ∙ c.if-is_full.true in
    told_as (send_full p on (shows.collector.follows on).queued c.in-Some.stop head full) (told_same g.S.Store g.N.NameSet g.C.Computation g.T.Store g.O.NameSet g.D.Computation shows)

pub returns : goal.returns
returns g c = λ p shows.
    let v = c.args.self.now in
    let on = sym (is_on g.S.Store g.N.NameSet g.C.Computation g.met.S.Store.turn_within v.collector p.collector shows.collector) ∙ sym c.if-not-is_on.ensures in
    let queued = (shows.collector.follows on).queued in
    let head = sym (c.in-Some.ensures p.collector shows.collector on) in
    let room = sym c.is_full.ensures ∙ c.if-is_full.false in
    let below = head_below p on queued c.in-Some.stop head in
    let joins = added v.link c.add.new.self _ room c.add.ensures.messages in
    told_as (send_head_lem p on queued c.in-Some.stop _ head (ap (λ (ms : List Message). leb most_messages (length ms)) (sym shows.link) ∙ room) (sym (c.in-Some-oldest.ensures p.collector shows.collector on below)))
    (record {
      outcome = refl;
      shows = record { collector = c.turn.ensures p.collector shows.collector; spotter = shows.spotter; link = joins ∙ ap (λ (ms : List Message). ms ++ (Produced c.in-Some.stop c.in-Some-oldest.production ∷ [])) shows.link };
    })
