use Rattle.std.proofs.Common.{ltb, List, length, sym, refl, ap, ◌∙◌}
use Rattle.std.proofs.lemmas.Bool.{cond-true, cond-false, lt-ltb, le-ltb}
use Rattle.std.proofs.lemmas.Option.{slice_get_within}
use Rattle.std.specs.List.{remove}
use Rattle.model.specs.declared.record.Message.{Message}
use Rattle.link.specs.Carried.{carried}
use Rattle.pair.proofs.Linking.{taken_out, nothing_there}
use Rattle.pair.proofs.Telling.{told_as}
use Rattle.pair.proofs.pair.Pair.lose.Goals as goal

pub returns-in-Some : goal.returns-in-Some
returns-in-Some g c = λ p shows.
    let link = c.args.self.now.link in
    let place = c.args.place in
    let stood = sym c.in-Some.ensures.message in
    let inside = lt-ltb place _ (slice_get_within (carried link) place _ stood) in
    told_as (cond-true _ _ _ (ap (λ (ms : List Message). ltb place (length ms)) (sym shows.link) ∙ inside))
    (record {
      outcome = refl;
      shows = record { collector = shows.collector; spotter = shows.spotter; link = taken_out link c.take_out.new.self place _ stood c.in-Some.ensures.messages ∙ ap (λ (ms : List Message). remove ms place) shows.link };
    })

pub returns-in-None : goal.returns-in-None
returns-in-None g c = λ p shows.
    let link = c.args.self.now.link in
    let place = c.args.place in
    let past = le-ltb place _ (nothing_there (carried link) place (sym c.in-None.ensures.message)) in
    told_as (cond-false _ _ _ (ap (λ (ms : List Message). ltb place (length ms)) (sym shows.link) ∙ past))
    (record {
      outcome = refl;
      shows = record { collector = shows.collector; spotter = shows.spotter; link = c.in-None.ensures.messages ∙ cond-false _ _ _ past ∙ shows.link };
    })
