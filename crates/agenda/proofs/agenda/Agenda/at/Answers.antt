use Rattle.std.proofs.Common.{ℕ, ◌<◌, get_or, None, sym, refl, ap, ◌∙◌, subst}
use Rattle.std.proofs.lemmas.Bool.{cond-true, eq-eqb}
use Rattle.model.specs.Limits.{stops}
use Rattle.agenda.specs.Slots.{held}
use Rattle.agenda.proofs.Holding.{held_of, has_at, held_absent}
use Rattle.agenda.proofs.Standing.{held_is}
use Rattle.agenda.proofs.agenda.Agenda.at.Goals as goal

pub returns : goal.returns
returns g c = λ below.
    let self = c.args.self.now in
    let xs = self.slots in
    let found = c.in_ok-at.ensures in
    let default = c.index-self-at.result in
    let x = get_or xs c.in_ok-at.at default in
    let stands = found.1 default in
    let low : x.stop < stops = subst (λ (s : ℕ). s < stops) (sym stands) below in
    let there = has_at xs c.in_ok-at.at default found.0 in
    sym (held_is xs c.args.stop below ∙ ap (held xs) (sym stands) ∙ held_of xs x (self.single.0 x.stop low) there)

pub returns-in_err-at : goal.returns-in_err-at
returns-in_err-at g c = λ below.
    let self = c.args.self.now in
    let absent = held_absent self.slots c.args.stop None c.in_err-at.ensures self.single c.args.stop below in
    c.from_residual.ensures ∙ sym (held_is self.slots c.args.stop below ∙ absent ∙ cond-true _ _ _ (eq-eqb c.args.stop c.args.stop refl))
