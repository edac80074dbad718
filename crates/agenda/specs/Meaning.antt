-- What the timers and the panel hold for each stop. Assumes nothing.
use Rattle.std.specs.Prelude.{ℕ, Option, nat_lt}
use Rattle.std.specs.Option.{option_map}
use Rattle.std.specs.declared.cmp.Ord.{Ghosts as OrdOf}
use Rattle.std.specs.declared.cmp.PartialEq.{Ghosts as PartialEqOf}
use Rattle.std.specs.declared.cmp.PartialOrd.{Ghosts as PartialOrdOf}
use Rattle.model.specs.FirstBest.{first_best}
use Rattle.model.specs.Limits.{stops}
use Rattle.model.specs.declared.record.Production.{Production}
use Rattle.agenda.specs.Slots.{held_below}
use Rattle.agenda.specs.declared.agenda.Agenda.{Agenda}
use Rattle.agenda.specs.declared.panel.Panel.{Panel}

-- when a stop is due, if it is
abbrev pub due_at : {order : OrdOf ℕ} {same : PartialEqOf ℕ} {part : PartialOrdOf ℕ} → Agenda ℕ order same part → ℕ → Option ℕ
due_at t = held_below t.slots

-- the earliest due with its stop, ties to the lowest stop
abbrev pub earliest : (ℕ → Option ℕ) → Option (ℕ × ℕ)
earliest at = first_best (λ d e. nat_lt d e) at stops

-- the production that a stop shows, if it shows one
abbrev pub shown_at : Panel → ℕ → Option Production
shown_at p q = option_map (λ o. o.production) (held_below p.offers.slots q)

-- the production with the greatest amount with its stop, ties to the lowest stop
abbrev pub greatest : (ℕ → Option Production) → Option (ℕ × Production)
greatest at = first_best (λ p q. nat_lt q.amount p.amount) at stops
