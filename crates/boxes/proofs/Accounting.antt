-- The account of a script on two new boxes. Assumes nothing.
use Rattle.std.proofs.Common.{◌≡◌, IfErr, Ok, Err, Result, refl, ap}
use Rattle.stores.specs.Cards.{Medium}
use Rattle.journal.specs.Layout.{meaning}
use Rattle.shadow.specs.Layout.{meaning as shadow_meaning}
use Rattle.ledger.specs.Kept.{Blank}
use Rattle.pair.specs.declared.pair.Stopped.{Stopped}
use Rattle.pair.specs.declared.pair.Stopped.TheVariants.{NoMemory, Damaged}
use Rattle.boxes.specs.Parts.{JournalReady, ShadowReady}

-- an error that cannot be is none
pub only_memory : {X : Type 0} (r : Result X Stopped) {P : Type 0} → IfErr r (λ e. e ≡ Damaged → P) → (P → ⊥) → IfErr r (λ e. e ≡ NoMemory)
only_memory (Ok x) damage never = tt
only_memory (Err NoMemory) damage never = refl
only_memory (Err Damaged) damage never = absurd (never (damage refl))

-- formatted stores are blank
pub journal_blank : (m : Medium) → JournalReady m → Blank (meaning m)
journal_blank m ready = record { rows = ap (λ x. x.rows) ready.means; off = ap (λ x. x.power.on) ready.means }

pub shadow_blank : (m : Medium) → ShadowReady m → Blank (shadow_meaning m)
shadow_blank m ready = record { rows = ap (λ x. x.rows) ready.means; off = ap (λ x. x.power.on) ready.means }
