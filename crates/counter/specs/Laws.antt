-- The laws of a computation, and the law of weight, for the counter.
use Rattle.std.specs.Prelude.{◌≡◌, ℕ, refl}
use Rattle.std.proofs.Common.{arith}
use Rattle.model.specs.Computation.{Lawful, Conserves}
use Rattle.counter.specs.Counter.{counter, CounterSound, earliest, held}
use Rattle.counter.specs.Steps.{raised_rises, raised_bound, taken_sound, taken_upto, taken_held, closes, fired_due, fired_emits, fired_held}
use Rattle.counter.specs.Stored.{loaded_sound, stored_bytes, back}

pub counter_lawful : Lawful counter CounterSound
counter_lawful =
    record {
      take_mark_rises = λ s w t a h. raised_rises s w;
      take_mark_bound = λ s w t a b h x y z. raised_bound s w b x y;
      fire_mark_rises = λ s w d h. let c = (closes s w d h).1 in omega (arith, c.mark_is, c.ends, c.first.from, h.sound.minute);
      fire_mark_bound = λ s w d b h x y. omega (arith, (closes s w d h).1.mark_is);
      take_emits = λ s w t a e h x. let z : ◌≡◌ {A = ℕ} 0 1 = cc in absurd (omega arith);
      fire_emits = λ s w d e h. fired_emits s w d h e;
      take_due = λ s w t a b h x y. taken_upto s w t a h b (earliest _) refl x y;
      fire_due = λ s w d h. fired_due s w d h (earliest _) refl;
      take_sound = taken_sound;
      fire_sound = λ s w d h. (closes s w d h).1.sound;
      load_sound = loaded_sound;
      store_bytes = λ s h. stored_bytes s;
      reads_back = back;
      first_mark = refl;
      first_bytes = refl;
    }

pub counter_conserves : Conserves counter CounterSound held
counter_conserves =
    record { first = refl; take_conserves = taken_held; fire_conserves = fired_held }
