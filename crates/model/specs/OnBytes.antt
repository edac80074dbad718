-- A computation on the 32 bytes of its state, as a row holds them: load, act, store. Assumes nothing.
use Rattle.std.specs.Prelude.{ℕ, List}
use Rattle.model.specs.Computation.{Computation}

abbrev pub on_bytes : {S : Type 0} → Computation S → Computation (List ℕ)
on_bytes c = record {
  mark = λ bs. c.mark (c.load bs);
  due = λ bs. c.due (c.load bs);
  verdict = λ bs w t a. c.verdict (c.load bs) w t a;
  take = λ bs w t a. (c.store (c.take (c.load bs) w t a).0, (c.take (c.load bs) w t a).1);
  fire = λ bs. (c.store (c.fire (c.load bs)).0, (c.fire (c.load bs)).1);
  store = λ bs. bs;
  load = λ bs. bs;
}
