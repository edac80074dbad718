-- A record that is admitted may be taken.
use Rattle.std.proofs.Common.{◌≡◌, ℕ, ◌<◌, ◌≤◌, max, Bool, true, false, ltb, refl, arith}
use Rattle.std.proofs.lemmas.Bool.Decides.{nat_tests}
use Rattle.model.specs.Admission.{admission, judged}
use Rattle.model.specs.Computation.{Computation, Takes}
use Rattle.model.specs.Limits.{in_range, stops, last_time, most_amount}
use Rattle.model.specs.declared.record.Record.{Record}
use Rattle.model.specs.declared.answer.Answer.TheVariants.{Done}
use Rattle.model.specs.declared.answer.Verdict.{Verdict}
use Rattle.model.specs.declared.answer.Verdict.TheVariants.{TooEarly, TooMuch, Fine}

-- what every test has said where a record is admitted
pub record Passed (ranged on late seen : Bool) (v : Verdict) : Type 0 where
  pub ranged_is : ranged ≡ true
  pub on_is : on ≡ true
  pub late_is : late ≡ false
  pub seen_is : seen ≡ false
  pub fine : v ≡ Fine

no : {A : Type 0} → ◌≡◌ {A = ℕ} 0 1 → A
no e = absurd (omega arith)

pub passed : (ranged on late seen : Bool) (v : Verdict) → admission ranged on late seen v ≡ Done → Passed ranged on late seen v
passed false on late seen v e = no (cc)
passed true false late seen v e = no (cc)
passed true true true seen v e = no (cc)
passed true true false true v e = no (cc)
passed true true false false TooEarly e = no (cc)
passed true true false false TooMuch e = no (cc)
passed true true false false Fine e =
    record { ranged_is = refl; on_is = refl; late_is = refl; seen_is = refl; fine = refl }

pub record InRange (r : Record) : Type 0 where
  pub stop : r.stop < stops
  pub time : r.name.time ≤ last_time
  pub some : 0 < r.amount

pub is_in_range : (r : Record) → in_range r ≡ true → InRange r
is_in_range r e =
    record { stop = grind (arith, nat_tests); time = grind (arith, nat_tests); some = grind (arith, nat_tests) }

module _ {S : Type 0} (c : Computation S) (Sound : S → Type 0) where
  pub may_take
      : (s : S) (on : Bool) (w : ℕ) (seen : Bool) (r : Record)
      → Sound s
      → r.amount ≤ most_amount
      → judged c s on w seen r ≡ Done
      → Takes c Sound s w r.name.time r.amount
  may_take s on w seen r sound few e =
      let p = passed (in_range r) on (ltb r.name.time (max (c.mark s) w)) seen (c.verdict s w r.name.time r.amount) e in
      let q = is_in_range r p.ranged_is in
      let late : max (c.mark s) w ≤ r.name.time = grind (arith, nat_tests, p.late_is) in
      record {
        sound = sound;
        watermark = omega arith;
        time = q.time;
        some = q.some;
        few = few;
        past_mark = omega arith;
        past_watermark = omega arith;
        fine = p.fine;
      }
