-- The laws of a computation, and the law of weight, for the detector.
use Rattle.std.specs.Prelude.{◌≡◌, ℕ, suc, ◌+◌, ◌-◌, ◌*◌, ◌/◌, ◌<◌, ◌≤◌, min, Bool, true, false, cond, List, ◌++◌, replicate, ℤ, pos, negsuc, ◌+ℤ◌, ◌-ℤ◌, neg_ℤ, Some, None, int_div, slice_index, unsigned_abs, refl}
use Rattle.std.proofs.Common.{ap, subst, ◌∙◌, inl, inr, arith}
use Rattle.std.proofs.lemmas.Int.{ints}
use Rattle.std.proofs.lemmas.Bool.Decides.{nat_tests, leb_tells}
use Rattle.model.specs.Computation.{Lawful, Totals, Takes, Fires, Emits, StateBytes}
use Rattle.model.specs.Limits.{last_time, most_amount}
use Rattle.model.specs.declared.answer.Verdict.TheVariants.{Fine}
use Rattle.model.specs.Bytes.{u32_bytes, u32_at}
use Rattle.computations.proofs.Places.{u32_back, u32_small, u32_fits, IsByte, joined, zeros}
use Rattle.detector.specs.Detector.{detector, DetectorSound, detector_store, detector_load, detector_take, moved, spike, sixteenths, most_predicted, most_total}
use Rattle.detector.specs.declared.state.DetectorState.{DetectorState}

-- the way up, and the way down
pub moved_up : (p a : ℕ) → p ≤ sixteenths a → moved p a ≡ p + (16 * a - p) / 4
moved_up p a h =
    let e : pos (16 * a) -ℤ pos p ≡ pos (16 * a - p) = omega (arith, ints) in
    ap (λ (z : ℤ). unsigned_abs (pos p +ℤ int_div z (pos 4))) e

pub moved_down : (p a : ℕ) → sixteenths a < p → moved p a ≡ p - (p - 16 * a) / 4
moved_down p a h =
    let e : pos (16 * a) -ℤ pos p ≡ negsuc (p - 16 * a - 1) = omega (arith, ints) in
    let k : suc (p - 16 * a - 1) ≡ p - 16 * a = omega arith in
    let f : pos p +ℤ neg_ℤ (pos ((p - 16 * a) / 4)) ≡ pos (p - (p - 16 * a) / 4) = omega (arith, ints) in
    ap (λ (z : ℤ). unsigned_abs (pos p +ℤ int_div z (pos 4))) e ∙
    ap (λ (n : ℕ). unsigned_abs (pos p +ℤ neg_ℤ (pos (n / 4)))) k ∙
    ap unsigned_abs f

pub moved_bound : (p a : ℕ) → p ≤ most_predicted → a ≤ most_amount → moved p a ≤ most_predicted
moved_bound p a h k =
    elim (leb_tells p (sixteenths a)) [
      | inl e ↦ omega (arith, moved_up p a e.1, e.1)
      | inr e ↦ omega (arith, moved_down p a e.1, e.1)
    ]

pub fine_fits : (s : DetectorState) (w t a : ℕ) → detector.verdict s w t a ≡ Fine → s.total + a ≤ most_total
fine_fits s w t a e = grind (arith, nat_tests)

-- what is emitted is what was taken
told : (b : Bool) (t a : ℕ) (e : ℕ × ℕ) → cond b (Some (t, a)) None ≡ Some e → (t, a) ≡ e
told true t a e h = cc
told false t a e h = let z : ◌≡◌ {A = ℕ} 0 1 = cc in absurd (omega arith)

pub taken_emits
    : (s : DetectorState) (w t a : ℕ) (e : ℕ × ℕ)
    → Takes detector DetectorSound s w t a
    → (detector_take s w t a).1 ≡ Some e
    → Emits t t e
taken_emits s w t a e h k =
    subst
    (Emits t t)
    (told (spike s.predicted a) t a e k)
    (record { stamped = refl; reached = omega arith; some = h.some; few = h.few })

pub taken_sound : (s : DetectorState) (w t a : ℕ) → Takes detector DetectorSound s w t a → DetectorSound (detector_take s w t a).0
taken_sound s w t a h =
    record { predicted = moved_bound s.predicted a h.sound.predicted h.few; total = fine_fits s w t a h.fine; time = h.time }

-- nothing is due, so nothing fires
never : {P : Type 0} (s : DetectorState) (w d : ℕ) → Fires detector DetectorSound s w d → P
never s w d h = let e = h.due in let z : ◌≡◌ {A = ℕ} 0 1 = cc in absurd (omega arith)

pub loaded_sound : (bs : List ℕ) → StateBytes bs → DetectorSound (detector_load bs)
loaded_sound bs h =
    record { predicted = omega arith; total = u32_fits bs 4 h.small; time = omega arith }

abbrev rest : ℕ → List ℕ → List ℕ
rest n bs = u32_bytes n ++ bs

small_rest : (n : ℕ) (bs : List ℕ) → ((k : ℕ) → IsByte (slice_index bs k)) → (k : ℕ) → IsByte (slice_index (rest n bs) k)
small_rest n bs h = joined IsByte (omega arith) (u32_bytes n) bs (u32_small n) h

pub stored_bytes : (s : DetectorState) → StateBytes (detector_store s)
stored_bytes s =
    record {
      size = refl;
      small =
          small_rest s.predicted (rest s.total (rest s.mark (replicate 20 0)))
          (small_rest s.total (rest s.mark (replicate 20 0)) (small_rest s.mark (replicate 20 0) (zeros IsByte (omega arith) 20)));
    }

pub back : (s : DetectorState) → DetectorSound s → detector_load (detector_store s) ≡ s
back s h =
    let p = u32_back s.predicted (omega (arith, h.predicted)) in
    let t = u32_back s.total (omega (arith, h.total)) in
    let m = u32_back s.mark (omega (arith, h.time)) in
    let x : min (u32_at (u32_bytes s.predicted) 0) most_predicted ≡ s.predicted = omega (arith, p, h.predicted) in
    let y : min (u32_at (u32_bytes s.mark) 0) last_time ≡ s.mark = omega (arith, m, h.time) in
    ap (λ (n : ℕ). record { predicted = n; total = u32_at (u32_bytes s.total) 0; mark = min (u32_at (u32_bytes s.mark) 0) last_time }) x ∙
    ap (λ (n : ℕ). record { predicted = s.predicted; total = n; mark = min (u32_at (u32_bytes s.mark) 0) last_time }) t ∙
    ap (λ (n : ℕ). record { predicted = s.predicted; total = s.total; mark = n }) y

pub detector_lawful : Lawful detector DetectorSound
detector_lawful =
    record {
      take_mark_rises = λ s w t a h. h.past_mark;
      take_mark_bound = λ s w t a b h x y z. z;
      fire_mark_rises = λ s w d h. never s w d h;
      fire_mark_bound = λ s w d b h x y. never s w d h;
      take_emits = taken_emits;
      fire_emits = λ s w d e h x. never s w d h;
      take_due = λ s w t a b h x y. tt;
      fire_due = λ s w d h. tt;
      take_sound = taken_sound;
      fire_sound = λ s w d h. never s w d h;
      load_sound = loaded_sound;
      store_bytes = λ s h. stored_bytes s;
      reads_back = back;
      first_mark = refl;
      first_bytes = refl;
    }

pub detector_totals : Totals detector DetectorSound (λ s. s.total)
detector_totals = record { first = refl; take_adds = λ s w t a h. refl; fire_keeps = λ s w d h. refl }
