-- The laws of a computation, for the eager one.
use Rattle.std.specs.Prelude.{◌≡◌, ℕ, ◌≤◌, min, Bool, true, false, cond, List, [], ◌∷◌, ◌++◌, length, replicate, Some, None, Option, ◌==◌, slice_index, refl}
use Rattle.std.proofs.Common.{sym, ap, subst, ◌∙◌, arith}
use Rattle.model.specs.Computation.{Lawful, Emits, Upto, StateBytes}
use Rattle.model.specs.Limits.{last_time, most_amount}
use Rattle.model.specs.Bytes.{u32_at, u32_bytes}
use Rattle.computations.proofs.Places.{u32_back, u32_small, IsByte, each_place, joined, zeros}
use Rattle.eager.specs.Eager.{eager, EagerSound, InTime, eager_store, eager_load, due_or, due_bytes, pushed}
use Rattle.eager.specs.declared.state.EagerState.{EagerState}

-- the mark after a fire
pushed_rises : (m : ℕ) (o : Option ℕ) → m ≤ pushed m o
pushed_rises m None = omega arith
pushed_rises m (Some d) = omega arith

pushed_bound : (m d b : ℕ) (o : Option ℕ) → o ≡ Some d → m ≤ b → d ≤ b → pushed m o ≤ b
pushed_bound m d b o e h k = subst (λ (x : Option ℕ). pushed m x ≤ b) (sym e) (omega arith)

pushed_reaches : (m d : ℕ) (o : Option ℕ) → o ≡ Some d → d ≤ pushed m o
pushed_reaches m d o e = subst (λ (x : Option ℕ). d ≤ pushed m x) (sym e) (omega arith)

-- the due after a take
due_bound : (o : Option ℕ) (t b : ℕ) → Upto b o → b ≤ t → Upto b (due_or o t)
due_bound None t b u h = h
due_bound (Some d) t b u h = omega arith

due_in_time : (o : Option ℕ) (t : ℕ) → t ≤ last_time → InTime (due_or o t)
due_in_time None t h = h
due_in_time (Some d) t h = omega arith

largest : (t m : ℕ) (e : ℕ × ℕ) → t ≤ m → Some (m, most_amount) ≡ Some e → Emits t m e
largest t m e h k =
    let same : (m, most_amount) ≡ e = cc in
    subst (Emits t m) same (record { stamped = refl; reached = h; some = omega arith; few = omega arith })

loaded_due : (b : Bool) (n : ℕ) → InTime (cond b None (Some (min n last_time)))
loaded_due true n = tt
loaded_due false n = omega arith

loaded_sound : (bs : List ℕ) → EagerSound (eager_load bs)
loaded_sound bs = record { time = omega arith; in_time = loaded_due (slice_index bs 4 == 0) (u32_at bs 5) }

small_due : (o : Option ℕ) (i : ℕ) → IsByte (slice_index (due_bytes o) i)
small_due None = zeros IsByte (omega arith) 5
small_due (Some d) = joined IsByte (omega arith) (1 ∷ []) (u32_bytes d) (each_place IsByte (omega arith) (1 ∷ []) (omega arith, tt)) (u32_small d)

size_due : (m : ℕ) (o : Option ℕ) → length (u32_bytes m ++ due_bytes o ++ replicate 23 0) ≡ 32
size_due m None = refl
size_due m (Some d) = refl

stored_bytes : (s : EagerState) → StateBytes (eager_store s)
stored_bytes s =
    let z : IsByte 0 = omega arith in
    record {
      size = size_due s.mark s.due;
      small =
          joined IsByte z (u32_bytes s.mark) (due_bytes s.due ++ replicate 23 0) (u32_small s.mark)
          (joined IsByte z (due_bytes s.due) (replicate 23 0) (small_due s.due) (zeros IsByte z 23));
    }

back_to : (m : ℕ) (o : Option ℕ) → m ≤ last_time → InTime o → eager_load (eager_store (record { mark = m; due = o })) ≡ record { mark = m; due = o }
back_to m None h k =
    let x = u32_back m (omega arith) in
    let y : min (u32_at (u32_bytes m) 0) last_time ≡ m = omega (arith, x) in
    ap (λ (n : ℕ). record { mark = n; due = None }) y
back_to m (Some d) h k =
    let x = u32_back m (omega arith) in
    let y : min (u32_at (u32_bytes m) 0) last_time ≡ m = omega (arith, x) in
    let v = u32_back d (omega arith) in
    let w : min (u32_at (u32_bytes d) 0) last_time ≡ d = omega (arith, v) in
    ap (λ (n : ℕ). record { mark = n; due = Some (min (u32_at (u32_bytes d) 0) last_time) }) y ∙
    ap (λ (n : ℕ). record { mark = m; due = Some n }) w

pub eager_lawful : Lawful eager EagerSound
eager_lawful =
    record {
      take_mark_rises = λ s w t a h. h.past_mark;
      take_mark_bound = λ s w t a b h x y z. z;
      fire_mark_rises = λ s w d h. pushed_rises s.mark s.due;
      fire_mark_bound = λ s w d b h x y. pushed_bound s.mark d b s.due h.due x y;
      take_emits = λ s w t a e h x. largest t t e (omega arith) x;
      fire_emits = λ s w d e h x. largest d (pushed s.mark s.due) e (pushed_reaches s.mark d s.due h.due) x;
      take_due = λ s w t a b h x y. due_bound s.due t b x y;
      fire_due = λ s w d h. subst (Upto d) (sym h.due) (omega arith);
      take_sound = λ s w t a h. record { time = h.time; in_time = due_in_time s.due t h.time };
      fire_sound = λ s w d h. record { time = pushed_bound s.mark d last_time s.due h.due h.sound.time (omega (arith, h.reached, h.watermark)); in_time = h.sound.in_time };
      load_sound = λ bs h. loaded_sound bs;
      store_bytes = λ s h. stored_bytes s;
      reads_back = λ s h. back_to s.mark s.due h.time h.in_time;
      first_mark = refl;
      first_bytes = refl;
    }
