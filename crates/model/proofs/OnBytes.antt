-- The laws of a computation hold of it on the 32 bytes of its state, where every 32 bytes are sound.
use Rattle.std.proofs.Common.{◌≡◌, ℕ, ◌+◌, ◌≤◌, List, sym, refl, subst}
use Rattle.model.specs.Computation.{Computation, Lawful, Takes, Fires, Conserves, Totals, StateBytes, Emits, Upto, emitted}
use Rattle.model.specs.OnBytes.{on_bytes}

module _ {S : Type 0} (c : Computation S) (Sound : S → Type 0) (l : Lawful c Sound) where
  -- a take of the bytes is a take of the state that they are
  pub taking : (bs : List ℕ) (w t a : ℕ) → Takes (on_bytes c) StateBytes bs w t a → Takes c Sound (c.load bs) w t a
  taking bs w t a h =
      record {
        sound = l.load_sound bs h.sound;
        watermark = h.watermark;
        time = h.time;
        some = h.some;
        few = h.few;
        past_mark = h.past_mark;
        past_watermark = h.past_watermark;
        fine = h.fine;
      }

  pub firing : (bs : List ℕ) (w d : ℕ) → Fires (on_bytes c) StateBytes bs w d → Fires c Sound (c.load bs) w d
  firing bs w d h =
      record { sound = l.load_sound bs h.sound; watermark = h.watermark; due = h.due; reached = h.reached }

  -- the bytes after a take, and after a fire, are those of the state after it
  pub taken_back
      : (bs : List ℕ) (w t a : ℕ)
      → Takes (on_bytes c) StateBytes bs w t a
      → (c.take (c.load bs) w t a).0 ≡ c.load (c.store (c.take (c.load bs) w t a).0)
  taken_back bs w t a h = sym (l.reads_back _ (l.take_sound _ w t a (taking bs w t a h)))

  pub fired_back
      : (bs : List ℕ) (w d : ℕ)
      → Fires (on_bytes c) StateBytes bs w d
      → (c.fire (c.load bs)).0 ≡ c.load (c.store (c.fire (c.load bs)).0)
  fired_back bs w d h = sym (l.reads_back _ (l.fire_sound _ w d (firing bs w d h)))

  pub lawful_on_bytes : Lawful (on_bytes c) StateBytes
  lawful_on_bytes =
      record {
        take_mark_rises = λ bs w t a h. subst (λ (s : S). c.mark (c.load bs) ≤ c.mark s) (taken_back bs w t a h) (l.take_mark_rises _ w t a (taking bs w t a h));
        take_mark_bound = λ bs w t a b h x y z. subst (λ (s : S). c.mark s ≤ b) (taken_back bs w t a h) (l.take_mark_bound _ w t a b (taking bs w t a h) x y z);
        fire_mark_rises = λ bs w d h. subst (λ (s : S). c.mark (c.load bs) ≤ c.mark s) (fired_back bs w d h) (l.fire_mark_rises _ w d (firing bs w d h));
        fire_mark_bound = λ bs w d b h x y. subst (λ (s : S). c.mark s ≤ b) (fired_back bs w d h) (l.fire_mark_bound _ w d b (firing bs w d h) x y);
        take_emits = λ bs w t a e h x. subst (λ (s : S). Emits t (c.mark s) e) (taken_back bs w t a h) (l.take_emits _ w t a e (taking bs w t a h) x);
        fire_emits = λ bs w d e h x. subst (λ (s : S). Emits d (c.mark s) e) (fired_back bs w d h) (l.fire_emits _ w d e (firing bs w d h) x);
        take_due = λ bs w t a b h x y. subst (λ (s : S). Upto b (c.due s)) (taken_back bs w t a h) (l.take_due _ w t a b (taking bs w t a h) x y);
        fire_due = λ bs w d h. subst (λ (s : S). Upto d (c.due s)) (fired_back bs w d h) (l.fire_due _ w d (firing bs w d h));
        take_sound = λ bs w t a h. l.store_bytes _ (l.take_sound _ w t a (taking bs w t a h));
        fire_sound = λ bs w d h. l.store_bytes _ (l.fire_sound _ w d (firing bs w d h));
        load_sound = λ bs h. h;
        store_bytes = λ bs h. h;
        reads_back = λ bs h. refl;
        first_mark = l.first_mark;
        first_bytes = refl;
      }

  pub conserves_on_bytes : (held : S → ℕ) → Conserves c Sound held → Conserves (on_bytes c) StateBytes (λ bs. held (c.load bs))
  conserves_on_bytes held k =
      record {
        first = k.first;
        take_conserves = λ bs w t a h. subst (λ (s : S). held s + emitted (c.take (c.load bs) w t a).1 ≡ held (c.load bs) + a) (taken_back bs w t a h) (k.take_conserves _ w t a (taking bs w t a h));
        fire_conserves = λ bs w d h. subst (λ (s : S). held s + emitted (c.fire (c.load bs)).1 ≡ held (c.load bs)) (fired_back bs w d h) (k.fire_conserves _ w d (firing bs w d h));
      }

  pub totals_on_bytes : (total : S → ℕ) → Totals c Sound total → Totals (on_bytes c) StateBytes (λ bs. total (c.load bs))
  totals_on_bytes total k =
      record {
        first = k.first;
        take_adds = λ bs w t a h. subst (λ (s : S). total s ≡ total (c.load bs) + a) (taken_back bs w t a h) (k.take_adds _ w t a (taking bs w t a h));
        fire_keeps = λ bs w d h. subst (λ (s : S). total s ≡ total (c.load bs)) (fired_back bs w d h) (k.fire_keeps _ w d (firing bs w d h));
      }
