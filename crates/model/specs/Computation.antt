-- What a computation is, and the laws that it owes. A node counts with any computation that keeps them.
-- Assumes nothing.
use Rattle.std.specs.Prelude.{◌≡◌, ℕ, ◌+◌, ◌<◌, ◌≤◌, List, length, replicate, Some, None, Option, slice_index}
use Rattle.model.specs.Limits.{last_time, most_amount}
use Rattle.model.specs.declared.answer.Verdict.{Verdict}
use Rattle.model.specs.declared.answer.Verdict.TheVariants.{Fine}

pub record Computation (S : Type 0) : Type 0 where
  -- the second from which on the state still takes records
  pub mark : S → ℕ
  -- the second at which the state wants to fire, if it does
  pub due : S → Option ℕ
  -- what is said of a watermark, a time and an amount
  pub verdict : S → ℕ → ℕ → ℕ → Verdict
  -- the state after a take at a watermark, of a time and an amount, and what was emitted: a time and an amount
  pub take : S → ℕ → ℕ → ℕ → S × Option (ℕ × ℕ)
  -- the state after a fire, and what was emitted
  pub fire : S → S × Option (ℕ × ℕ)
  -- the 32 bytes of a state, and the state of 32 bytes
  pub store : S → List ℕ
  pub load : List ℕ → S

-- 32 bytes
pub record StateBytes (bs : List ℕ) : Type 0 where
  pub size : length bs ≡ 32
  pub small : (i : ℕ) → slice_index bs i < 256

abbrev pub zero_state : List ℕ
zero_state = replicate 32 0

-- a number is at most a due; where nothing is due, every number is
abbrev pub Upto : ℕ → Option ℕ → Type 0
Upto b None = Unit {0}
Upto b (Some d) = b ≤ d

-- the amount of what was emitted, 0 if nothing was
abbrev pub emitted : Option (ℕ × ℕ) → ℕ
emitted None = 0
emitted (Some e) = e.1

-- what is emitted from a take or a fire at a time: under the mark that is left, and not before that time
pub record Emits (at after : ℕ) (e : ℕ × ℕ) : Type 0 where
  pub stamped : e.0 ≡ after
  pub reached : at ≤ e.0
  pub some : 0 < e.1
  pub few : e.1 ≤ most_amount

-- the laws hold of the states that are sound, which loading, taking and firing give
module _ {S : Type 0} (c : Computation S) (Sound : S → Type 0) where
  -- when a take happens
  pub record Takes (s : S) (w t a : ℕ) : Type 0 where
    pub sound : Sound s
    pub watermark : w ≤ last_time
    pub time : t ≤ last_time
    pub some : 0 < a
    pub few : a ≤ most_amount
    pub past_mark : c.mark s ≤ t
    pub past_watermark : w ≤ t
    pub fine : c.verdict s w t a ≡ Fine

  -- when a fire happens
  pub record Fires (s : S) (w d : ℕ) : Type 0 where
    pub sound : Sound s
    pub watermark : w ≤ last_time
    pub due : c.due s ≡ Some d
    pub reached : d ≤ w

  pub record Lawful : Type 0 where
    pub take_mark_rises : (s : S) (w t a : ℕ) → Takes s w t a → c.mark s ≤ c.mark (c.take s w t a).0
    pub take_mark_bound : (s : S) (w t a b : ℕ) → Takes s w t a → c.mark s ≤ b → w ≤ b → t ≤ b → c.mark (c.take s w t a).0 ≤ b
    pub fire_mark_rises : (s : S) (w d : ℕ) → Fires s w d → c.mark s ≤ c.mark (c.fire s).0
    pub fire_mark_bound : (s : S) (w d b : ℕ) → Fires s w d → c.mark s ≤ b → d ≤ b → c.mark (c.fire s).0 ≤ b
    pub take_emits : (s : S) (w t a : ℕ) (e : ℕ × ℕ) → Takes s w t a → (c.take s w t a).1 ≡ Some e → Emits t (c.mark (c.take s w t a).0) e
    pub fire_emits : (s : S) (w d : ℕ) (e : ℕ × ℕ) → Fires s w d → (c.fire s).1 ≡ Some e → Emits d (c.mark (c.fire s).0) e
    -- every number up to the due and to the time taken is up to the due after the take
    pub take_due : (s : S) (w t a b : ℕ) → Takes s w t a → Upto b (c.due s) → b ≤ t → Upto b (c.due (c.take s w t a).0)
    pub fire_due : (s : S) (w d : ℕ) → Fires s w d → Upto d (c.due (c.fire s).0)
    pub take_sound : (s : S) (w t a : ℕ) → Takes s w t a → Sound (c.take s w t a).0
    pub fire_sound : (s : S) (w d : ℕ) → Fires s w d → Sound (c.fire s).0
    pub load_sound : (bs : List ℕ) → StateBytes bs → Sound (c.load bs)
    pub store_bytes : (s : S) → Sound s → StateBytes (c.store s)
    pub reads_back : (s : S) → Sound s → c.load (c.store s) ≡ s
    pub first_mark : c.mark (c.load zero_state) ≡ 0
    pub first_bytes : c.store (c.load zero_state) ≡ zero_state

  -- a computation that keeps hold of what it takes until it emits it
  pub record Conserves (held : S → ℕ) : Type 0 where
    pub first : held (c.load zero_state) ≡ 0
    pub take_conserves : (s : S) (w t a : ℕ) → Takes s w t a → held (c.take s w t a).0 + emitted (c.take s w t a).1 ≡ held s + a
    pub fire_conserves : (s : S) (w d : ℕ) → Fires s w d → held (c.fire s).0 + emitted (c.fire s).1 ≡ held s

  -- a computation that keeps a running total of what it takes
  pub record Totals (total : S → ℕ) : Type 0 where
    pub first : total (c.load zero_state) ≡ 0
    pub take_adds : (s : S) (w t a : ℕ) → Takes s w t a → total (c.take s w t a).0 ≡ total s + a
    pub fire_keeps : (s : S) (w d : ℕ) → Fires s w d → total (c.fire s).0 ≡ total s
