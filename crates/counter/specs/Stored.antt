-- The 32 bytes of a counter's state.
use Rattle.std.specs.Prelude.{◌≡◌, ℕ, ◌*◌, ◌/◌, ◌≤◌, min, List, [], ◌∷◌, ◌++◌, replicate, slice_index, slice_index_or, refl}
use Rattle.std.proofs.Common.{ap, ◌∙◌, arith}
use Rattle.model.specs.Limits.{last_time, most_amount}
use Rattle.model.specs.Computation.{StateBytes}
use Rattle.model.specs.Bytes.{u16_at, u32_at, u16_bytes, u32_bytes}
use Rattle.computations.proofs.Places.{u16_back, u32_back, u16_small, u32_small, u16_fits, IsByte, all_places, each_place, joined, zeros}
use Rattle.counter.specs.Counter.{CounterSound, counter_store, counter_load}
use Rattle.counter.specs.declared.state.CounterState.{CounterState}

abbrev AnAmount : ℕ → Type 0
AnAmount n = n ≤ most_amount

pub loaded_sound : (bs : List ℕ) → StateBytes bs → CounterSound (counter_load bs)
loaded_sound bs h =
    let fits : (i : ℕ) → AnAmount (u16_at bs i) = λ i. u16_fits bs i h.small in
    record {
      minute = omega arith;
      time = omega arith;
      four = refl;
      small = each_place AnAmount (omega arith) (counter_load bs).sums (fits 4, (fits 6, (fits 8, (fits 10, tt))));
    }

-- the bytes of the sums from one on, and the zeros behind them
abbrev rest : CounterState → ℕ → List ℕ → List ℕ
rest s i bs = u16_bytes (slice_index s.sums i) ++ bs

small_rest : (s : CounterState) (i : ℕ) (bs : List ℕ) → ((k : ℕ) → IsByte (slice_index bs k)) → (k : ℕ) → IsByte (slice_index (rest s i bs) k)
small_rest s i bs h = joined IsByte (omega arith) (u16_bytes (slice_index s.sums i)) bs (u16_small (slice_index s.sums i)) h

pub stored_bytes : (s : CounterState) → StateBytes (counter_store s)
stored_bytes s =
    let r : List ℕ = replicate 20 0 in
    record {
      size = refl;
      small =
          joined IsByte (omega arith) (u32_bytes s.mark) (rest s 0 (rest s 1 (rest s 2 (rest s 3 r)))) (u32_small s.mark)
          (small_rest s 0 (rest s 1 (rest s 2 (rest s 3 r))) (small_rest s 1 (rest s 2 (rest s 3 r)) (small_rest s 2 (rest s 3 r) (small_rest s 3 r (zeros IsByte (omega arith) 20)))));
    }

pub back : (s : CounterState) → CounterSound s → counter_load (counter_store s) ≡ s
back s h =
    let x = u32_back s.mark (omega (arith, h.time)) in
    let m : 60 * (min (u32_at (u32_bytes s.mark) 0) last_time / 60) ≡ s.mark = omega (arith, x, h.minute, h.time) in
    let four : (slice_index s.sums 0 ∷ slice_index s.sums 1 ∷ slice_index s.sums 2 ∷ slice_index s.sums 3 ∷ []) ≡ s.sums = all_places 4 s.sums h.four in
    let n : (i : ℕ) → u16_at (u16_bytes (slice_index s.sums i)) 0 ≡ slice_index_or s.sums i 0 = λ i. u16_back _ (omega (arith, h.small i)) in
    ap (λ (k : ℕ). record { mark = k; sums = (counter_load (counter_store s)).sums }) m ∙
    ap (λ (l : List ℕ). record { mark = s.mark; sums = l }) (cc (n 0, n 1, n 2, n 3, four))
