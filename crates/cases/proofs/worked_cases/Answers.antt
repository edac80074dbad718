use Rattle.std.proofs.Common.{refl}
use Rattle.counter.specs.Counter.{earliest_from}
use Rattle.cases.specs.Worked.{Counted, Detected}
use Rattle.cases.proofs.worked_cases.Goals as goal

counts : Counted
unfolding earliest_from
counts =
    record {
      empty_239 = record { done = refl; named = refl; counted = refl };
      empty_240 = refl;
      at_60_empty_59 = refl;
      at_60_empty_60 = record { done = refl; named = refl; counted = refl };
      at_60_empty_299 = record { done = refl; named = refl; counted = refl };
      at_60_empty_300 = refl;
      at_60_open_239 = record { done = refl; named = refl; counted = refl };
      at_60_open_240 = refl;
      up_to_the_largest_sum = record { done = refl; named = refl; counted = refl };
      past_the_largest_sum = refl;
    }

detects : Detected
detects =
    record {
      predicts_nothing = refl;
      twelve_tells = refl;
      twelve_moves = refl;
      five_is_quiet = refl;
      five_moves = refl;
      three_is_quiet = refl;
      three_moves = refl;
      two_is_quiet = refl;
      two_moves = refl;
      ten_at_80_tells = refl;
      ten_at_81_is_quiet = refl;
    }

pub returns : goal.returns
returns c =
    record {
      counted = counts;
      detected = detects;
      shadowed = λ point. record { cut = λ tear. refl; old_at_0 = refl; new_at_1 = refl; old_at_2 = refl };
      journalled = λ point tear. record {
        cut = refl;
        new = refl;
        off = refl;
        with_one_cut = refl;
        with_one_off = refl;
        with_two_done = refl;
        with_two_on = refl;
        with_two_left = refl;
      };
    }
