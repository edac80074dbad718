use Rattle.std.proofs.Common.{[], arith}
use Rattle.std.proofs.lemmas.Result.{IfOk-weaker, MatchResult-at_ok}
use Rattle.runs.proofs.Counting.{counter_law}
use Rattle.boxes.proofs.Accounting.{only_memory, journal_blank, shadow_blank}
use Rattle.boxes.proofs.boxes.account_of.Goals as goal

pub returns : goal.returns
returns c =
    let parts = c.in_ok-parts.parts in
    let journal = c.in_ok-parts.ensures.collector in
    let shadow = c.in_ok-parts.ensures.spotter in
    let made = MatchResult-at_ok _ _ _ c.unwrap-boxes.ensures c.new.ensures in
    let new = made.blank (journal_blank _ journal) (shadow_blank _ shadow) in
    record {
      account = IfOk-weaker c.replay.result _ _ (λ t replays.
          let x = replays [] new.0 new.1 new.2 in
          record {
            outcomes = x.outcomes;
            events = x.extends.events;
            end = x.extends.end;
            told = x.extends.told;
            counted = (counter_law 4 2 2 2 (omega arith) (omega arith) (omega arith) (omega arith) x.extends.events x.extends.end x.extends.told.goes.run).1;
            text_is = x.text_is;
          }) c.replay.ensures.account;
      only_memory = only_memory c.replay.result c.replay.ensures.undamaged (λ damage. damage new.0 new.2);
    }
