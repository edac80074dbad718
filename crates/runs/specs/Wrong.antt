-- Rules that differ from the right ones in one place, and break the law. Assumes nothing.
use Rattle.std.specs.Prelude.{ℕ, suc, cond, List, [], ◌∷◌, ◌++◌, Some, None, Option}
use Rattle.std.specs.List.{remove, slice_get}
use Rattle.model.specs.Computation.{Computation}
use Rattle.model.specs.Row.{Row}
use Rattle.model.specs.declared.answer.Answer.{Answer}
use Rattle.model.specs.declared.answer.Answer.TheVariants.{NotOldest, NoMessage}
use Rattle.model.specs.declared.answer.Outcome.{Outcome}
use Rattle.model.specs.declared.answer.Outcome.TheVariants.{Plain}
use Rattle.model.specs.declared.call.Call.TheVariants.{HandIn, Advance, Fire, Send, Lose, Repeat, Deliver, Pass, Restart, Show, MarkDone}
use Rattle.model.specs.declared.record.Message.{Message}
use Rattle.model.specs.declared.record.Message.TheVariants.{Produced, Acknowledged}
use Rattle.model.specs.declared.record.Production.{Production}
use Rattle.model.specs.declared.record.Record.{Record}
use Rattle.law.specs.Law.{Law}
use Rattle.law.specs.Node.{Kit, Node, Free, commit_row, raise}
use Rattle.law.specs.Pair.{Kits, Pair, happens, at_collector, at_spotter, with_link}
use Rattle.model.specs.Answers.{is_done}
use Rattle.model.specs.Row.{cleared_row}
use Rattle.model.specs.Names.{kept}
use Rattle.law.specs.Rows.{considered, floor_of, take_of, taken_row}
use Rattle.law.specs.Run.{Event, Rules, RunBy}
use Rattle.law.specs.Stops.{lowest}

-- some run by these rules ends where the law does not hold
pub record Breaks (kits : Kits) (rules : Rules) : Type 0 where
  pub events : List Event
  pub end : Pair
  pub run : RunBy rules events end
  pub broken : Law kits events end → ⊥

-- what is oldest is cleared by any acknowledgement, whatever its serial
abbrev pub clear_any : Kit → Free → ℕ → List Production → Node → Answer × Node
clear_any kit free s [] n = (NotOldest, n)
clear_any kit free s (x ∷ xs) n = commit_row kit free s (cleared_row (n.row s)) n

abbrev pub receive_hastily : Kits → Free → ℕ → Option Message → Pair → Outcome × Pair
receive_hastily kits free place None p = (Plain NoMessage, p)
receive_hastily kits free place (Some (Produced s x)) p = happens kits free (Deliver place) p
receive_hastily kits free place (Some (Acknowledged s serial)) p =
    at_collector
    (clear_any kits.collector free s (p.collector.row s).pending p.collector) (with_link (remove p.link place) p)

abbrev pub hasty : Kits → Rules
hasty kits free (HandIn r) p = happens kits free (HandIn r) p
hasty kits free (Advance t) p = happens kits free (Advance t) p
hasty kits free (Fire node) p = happens kits free (Fire node) p
hasty kits free Send p = happens kits free Send p
hasty kits free (Lose place) p = happens kits free (Lose place) p
hasty kits free (Repeat place) p = happens kits free (Repeat place) p
hasty kits free (Deliver place) p = receive_hastily kits free place (slice_get p.link place) p
hasty kits free Pass p = happens kits free Pass p
hasty kits free (Restart node left tear junk) p = happens kits free (Restart node left tear junk) p
hasty kits free Show p = happens kits free Show p
hasty kits free (MarkDone s n) p = happens kits free (MarkDone s n) p

-- a take drops the names at the floor too, one second too early
abbrev pub forgetful_row : Computation (List ℕ) → ℕ → Record → Row → Row
forgetful_row c w r row =
    record {
      next = (taken_row c w r row).next;
      state = (taken_row c w r row).state;
      pending = (taken_row c w r row).pending;
      names = kept (suc (floor_of c w (take_of c w r row).0)) row.names ++ (r.name ∷ []);
    }

abbrev pub take_forgetfully : Kit → Free → Record → Answer → Node → Answer × Node
take_forgetfully kit free r answer n =
    cond
    (is_done answer) (commit_row kit free r.stop (forgetful_row kit.computation n.w r (n.row r.stop)) n) (answer, n)

abbrev pub forgetful : Kits → Rules
forgetful kits free (HandIn r) p =
    let n = p.collector in
    let answer = considered kits.collector.computation n.power.on n.w r (n.row r.stop) in
    at_collector (take_forgetfully kits.collector free r answer n) p
forgetful kits free (Advance t) p = happens kits free (Advance t) p
forgetful kits free (Fire node) p = happens kits free (Fire node) p
forgetful kits free Send p = happens kits free Send p
forgetful kits free (Lose place) p = happens kits free (Lose place) p
forgetful kits free (Repeat place) p = happens kits free (Repeat place) p
forgetful kits free (Deliver place) p = happens kits free (Deliver place) p
forgetful kits free Pass p = happens kits free Pass p
forgetful kits free (Restart node left tear junk) p = happens kits free (Restart node left tear junk) p
forgetful kits free Show p = happens kits free Show p
forgetful kits free (MarkDone s n) p = happens kits free (MarkDone s n) p

-- a pass looks at pending times alone, and at no due
abbrev pub undue : Computation (List ℕ) → Computation (List ℕ)
undue c = record {
  mark = c.mark;
  due = λ s. None;
  verdict = c.verdict;
  take = c.take;
  fire = c.fire;
  store = c.store;
  load = c.load;
}

abbrev pub dueless : Kits → Rules
dueless kits free (HandIn r) p = happens kits free (HandIn r) p
dueless kits free (Advance t) p = happens kits free (Advance t) p
dueless kits free (Fire node) p = happens kits free (Fire node) p
dueless kits free Send p = happens kits free Send p
dueless kits free (Lose place) p = happens kits free (Lose place) p
dueless kits free (Repeat place) p = happens kits free (Repeat place) p
dueless kits free (Deliver place) p = happens kits free (Deliver place) p
dueless kits free Pass p =
    at_spotter (raise kits.spotter free (lowest (undue kits.collector.computation) p.collector.row p.collector.w) p.spotter) p
dueless kits free (Restart node left tear junk) p = happens kits free (Restart node left tear junk) p
dueless kits free Show p = happens kits free Show p
dueless kits free (MarkDone s n) p = happens kits free (MarkDone s n) p
