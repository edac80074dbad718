use Rattle.std.proofs.Common.{◌≡◌, ◌+◌, ◌++◌, drop, string_bytes}
use Rattle.account.specs.Account.{events_from}
use Rattle.account.proofs.event_lines.Given as goal

abbrev pub invariant-loop-i : goal.invariant-loop-i
invariant-loop-i l = string_bytes l.text ++ events_from (l.i + 1) (drop l.i l.outcomes) ≡ events_from 1 l.outcomes
