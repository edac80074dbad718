use Rattle.std.proofs.Common.{◌≡◌, ℕ, List, ◌++◌, string_bytes, Option, sym, ap, ◌∙◌, arith}
use Rattle.model.specs.Limits.{stops}
use Rattle.pair.specs.Tallies.{measured, told_of}
use Rattle.pair.specs.declared.pair.Tally.{Tally}
use Rattle.replay.specs.Stops.{stops_below}
use Rattle.replay.proofs.Stopping.{none_below, one_more}
use Rattle.replay.proofs.stop_lines.stop_lines.Goals as goal

pub loop-stop-init : goal.loop-stop-init
loop-stop-init g c = (λ p shows. shows, λ p shows. c.new-text.ensures.bytes ∙ sym (none_below _))

pub loop-stop-preserved : goal.loop-stop-preserved
loop-stop-preserved g c =
    let stop = c.loop-stop.stop in
    let text = string_bytes c.loop-stop.text in
    let pushed = c.in_ok-push_str.ensures.bytes ∙ ap (λ (l : List ℕ). text ++ l) c.as_str.ensures.value in (
      λ p shows. c.one_stop.ensures.shows p (c.loop-stop.invariant.0 p shows),
      λ p shows.
          let tally : ℕ → Option Tally = told_of (measured g.C.Computation g.C.Conserving.holds) (measured g.D.Computation g.D.Totalling.totals) p in
          pushed
          ∙ ap (λ (t : List ℕ). t ++ string_bytes c.in_ok-line.line) (c.loop-stop.invariant.1 p shows)
          ∙ ap (λ (l : List ℕ). stops_below tally stop ++ l) (c.in_ok-line.ensures.text p (c.loop-stop.invariant.0 p shows))
          ∙ sym (one_more tally stop),
    )

pub returns : goal.returns
returns g c =
    let end : c.loop-stop.stop ≡ stops = omega arith in
    record {
      text = λ p shows. c.loop-stop.invariant.1 p shows ∙ ap (λ (n : ℕ). stops_below (told_of (measured g.C.Computation g.C.Conserving.holds) (measured g.D.Computation g.D.Totalling.totals) p) n) end;
      shows = c.loop-stop.invariant.0;
      undamaged = tt;
    }
