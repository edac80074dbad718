use Rattle.std.proofs.Common.{ℕ, ◌<◌, sym, ap, ◌∙◌, arith}
use Rattle.model.specs.Limits.{stops}
use Rattle.model.specs.OnBytes.{on_bytes}
use Rattle.model.specs.Row.{Row}
use Rattle.law.specs.Stops.{least_due, least_time}
use Rattle.node.proofs.Judging.{low_more, low_none}
use Rattle.node.proofs.Showing.{stays_then, stays_here}
use Rattle.node.proofs.node.Node.low_watermark.Goals as goal

pub loop-stop-init : goal.loop-stop-init
loop-stop-init g c = (
  stays_here g.S.Store g.N.NameSet g.C.Computation g.met.S.Store.turn_within,
  λ n shows on. (shows.follows on).watermark ∙ sym (low_none (on_bytes g.C.Computation.operations) n.row n.w),
)

pub loop-stop-preserved : goal.loop-stop-preserved
loop-stop-preserved g c =
    let ops = on_bytes g.C.Computation.operations in
    let i = c.loop-stop.stop in
    let inv = c.loop-stop.invariant in
    let read = c.in_ok-row.ensures in
    let below : i < stops = omega arith in (
      stays_then g.S.Store g.N.NameSet g.C.Computation g.met.S.Store.turn_within inv.0 read.stays,
      λ n shows on.
          let row_is = read.row n (inv.0.shows n shows) on below in
          c.low_in-low.ensures
          ∙ ap (λ (r : Row). least_due (ops.due r.state) (least_time r.pending c.loop-stop.low)) row_is
          ∙ ap (λ (low : ℕ). least_due (ops.due (n.row i).state) (least_time (n.row i).pending low)) (inv.1 n shows on)
          ∙ sym (low_more ops n.row n.w i),
    )
