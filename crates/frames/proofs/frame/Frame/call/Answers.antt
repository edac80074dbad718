use Rattle.std.proofs.Common.{rules, arith, ◌≤◌, ◌<◌, length, Some, ap}
use Rattle.frames.specs.declared.kind.Kind.TheVariants as kind
use Rattle.frames.specs.Frames.{framed}
use Rattle.frames.proofs.Decoding.{Two, Four, done_spelt, restart_spelt, hand_in_spelt}
use Rattle.frames.proofs.frame.Frame.call.Goals as goal

pub returns-in-HandIn-len14-clause-writes_back : goal.returns-in-HandIn-len14-clause-writes_back
returns-in-HandIn-len14-clause-writes_back c =
    let is = c.in-HandIn-len14.is in
    let b = c.in-HandIn-len14.field-0.now in
    let low : 14 ≤ length b = rw is at c.in-HandIn-len14.len_at_least in
    let high : length b < 15 = rw is at c.in-HandIn-len14.len_below in
    let f = rw is at c.from_le_bytes.ensures in
    let g = rw is at c.from_le_bytes-stop.ensures in
    let h = rw is at c.from_le_bytes-in-HandIn-len14.ensures in
    let i = rw is at c.from_le_bytes-in-HandIn-len14-2.ensures in
    let j = rw is at c.from_le_bytes-amount.ensures in
    let sender : Two b 0 c.from_le_bytes.result = search rules in
    let stop : Two b 2 c.from_le_bytes-stop.result = search rules in
    let serial : Four b 4 c.from_le_bytes-in-HandIn-len14.result = search rules in
    let time : Four b 8 c.from_le_bytes-in-HandIn-len14-2.result = search rules in
    let amount : Two b 12 c.from_le_bytes-amount.result = search rules in
    rw is (ap (λ bs. Some (framed kind.HandIn bs)) (hand_in_spelt b _ _ _ _ _ (omega arith) sender stop serial time amount))

pub returns-in-MarkDone-len6-clause-writes_back : goal.returns-in-MarkDone-len6-clause-writes_back
returns-in-MarkDone-len6-clause-writes_back c =
    let is = c.in-MarkDone-len6.is in
    let b = c.in-MarkDone-len6.field-0.now in
    let low : 6 ≤ length b = rw is at c.in-MarkDone-len6.len_at_least in
    let high : length b < 7 = rw is at c.in-MarkDone-len6.len_below in
    let f = rw is at c.from_le_bytes-in-MarkDone-len6.ensures in
    let g = rw is at c.from_le_bytes-in-MarkDone-len6-2.ensures in
    let stop : Two b 0 c.from_le_bytes-in-MarkDone-len6.result = search rules in
    let serial : Four b 2 c.from_le_bytes-in-MarkDone-len6-2.result = search rules in
    rw is (ap (λ bs. Some (framed kind.MarkDone bs)) (done_spelt b _ _ (omega arith) stop serial))

pub returns-in-Restart-len7-clause-writes_back : goal.returns-in-Restart-len7-clause-writes_back
returns-in-Restart-len7-clause-writes_back c =
    let is = c.in-Restart-len7.is in
    let b = c.in-Restart-len7.field-0.now in
    let low : 7 ≤ length b = rw is at c.in-Restart-len7.len_at_least in
    let high : length b < 8 = rw is at c.in-Restart-len7.len_below in
    let f = rw is at c.from_le_bytes-in-Restart-len7.ensures in
    let left : Four b 1 c.from_le_bytes-in-Restart-len7.result = search rules in
    rw is (ap (λ bs. Some (framed kind.Restart bs)) (restart_spelt b _ (omega arith) left))
