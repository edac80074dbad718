use Rattle.std.proofs.Common.{◌+◌, ◌*◌, ap, ◌∙◌, arith}
use Rattle.rows.proofs.EntryLoops.{read_more}
use Rattle.rows.proofs.entries.entries_in.Goals as goal

pub loop-i-preserved : goal.loop-i-preserved
loop-i-preserved g c =
    let entry = g.E.Entry.entry_in c.args.bytes.now in
    read_more (λ i. entry (c.args.at + g.E.Entry.SIZE * i)) g.row.N c.loop-i.i _ _ c.read_at.result (omega (arith, c.min-i-end.ensures, c.loop-i-test.true))
    (c.read_at.ensures ∙ ap (λ s. entry (c.args.at + s * c.loop-i.i)) c.SIZE.ensures) c.push.ensures.items c.loop-i.invariant
