use Rattle.std.proofs.Common.{◌+◌, ◌*◌, get_or, sym, ap, ◌∙◌, subst, arith, below_more}
use lib.Seq.{paste}
use Rattle.std.proofs.lemmas.List.{get_or_default}
use Rattle.rows.proofs.EntryLoops.{put_more}
use Rattle.rows.proofs.entries.put_entries.Goals as goal

pub loop-i-preserved : goal.loop-i-preserved
loop-i-preserved g c =
    let E = g.E.Entry in
    let xs = c.args.entries.now in
    let i = c.loop-i.i in
    let x = c.index-entries-i.result in
    let was = c.loop-i.out in
    let put = c.put_at.ensures in (
      below_more (λ k. (d : g.row.E.Denot) → E.fits (get_or xs k d)) i c.loop-i.invariant.0
          (λ d. subst E.fits (c.index-entries-i.is ∙ get_or_default xs i x d c.loop-i-test.true) put.fits),
      put_more E.bytes_of E.SIZE g.met.E.Entry.sized c.args.at c.args.out.now c.put_at.new.out was xs i x (E.bytes_of x) c.loop-i-test.true
          (omega (arith, c.requires)) (ap E.bytes_of c.index-entries-i.is) c.loop-i.invariant.1
          (put.after ∙ (λ k. paste was (c.args.at + c.SIZE.ensures k * i) (E.bytes_of x) (sym (g.met.E.Entry.sized x) k))),
    )
