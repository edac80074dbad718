use Rattle.std.proofs.Common.{◌≡◌, sym, refl, ◌∙◌, subst}
use Rattle.model.specs.Limits.{page_bytes}
use Rattle.model.specs.Row.{Row}
use Rattle.rows.specs.Layout.{encoded, RowFits}
use Rattle.rows.specs.Meaning.{row_of}
use Rattle.rows.specs.Reading.{LaidOut}
use Rattle.rows.proofs.RowBytes.{encoded_by, encoded_once, laid_out}
use Rattle.rows.proofs.stop_row.StopRow.encode.Goals as goal

pub returns : goal.returns
returns c =
    let row : Row =
    record { next = c.args.self.now.next; state = c.args.self.now.state; pending = c.as_slice-pending.result.now; names = c.as_slice-names.result.now } in
    let same : row ≡ row_of c.args.self.now =
    λ k. record {
      next = c.args.self.now.next;
      state = c.args.self.now.state;
      pending = c.as_slice-pending.ensures.value k;
      names = c.as_slice-names.ensures.value k;
    } in
    let out = c.put_entries-2.new.out in
    let fits : RowFits row =
    record {
      next = c.head.ensures.fits;
      state = record { size = c.args.self.now.sized; small = c.put-2.ensures.small };
      few_pending = c.as_slice-pending.ensures.bound;
      few_names = c.as_slice-names.ensures.bound;
      pending = c.put_entries.ensures.fits;
      names = c.put_entries-2.ensures.fits;
    } in
    let bytes : out ≡ encoded row =
    encoded_by row page_bytes _ c.head.result c.put.new.out c.put-2.new.out c.put_entries.new.out out refl c.args.self.now.sized
    c.as_slice-pending.ensures.bound c.as_slice-names.ensures.bound refl c.head.ensures.bytes c.put.ensures.after
    c.put-2.ensures.after c.put_entries.ensures.after c.put_entries-2.ensures.after in
    record {
      bytes = subst (λ (r : Row). out ≡ encoded r) same bytes;
      fits = subst RowFits same fits;
      layout = subst (λ (r : Row). LaidOut r out) same (subst (LaidOut row) (sym bytes) (laid_out row fits));
      once = λ other f e. encoded_once other row f fits (e ∙ bytes) ∙ same;
    }
