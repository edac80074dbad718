use Rattle.std.proofs.Common.{◌≡◌, true, Some, sym, ap, ◌∙◌}
use Rattle.std.proofs.lemmas.Bool.Decides.{Decides-eqb}
use Rattle.std.proofs.lemmas.Slice.Eq.{slice_eq-Decides}
use Rattle.std.specs.Bool.{then_some}
use Rattle.std.specs.Option.{option_map}
use Rattle.rows.specs.Layout.{encoded}
use Rattle.rows.specs.Meaning.{row_of}
use Rattle.rows.specs.Reading.{row_in}
use Rattle.rows.proofs.RowBytes.{row_back}
use Rattle.rows.proofs.stop_row.StopRow.decode.Goals as goal

pub returns-clause-decodes : goal.returns-clause-decodes
returns-clause-decodes c = λ row f e.
    let r : row_of c.read-row.result ≡ row = c.read-row.ensures ∙ ap row_in (sym e) ∙ row_back row f in
    let t : c.eq.result ≡ true = (slice_eq-Decides Decides-eqb _ _ c.eq.result c.eq.ensures).1 (c.encode.ensures.bytes ∙ ap encoded r ∙ e) in
    ap (option_map row_of) c.then_some.ensures ∙ ap (λ b. option_map row_of (then_some b c.read-row.result)) t ∙ ap Some r
