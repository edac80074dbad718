use Rattle.std.proofs.Common.{◌≡◌, ℕ, true, Some, sym, ap, ◌∙◌}
use Rattle.std.proofs.lemmas.Bool.Decides.{Decides-eqb}
use Rattle.std.proofs.lemmas.Slice.Eq.{slice_eq-Decides}
use Rattle.std.specs.Bool.{then_some}
use Rattle.std.specs.Int.{w32, from_le_bytes}
use Rattle.std.specs.Option.{option_map}
use Rattle.model.specs.Bytes.{u32_at}
use Rattle.rows.specs.Layout.{encoded_watermark}
use Rattle.rows.specs.declared.watermark_row.WatermarkRow.{WatermarkRow}
use Rattle.rows.proofs.Places.{u32_first}
use Rattle.rows.proofs.WatermarkBytes.{watermark_back}
use Rattle.rows.proofs.watermark_row.WatermarkRow.decode.Goals as goal

pub returns-clause-decodes : goal.returns-clause-decodes
returns-clause-decodes c = λ w f e.
    let says : WatermarkRow → ℕ = λ row. row.watermark in
    let r : c.from_le_bytes.result ≡ w =
    c.from_le_bytes.ensures ∙ ap (from_le_bytes w32) c.bytes_at.ensures ∙ u32_first c.args.bytes.now ∙ ap (λ l. u32_at l 0) (sym e) ∙ watermark_back w f in
    let t : c.eq.result ≡ true = (slice_eq-Decides Decides-eqb _ _ c.eq.result c.eq.ensures).1 (c.encode.ensures.bytes ∙ ap encoded_watermark r ∙ e) in
    ap (option_map says) c.then_some.ensures ∙ ap (λ b. option_map says (then_some b (record { watermark = c.from_le_bytes.result }))) t ∙ ap Some r
