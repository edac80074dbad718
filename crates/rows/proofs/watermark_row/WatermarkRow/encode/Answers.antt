use Rattle.std.proofs.Common.{◌≡◌, sym, refl, ap, ◌∙◌}
use Rattle.model.specs.Limits.{page_bytes}
use Rattle.model.specs.Bytes.{u32_at}
use Rattle.rows.specs.Layout.{encoded_watermark}
use Rattle.rows.proofs.WatermarkBytes.{watermark_by, watermark_back}
use Rattle.rows.proofs.watermark_row.WatermarkRow.encode.Goals as goal

pub returns : goal.returns
returns c =
    let w = c.args.self.now.watermark in
    let out = c.put.new.out in
    let bytes : out ≡ encoded_watermark w =
    watermark_by w page_bytes _ c.bytes_of.result out refl refl c.bytes_of.ensures.bytes c.put.ensures.after in
    record {
      bytes = bytes;
      fits = c.bytes_of.ensures.fits;
      once = λ other f e. sym (watermark_back other f) ∙ ap (λ l. u32_at l 0) (e ∙ bytes) ∙ watermark_back w c.bytes_of.ensures.fits;
    }
