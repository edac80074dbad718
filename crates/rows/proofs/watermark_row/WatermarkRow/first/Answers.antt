use Rattle.std.proofs.Common.{refl}
use Rattle.rows.specs.Layout.{encoded_watermark}
use Rattle.rows.proofs.watermark_row.WatermarkRow.first.Goals as goal

pub returns : goal.returns
unfolding encoded_watermark
returns c = record { row = refl; zeros = refl }
