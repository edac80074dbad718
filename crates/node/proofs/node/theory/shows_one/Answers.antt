use Rattle.std.proofs.Common.{ℕ, ◌^◌, ◌<◌, List, sym, ap, ◌∙◌, arith}
use Rattle.model.specs.Power.{Power}
use Rattle.model.specs.Bytes.{u32_at}
use Rattle.rows.proofs.RowBytes.{encoded_once}
use Rattle.rows.proofs.WatermarkBytes.{watermark_back}
use Rattle.node.proofs.node.theory.shows_one.Goals as goal

pub returns : goal.returns
returns g c = λ v n k one other.
    let small : n.w < 2 ^ 32 = omega (arith, one.kept.watermark_fits) in
    let small-too : k.w < 2 ^ 32 = omega (arith, other.kept.watermark_fits) in
    let same_power = sym one.kept.power ∙ other.kept.power in
    record {
      rows = λ s h.
          encoded_once (n.row s) (k.row s) (one.kept.row s h).fits (other.kept.row s h).fits (sym (one.kept.row s h).encodes ∙ (other.kept.row s h).encodes);
      watermark =
          sym (watermark_back n.w small) ∙ ap (λ (bs : List ℕ). u32_at bs 0) (sym one.kept.watermark ∙ other.kept.watermark)
          ∙ watermark_back k.w small-too;
      power = same_power;
      queue = λ on. sym (one.follows on).queue_is ∙ (other.follows (sym (ap (λ (p : Power). p.on) same_power) ∙ on)).queue_is;
    }
