-- The bytes of the watermark's row as they are written, and the watermark read back from them.
use Rattle.std.proofs.Common.{◌≡◌, ℕ, ◌-◌, ◌^◌, ◌<◌, List, [], ◌++◌, length, replicate, refl, ap, ◌∙◌, arith}
use lib.Seq.{paste}
use Rattle.model.specs.Limits.{page_bytes}
use Rattle.model.specs.Bytes.{u32_bytes, u32_at}
use Rattle.rows.specs.Layout.{encoded_watermark}
use Rattle.rows.proofs.Encoding.{over_zeros, padded_full}
use Rattle.rows.proofs.Places.{u32_at-from}

pub watermark_by : (w n : ℕ) (z h a : List ℕ) → n ≡ page_bytes → z ≡ replicate n 0 → h ≡ u32_bytes w → a ≡ paste z 0 h (length h) → a ≡ encoded_watermark w
unfolding encoded_watermark
watermark_by w n z h a page ez eh ea =
    let hl : length h ≡ 4 = ap length eh in
    let last : n - 4 ≡ page_bytes - 4 = omega arith in
    ea ∙ ap (λ q. paste q 0 h (length h)) ez ∙ over_zeros [] h n 0 (length h) 4 refl refl (omega arith) (omega arith)
    ∙ ap (λ q. q ++ replicate (n - 4) 0) (padded_full 4 h hl) ∙ (λ k. eh k ++ replicate (last k) 0)

pub watermark_back : (w : ℕ) → w < 2 ^ 32 → u32_at (encoded_watermark w) 0 ≡ w
unfolding encoded_watermark
watermark_back w h = u32_at-from (encoded_watermark w) 0 w (replicate (page_bytes - 4) 0) h refl
