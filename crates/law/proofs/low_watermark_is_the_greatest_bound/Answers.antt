use Rattle.law.proofs.Best.{low_is}
use Rattle.law.proofs.low_watermark_is_the_greatest_bound.Goals as goal

pub returns : goal.returns
returns c = search low_is
