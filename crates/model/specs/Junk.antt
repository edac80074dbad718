-- The page that a torn write leaves behind. Assumes nothing.
use Rattle.std.specs.Prelude.{ℕ, List, replicate}
use Rattle.model.specs.Limits.{page_bytes}
use Rattle.model.specs.declared.call.Junk.{Junk}
use Rattle.model.specs.declared.call.Junk.TheVariants.{Fill, Page}

abbrev pub junk_bytes : Junk → List ℕ
junk_bytes (Fill b) = replicate page_bytes b
junk_bytes (Page p) = p.now
