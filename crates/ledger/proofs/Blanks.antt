-- A blank store keeps a new node. Assumes nothing.
use Rattle.std.proofs.Common.{◌≡◌, ℕ, ◌<◌, List, [], length, get_or, replicate, sym, refl, ap, ◌∙◌, arith}
use lib.ListN.{get_or-replicate, length-replicate}
use Rattle.model.specs.Limits.{stops, page_bytes}
use Rattle.model.specs.Power.{Power}
use Rattle.model.specs.Row.{first_row}
use Rattle.model.specs.Store.{Stored}
use Rattle.rows.specs.Layout.{encoded, encoded_watermark, padded, RowFits}
use Rattle.law.specs.Node.{Node}
use Rattle.law.specs.Run.{NewNode}
use Rattle.law.proofs.Runs.{zero_bytes}
use Rattle.ledger.specs.Kept.{Kept, Blank}

-- a node that nothing has happened to, with this power
abbrev pub new_node : Power → Node
new_node p = record { row = λ q. first_row; w = 0; power = p; queue = [] }

abbrev zero_page : List ℕ
zero_page = replicate page_bytes 0

first_zeros : encoded first_row ≡ replicate page_bytes 0
unfolding encoded padded
first_zeros = refl

watermark_zeros : encoded_watermark 0 ≡ replicate page_bytes 0
unfolding encoded_watermark
watermark_zeros = refl

none : (i : ℕ) → i < 0 → ⊥
none i h = omega arith

first_fits : RowFits first_row
first_fits = record {
  next = omega arith;
  state = zero_bytes;
  few_pending = omega arith;
  few_names = omega arith;
  pending = λ i d h. absurd (none i h);
  names = λ i d h. absurd (none i h);
}

blank_row : (s : Stored) → Blank s → (q : ℕ) → q < 33 → get_or s.rows q [] ≡ replicate page_bytes 0
blank_row s b q h = ap (λ (rs : List (List ℕ)). get_or rs q []) b.rows ∙ get_or-replicate 33 q zero_page [] h

below : (q : ℕ) → q < stops → q < 33
below q h = omega arith

pub blank_new : (s : Stored) → Blank s → NewNode (new_node s.power)
blank_new s b = record { off = b.off; rows = λ q. refl; watermark = refl }

pub blank_kept : (s : Stored) → Blank s → Kept s (new_node s.power)
blank_kept s b = record {
  count = ap length b.rows ∙ length-replicate 33 zero_page;
  row = λ q h. record { encodes = blank_row s b q (below q h) ∙ sym first_zeros; fits = first_fits };
  watermark = blank_row s b stops (omega arith) ∙ sym watermark_zeros;
  watermark_fits = omega arith;
  power = refl;
}
