use Rattle.std.proofs.Common.{◌≡◌, ap, ◌∙◌}
use Rattle.std.specs.Int.{w32, from_le_bytes}
use Rattle.model.specs.Bytes.{u32_at}
use Rattle.rows.specs.Reading.{pending_in, names_in}
use Rattle.rows.proofs.Places.{u32_first}
use Rattle.rows.proofs.stop_row.StopRow.read.Goals as goal

pub returns : goal.returns
unfolding pending_in names_in
returns c =
    let next : c.from_le_bytes.result ≡ u32_at c.args.bytes.now 0 =
    c.from_le_bytes.ensures ∙ ap (from_le_bytes w32) c.bytes_at.ensures ∙ u32_first c.args.bytes.now in
    λ k. record { next = next k; state = c.bytes_at-2.ensures k; pending = c.entries_in.ensures k; names = c.entries_in-2.ensures k }
