-- The bounds of the subject. Assumes nothing.
use Rattle.std.specs.Prelude.{ℕ, Bool, ◌&&◌, nat_le, nat_lt}
use Rattle.model.specs.declared.record.Record.{Record}

-- the last second that a record, a production or a watermark can have
abbrev pub last_time : ℕ
last_time = 4000000000

-- the last serial that a stop can give; it is never given
abbrev pub last_serial : ℕ
last_serial = 4294967295

-- the largest amount
abbrev pub most_amount : ℕ
most_amount = 65535

-- the number of stops, which are numbered from 0
abbrev pub stops : ℕ
stops = 32

-- the number of productions of a stop that may be pending
abbrev pub most_pending : ℕ
most_pending = 4

-- the number of names that a stop's row holds
abbrev pub most_names : ℕ
most_names = 40

-- the number of messages that the link holds
abbrev pub most_messages : ℕ
most_messages = 16

-- the number of bytes of a page, and so of a row
abbrev pub page_bytes : ℕ
page_bytes = 512

-- a record that may be handed in: its stop and its time exist, and its amount is at least 1 and no larger than the largest
abbrev pub in_range : Record → Bool
in_range r = nat_lt r.stop stops && (nat_le r.name.time last_time && (nat_lt 0 r.amount && nat_le r.amount most_amount))
