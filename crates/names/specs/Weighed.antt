-- A name taken at a stop as one number of 32 bits. Assumes nothing.
use Rattle.std.specs.Prelude.{ℕ, ◌+◌, ◌*◌, ◌%◌, ◌^◌}
use Rattle.names.specs.declared.taken.Taken.{Taken}

-- serial, time, sender and stop by their weights, added up
abbrev pub weighed : ℕ → ℕ → ℕ → ℕ → Taken → ℕ
weighed serial time sender stop p =
    (p.name.serial * serial + p.name.time * time + p.name.sender * sender + p.stop * stop) % 2 ^ 32
