-- What the code answers of a text: the script, or the line at fault; want of memory refuses whatever the text is. Assumes nothing.
use Rattle.std.specs.Prelude.{◌≡◌, ℕ, Ok, Err, vec_items, Result, Vec}
use Rattle.std.specs.declared.alloc.Global.{Global}
use Rattle.assembly.specs.declared.failure.Failure.{Failure}
use Rattle.assembly.specs.declared.failure.Failure.TheVariants.{NoMemory, BadLine}
use Rattle.assembly.specs.Assembled.{Assembled}

abbrev pub Answers : Result (Vec ℕ Global) Failure → Assembled → Type 0
Answers (Ok script) a = a ≡ Ok (vec_items script)
Answers (Err NoMemory) a = Unit {0}
Answers (Err (BadLine number m)) a = a ≡ Err (number, m.word.now, m.wanted)
