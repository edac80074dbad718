-- The line of text that stands for a call. Assumes nothing.
use Rattle.std.specs.Prelude.{ℕ, List, ◌++◌, codes, decimal}
use Rattle.model.specs.declared.call.Call.{Call}
use Rattle.model.specs.declared.call.Call.TheVariants.{HandIn, Advance, Fire, Send, Lose, Repeat, Deliver, Pass, Restart, Show, MarkDone}
use Rattle.model.specs.declared.call.Junk.{Junk}
use Rattle.model.specs.declared.call.Junk.TheVariants.{Fill, Page}

-- a lent page of junk is only named: a line that says so cannot be read back
abbrev pub junk_words : Junk → List ℕ
junk_words (Fill fill) = codes " fill " ++ decimal fill
junk_words (Page page) = codes " page"

abbrev pub line_of : Call → List ℕ
line_of (HandIn r) =
    codes "hand-in sender " ++ (decimal r.name.sender ++ (codes " stop " ++ (decimal r.stop ++ (codes " serial " ++ (decimal r.name.serial
    ++ (codes " time " ++ (decimal r.name.time ++ (codes " amount " ++ decimal r.amount))))))))
line_of (Advance time) = codes "advance " ++ decimal time
line_of (Fire node) = codes "fire " ++ decimal node
line_of Send = codes "send"
line_of (Lose place) = codes "lose " ++ decimal place
line_of (Repeat place) = codes "repeat " ++ decimal place
line_of (Deliver place) = codes "deliver " ++ decimal place
line_of Pass = codes "pass"
line_of (Restart node left tear junk) =
    codes "restart " ++ (decimal node ++ (codes " left " ++ (decimal left ++ (codes " tear " ++ (decimal tear ++ junk_words junk)))))
line_of Show = codes "show"
line_of (MarkDone stop serial) = codes "done stop " ++ (decimal stop ++ (codes " serial " ++ decimal serial))
