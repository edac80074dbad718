-- The number of each kind of frame, and which lengths its body can have. Assumes nothing.
use Rattle.std.specs.Prelude.{ℕ, Bool, cond, Some, None, Option, Result, ok_or, ◌==◌}
use Rattle.model.specs.declared.answer.Fault.{Fault}
use Rattle.model.specs.declared.answer.Fault.TheVariants.{UnknownKind}
use Rattle.frames.specs.declared.kind.Kind.{Kind}
use Rattle.frames.specs.declared.kind.Kind.TheVariants.{HandIn, Advance, Fire, Send, Lose, Repeat, Deliver, Pass, Restart, Show, MarkDone}

abbrev pub kind_number : Kind → ℕ
kind_number HandIn = 1
kind_number Advance = 2
kind_number Fire = 3
kind_number Send = 4
kind_number Lose = 5
kind_number Repeat = 6
kind_number Deliver = 7
kind_number Pass = 8
kind_number Restart = 9
kind_number Show = 10
kind_number MarkDone = 11

-- the kind of a number, if there is one
abbrev pub kind_of : ℕ → Option Kind
kind_of n =
    cond (n == 1) (Some HandIn) (cond (n == 2) (Some Advance) (cond (n == 3) (Some Fire)
    (cond (n == 4) (Some Send) (cond (n == 5) (Some Lose) (cond (n == 6) (Some Repeat)
    (cond (n == 7) (Some Deliver) (cond (n == 8) (Some Pass) (cond (n == 9) (Some Restart)
    (cond (n == 10) (Some Show) (cond (n == 11) (Some MarkDone) None))))))))))

abbrev pub kind_or_fault : ℕ → Result Kind Fault
kind_or_fault n = ok_or (kind_of n) UnknownKind

-- whether a body of a kind can have so many bytes
abbrev pub fits : Kind → ℕ → Bool
fits HandIn n = n == 14
fits Advance n = n == 4
fits Fire n = n == 1
fits Send n = n == 0
fits Lose n = n == 1
fits Repeat n = n == 1
fits Deliver n = n == 1
fits Pass n = n == 0
fits Restart n = n == 7
fits Show n = n == 0
fits MarkDone n = n == 6
