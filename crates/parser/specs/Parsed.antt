-- The call that a line of text says, or the word at fault and what should have stood there. Assumes nothing.
use Rattle.std.specs.Prelude.{ℕ, cond, List, length, Some, None, Ok, Err, codes, Option, Result, ◌==◌}
use Rattle.std.specs.Str.{bytes_eq}
use Rattle.model.specs.declared.call.Call.{Call}
use Rattle.model.specs.declared.call.Call.TheVariants as call
use Rattle.model.specs.declared.call.Junk.TheVariants.{Fill as FillByte}
use Rattle.frames.specs.declared.kind.Kind.{Kind}
use Rattle.frames.specs.declared.kind.Kind.TheVariants as kind
use Rattle.parser.specs.declared.field.Field.{Field}
use Rattle.parser.specs.declared.field.Field.TheVariants.{Sender, Stop, Serial, Time, Amount, Node, Place, Left, Tear, Fill}
use Rattle.parser.specs.declared.words.Misread.{Misread}
use Rattle.parser.specs.declared.words.Wanted.{Wanted}
use Rattle.parser.specs.declared.words.Wanted.TheVariants as wanted
use Rattle.parser.specs.Fields.{field_name, most_of}
use Rattle.parser.specs.Numerals.{number_of}
use Rattle.parser.specs.Words.{word_of, rest_of}

-- something read and the text after it, or the word at fault and what was wanted
abbrev pub Took : Type 0 → Type 0
Took X = Result (X × List ℕ) (List ℕ × Wanted)

abbrev pub and_then : {X Y : Type 0} → Took X → (X → List ℕ → Took Y) → Took Y
and_then (Ok p) next = next p.0 p.1
and_then (Err e) next = Err e

abbrev pub numbered : Field → List ℕ → List ℕ → Option ℕ → Took ℕ
numbered f word rest None = Err (word, wanted.Number f)
numbered f word rest (Some n) = Ok (n, rest)

-- a number
unfoldable pub value_from : Field → List ℕ → Took ℕ
value_from f text = numbered f (word_of text) (rest_of text) (number_of (most_of f) (word_of text))

-- the field's name and a number
unfoldable pub named_from : Field → List ℕ → Took ℕ
named_from f text = cond (bytes_eq (word_of text) (field_name f)) (value_from f (rest_of text)) (Err (word_of text, wanted.Name f))

-- the numbers of a call of a kind, in their order
abbrev pub call_from : Kind → List ℕ → Took Call
call_from kind.HandIn text =
    and_then (named_from Sender text) (λ sender t. and_then (named_from Stop t) (λ stop t. and_then (named_from Serial t) (λ serial t.
    and_then (named_from Time t) (λ time t. and_then (named_from Amount t) (λ amount t.
    Ok (call.HandIn record { name = record { sender = sender; serial = serial; time = time }; stop = stop; amount = amount }, t))))))
call_from kind.Advance text = and_then (value_from Time text) (λ time t. Ok (call.Advance time, t))
call_from kind.Fire text = and_then (value_from Node text) (λ node t. Ok (call.Fire node, t))
call_from kind.Send text = Ok (call.Send, text)
call_from kind.Lose text = and_then (value_from Place text) (λ place t. Ok (call.Lose place, t))
call_from kind.Repeat text = and_then (value_from Place text) (λ place t. Ok (call.Repeat place, t))
call_from kind.Deliver text = and_then (value_from Place text) (λ place t. Ok (call.Deliver place, t))
call_from kind.Pass text = Ok (call.Pass, text)
call_from kind.Restart text =
    and_then (value_from Node text) (λ node t. and_then (named_from Left t) (λ left t. and_then (named_from Tear t) (λ tear t.
    and_then (named_from Fill t) (λ fill t. Ok (call.Restart node left tear (FillByte fill), t)))))
call_from kind.Show text = Ok (call.Show, text)
call_from kind.MarkDone text = and_then (named_from Stop text) (λ stop t. and_then (named_from Serial t) (λ serial t. Ok (call.MarkDone stop serial, t)))

-- the kind of call that a word names
abbrev pub kind_named : List ℕ → Option Kind
kind_named w =
    cond (bytes_eq w (codes "hand-in")) (Some kind.HandIn) (cond (bytes_eq w (codes "advance")) (Some kind.Advance)
    (cond (bytes_eq w (codes "fire")) (Some kind.Fire) (cond (bytes_eq w (codes "send")) (Some kind.Send)
    (cond (bytes_eq w (codes "lose")) (Some kind.Lose) (cond (bytes_eq w (codes "repeat")) (Some kind.Repeat)
    (cond (bytes_eq w (codes "deliver")) (Some kind.Deliver) (cond (bytes_eq w (codes "pass")) (Some kind.Pass)
    (cond (bytes_eq w (codes "restart")) (Some kind.Restart) (cond (bytes_eq w (codes "show")) (Some kind.Show)
    (cond (bytes_eq w (codes "done")) (Some kind.MarkDone) None))))))))))

-- no word may follow
abbrev pub ended : Took Call → Result (Option Call) (List ℕ × Wanted)
ended (Err e) = Err e
ended (Ok p) = cond (length (word_of p.1) == 0) (Ok (Some p.0)) (Err (word_of p.1, wanted.End))

abbrev pub parsed_as : List ℕ → List ℕ → Option Kind → Result (Option Call) (List ℕ × Wanted)
parsed_as word rest None = Err (word, wanted.Call)
parsed_as word rest (Some k) = ended (call_from k rest)

-- what a line says; a line without words says nothing
abbrev pub parsed : List ℕ → Result (Option Call) (List ℕ × Wanted)
parsed line = cond (length (word_of line) == 0) (Ok None) (parsed_as (word_of line) (rest_of line) (kind_named (word_of line)))

-- what was answered, with the text that is left, or with the word at fault
abbrev pub took : {X : Type 0} → Result X Misread → List ℕ → Took X
took (Ok x) rest = Ok (x, rest)
took (Err m) rest = Err (m.word.now, m.wanted)

abbrev pub answered : Result (Option Call) Misread → Result (Option Call) (List ℕ × Wanted)
answered (Ok c) = Ok c
answered (Err m) = Err (m.word.now, m.wanted)
