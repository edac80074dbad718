use Rattle.std.proofs.Common.{◌≡◌, Some, None, Err, arith, sym, refl, ap, ◌∙◌}
use Rattle.std.proofs.lemmas.Result.{err_from_is_err_and}
use Rattle.parser.specs.Parsed.{answered, kind_named}
use Rattle.parser.specs.declared.words.Wanted.TheVariants as wanted
use Rattle.parser.proofs.Answered.{no_words, unknown, broken, more_words, whole}
use Rattle.parser.proofs.parse.parse_line.Goals as goal

pub returns-then-is_empty : goal.returns-then-is_empty
returns-then-is_empty c =
    let s = no_words c.args.line.now c.word-word.result.now _ c.word-word.ensures.word c.word-word.ensures.rest (sym c.if-is_empty.ensures) in
    record { says = s.says; back = s.back }

pub returns-in_err-kind : goal.returns-in_err-kind
returns-in_err-kind c =
    let p = err_from_is_err_and c.from_residual.result c.from_residual.ensures.1 in
    let none : None ≡ kind_named c.word-word.result.now = grind arith in
    let e : answered c.from_residual.result ≡ Err (c.word-word.result.now, wanted.Call) = rw (p.1, p.2) (grind arith) in
    let s = unknown c.args.line.now c.word-word.result.now _ c.word-word.ensures.word c.word-word.ensures.rest
    (sym c.if-is_empty.ensures) none in
    record { says = e ∙ s.says; back = λ d h is. e ∙ s.back d h is }

pub returns-in_err-call : goal.returns-in_err-call
returns-in_err-call c =
    let known : Some c.in_ok-kind.kind ≡ kind_named c.word-word.result.now = grind arith in
    let p = err_from_is_err_and c.from_residual-in_err-call.result c.from_residual-in_err-call.ensures.1 in
    let e = ap answered (p.1 ∙ ap (λ m. Err m) p.2) in
    let s = broken c.args.line.now c.word-word.result.now _ c.word-word.ensures.word c.word-word.ensures.rest
    (sym c.if-is_empty.ensures) c.in_ok-kind.kind known _ c.in_err-call.ensures _ refl in
    record { says = e ∙ s.says; back = λ d h is. e ∙ s.back d h is }

pub returns-then-not-is_empty : goal.returns-then-not-is_empty
returns-then-not-is_empty c =
    let known : Some c.in_ok-kind.kind ≡ kind_named c.word-word.result.now = grind arith in
    let s = more_words c.args.line.now c.word-word.result.now _ c.word-word.ensures.word c.word-word.ensures.rest
    (sym c.if-is_empty.ensures) c.in_ok-kind.kind known _ c.in_ok-call.ensures
    c.in_ok-call.call _ c.word-word-2.result.now refl c.word-word-2.ensures.word (sym c.if-not-is_empty.ensures) in
    record { says = s.says; back = s.back }

pub returns : goal.returns
returns c =
    let known : Some c.in_ok-kind.kind ≡ kind_named c.word-word.result.now = grind arith in
    let s = whole c.args.line.now c.word-word.result.now _ c.word-word.ensures.word c.word-word.ensures.rest
    (sym c.if-is_empty.ensures) c.in_ok-kind.kind known _ c.in_ok-call.ensures
    c.in_ok-call.call _ c.word-word-2.result.now refl c.word-word-2.ensures.word (sym c.if-not-is_empty.ensures) in
    record { says = s.says; back = s.back }
